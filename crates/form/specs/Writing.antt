-- Writing stored form 1 (document 01, rows 19 and 45): the answer, and what then stands in the lent buffer.
-- Assumes nothing.
use Rattle.std.specs.Prelude.{if◌then◌else◌, ℕ, zero, suc, Bool, true, false, List, [], ◌∷◌, ◌++◌, leb, ltb, length, get_or, take, drop, Result, Ok, Err}
use Rattle.meaning.specs.Tests.{◌below◌, ◌above◌, fails}
use Rattle.meaning.specs.Tables.{Row, ◌when◌, decide}
use Rattle.refusal.specs.declared.Refusal.{Refusal}
use Rattle.frame.specs.Writing.{over}
use Rattle.motors.specs.Motor.{zeros}
use Rattle.motors.specs.Register.{places, held, sound_of}
use Rattle.motors.specs.declared.found.Found.{Found}
use Rattle.motors.specs.declared.found.Found.TheVariants.{Broken, Held, New}
use Rattle.motors.specs.declared.motor.Motor.{Motor}
use Rattle.form.specs.Shape.{Shape}
use Rattle.form.specs.Layout.{form_length, entry_place, body_place, head_bytes, entry_of, form_of}
use Rattle.form.specs.FormOne.{form_one}

-- ---- the answer
-- What writing a form answers: the number of its bytes, or a refusal.
abbrev pub Written : Type 0
Written = Result ℕ Refusal

-- Why a form is not written: rows 19 and 45.
abbrev pub write_form_table : List Motor → ℕ → ℕ → List (Row Written)
write_form_table run count room =
    Err Refusal.BrokenRegister when fails (sound_of run count)
    ∷ Err Refusal.NoRoomForForm when room below form_length form_one count
    ∷ []

-- The first reason that applies, or the number of bytes.
unfoldable pub written_of : List Motor → ℕ → ℕ → Written
written_of run count room = decide (write_form_table run count room) (Ok (form_length form_one count))

-- The same by what a lookup in the run found; a count that no register has is row 19 too.
abbrev pub room_table : ℕ → ℕ → List (Row Written)
room_table count room =
    Err Refusal.BrokenRegister when count above places
    ∷ Err Refusal.NoRoomForForm when room below form_length form_one count
    ∷ []

unfoldable pub room_for : ℕ → ℕ → Written
room_for count room = decide (room_table count room) (Ok (form_length form_one count))

abbrev pub room_of : Found → ℕ → ℕ → Written
room_of Broken count room = Err Refusal.BrokenRegister
room_of (Held place) count room = room_for count room
room_of (New place) count room = room_for count room

-- The form is not written.
abbrev pub is_refused : Written → Bool
is_refused (Ok n) = false
is_refused (Err r) = true

-- ---- the buffer
-- The form's own bytes from the start, and nothing else changed; a refusal changes no byte.
abbrev pub laid : Written → List Motor → ℕ → List ℕ → List ℕ
laid (Ok n) run count buffer = over (form_of form_one (held run count)) buffer
laid (Err r) run count buffer = buffer

abbrev pub buffer_after : List Motor → ℕ → List ℕ → List ℕ
buffer_after run count buffer = laid (written_of run count (length buffer)) run count buffer

-- ---- the buffer, a motor at a time
-- Bytes written over those from a place on.
abbrev pub over_from : ℕ → List ℕ → List ℕ → List ℕ
over_from at bytes buffer = take at buffer ++ over bytes (drop at buffer)

-- The buffer has room for a form of so many motors.
abbrev pub fits : Shape → (count room : ℕ) → Bool
fits s count room = if leb count places then leb (form_length s count) room else false

-- First byte and count; where there is no room nothing.
unfoldable pub head_over : Shape → ℕ → List ℕ → List ℕ
head_over s count buffer = if fits s count (length buffer) then over (head_bytes s count) buffer else buffer

-- The entry and the body of the motor at a place.
unfoldable pub motor_over : Shape → (count at : ℕ) → Motor → List ℕ → List ℕ
motor_over s count at m buffer =
    if ltb at count then
    if fits s count (length buffer) then
    over_from (body_place s count at) (s.body_of m) (over_from (entry_place at) (entry_of s count at m) buffer)
    else buffer else buffer

-- The head and the first motors of a run.
unfoldable pub first_over : Shape → List Motor → ℕ → List ℕ → ℕ → List ℕ
first_over s run count buffer zero = head_over s count buffer
first_over s run count buffer (suc i) = motor_over s count i (get_or run i zeros) (first_over s run count buffer i)

-- ---- form 1, a motor at a time
abbrev pub head_laid : ℕ → List ℕ → List ℕ
head_laid count buffer = head_over form_one count buffer

abbrev pub motor_laid : (count at : ℕ) → Motor → List ℕ → List ℕ
motor_laid count at m buffer = motor_over form_one count at m buffer

abbrev pub laid_up_to : List Motor → ℕ → List ℕ → ℕ → List ℕ
laid_up_to run count buffer i = first_over form_one run count buffer i
