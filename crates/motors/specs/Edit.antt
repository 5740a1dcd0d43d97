-- What a call does to the places (rows 19 to 25).
-- Assumes nothing.
use Rattle.std.specs.Prelude.{if◌then◌else◌, ℕ, ◌+◌, ◌-◌, not, List, leb, eqb, Ok, Err}
use Rattle.refusal.specs.declared.Refusal.{Refusal}
use Rattle.runs.specs.Places.{moved_up, moved_down}
use Rattle.motors.specs.Motor.{zeros, is_line}
use Rattle.motors.specs.Register.{places}
use Rattle.motors.specs.declared.edit.Edit.{Edit}
use Rattle.motors.specs.declared.edit.Way.{Way}
use Rattle.motors.specs.declared.edit.Way.TheVariants.{Up, Down}
use Rattle.motors.specs.declared.found.Found.{Found}
use Rattle.motors.specs.declared.found.Found.TheVariants.{Broken, Held, New}
use Rattle.motors.specs.declared.motor.Motor.{Motor}
use Rattle.motors.specs.Answer.{Answer}
use Rattle.motors.specs.Report.{Report}

abbrev pub edit : Way → ℕ → ℕ → Motor → Answer → Edit
edit way from last m answer = record { way = way; from = from; last = last; motor = m; answer = answer }

-- No place: from 1 to 0 there is none.
abbrev pub leaving : Answer → Edit
leaving answer = edit Up 1 0 zeros answer

-- A motor that is held stays as it is.
abbrev pub to_confirm : ℕ → Report → Edit
to_confirm count (Ok m) = leaving (Ok count)
to_confirm count (Err r) = leaving (Err r)

-- A reading takes the place of the last one.
abbrev pub to_renew : (place count : ℕ) → Report → Edit
to_renew place count (Ok m) = edit Up place place m (Ok count)
to_renew place count (Err r) = leaving (Err r)

-- A new motor goes in, or row 24.
unfoldable pub adding : (place count : ℕ) → Motor → Edit
adding place count m =
    if leb places count then leaving (Err Refusal.RegisterFull) else
    edit Up place count m (Ok (count + 1))

abbrev pub to_add : (place count : ℕ) → Report → Edit
to_add place count (Ok m) = adding place count m
to_add place count (Err r) = leaving (Err r)

-- A motor that names itself: row 19, then what the frame reports.
abbrev pub to_enrol : Found → ℕ → Report → Edit
to_enrol Broken count r = leaving (Err Refusal.BrokenRegister)
to_enrol (Held place) count r = to_confirm count r
to_enrol (New place) count r = to_add place count r

-- A motor with a reading.
abbrev pub to_file : Found → ℕ → Report → Edit
to_file Broken count r = leaving (Err Refusal.BrokenRegister)
to_file (Held place) count r = to_renew place count r
to_file (New place) count r = to_add place count r

-- Those behind it close the gap.
unfoldable pub to_remove : (place count : ℕ) → Edit
to_remove place count =
    if eqb count 0 then leaving (Err Refusal.NotHeld) else
    edit Down place (count - 1) zeros (Ok (count - 1))

-- Row 20, then 25.
unfoldable pub to_miss : ℕ → Edit
to_miss line = if not (is_line line) then leaving (Err Refusal.NoSuchLine) else leaving (Err Refusal.NotHeld)

-- Rows 19, 20 and 25.
abbrev pub to_strike : Found → (count line : ℕ) → Edit
to_strike Broken count line = leaving (Err Refusal.BrokenRegister)
to_strike (Held place) count line = to_remove place count
to_strike (New place) count line = to_miss line

-- Records moved by one, up or down.
abbrev pub moved : Way → List Motor → (from last : ℕ) → Motor → List Motor
moved Up run from last m = moved_up zeros run from last m
moved Down run from last m = moved_down zeros run from last m

-- The places after an edit.
abbrev pub applied : List Motor → Edit → List Motor
applied run e = moved e.way run e.from e.last e.motor
