-- Reading a stored form (document 01, rows 19 and 40 to 44): the answer, and the places at the end.
-- Assumes nothing.
use Rattle.std.specs.Prelude.{if◌then◌else◌, ℕ, Bool, true, false, List, [], ◌∷◌, leb, ltb, eqb, length, get_or, Ok, Err}
use Rattle.meaning.specs.Tests.{◌below◌, ◌above◌, ◌is_not◌, fails, ◌or◌}
use Rattle.meaning.specs.Tables.{Row, ◌when◌, decide}
use Rattle.refusal.specs.declared.Refusal.{Refusal}
use Rattle.motors.specs.Motor.{zeros}
use Rattle.motors.specs.Register.{places}
use Rattle.motors.specs.Filing.{keeping, refusing}
use Rattle.motors.specs.declared.answer.Next.{Next}
use Rattle.motors.specs.declared.motor.Motor.{Motor}
use Rattle.form.specs.Shape.{Shape}
use Rattle.form.specs.Layout.{head_size, form_length, count_in, contents_right, bodies_right, motor_in, motors_in}
use Rattle.form.specs.FormOne.{form_one}
use Rattle.motors.specs.Answer.{Answer}

-- ---- a form of any shape
-- Why a form is not read into a run of so many places: rows 19 and 40 to 44. Of the run only the length is checked.
abbrev pub read_table : Shape → ℕ → List ℕ → List (Row Answer)
read_table s n b =
    Err Refusal.BrokenRegister when n is_not places
    ∷ Err Refusal.NotFormOne when length b below head_size or get_or b 0 0 is_not s.first_byte
    ∷ Err Refusal.TooManyMotors when count_in b above places
    ∷ Err Refusal.WrongFormLength when length b is_not form_length s (count_in b)
    ∷ Err Refusal.BadContents when fails (contents_right s (count_in b) b)
    ∷ Err Refusal.BadBody when fails (bodies_right s (count_in b) b)
    ∷ []

-- The first reason that applies, or the number of motors.
unfoldable pub checked : Shape → ℕ → List ℕ → Answer
checked s n b = decide (read_table s n b) (Ok (count_in b))

-- The motors of the form are held, or every place is as it was.
abbrev pub read_by : Shape → List Motor → List ℕ → Answer → Next
read_by s run b (Ok n) = keeping (motors_in s b)
read_by s run b (Err r) = refusing run r

-- What stands at a place when a form of so many motors is read: the motor of its entry and body, behind the last one
-- zeros. Bytes of another length hold no motor.
unfoldable pub place_of : Shape → (count : ℕ) → List ℕ → ℕ → Motor
place_of s count b at =
    if leb count places then
    if eqb (length b) (form_length s count) then
    if ltb at count then motor_in s count b at
    else zeros else zeros else zeros

-- ---- form 1
abbrev pub read_form_table : ℕ → List ℕ → List (Row Answer)
read_form_table n b = read_table form_one n b

abbrev pub check_of : ℕ → List ℕ → Answer
check_of n b = checked form_one n b

abbrev pub read_of : List Motor → List ℕ → Next
read_of run b = read_by form_one run b (check_of (length run) b)

abbrev pub place_in : (count : ℕ) → List ℕ → ℕ → Motor
place_in count b at = place_of form_one count b at

-- The form is not read.
abbrev pub is_refusal : Answer → Bool
is_refusal (Ok n) = false
is_refusal (Err r) = true

-- The number of motors read.
abbrev pub counted_in : Answer → ℕ
counted_in (Ok n) = n
counted_in (Err r) = 0
