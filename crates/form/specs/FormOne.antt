-- Stored form 1 (document 01, "The register and its stored form"): it begins with 01h, and a body is 1, pulse, percent,
-- IP, or five zeros when no reading exists.
-- Assumes nothing.
use Rattle.std.specs.Prelude.{if◌then◌else◌, ℕ, ◌≤◌, ◌<◌, ◌≡◌, Bool, false, List, [], ◌∷◌, ◌++◌, eqb, length, get_or}
use Rattle.frame.specs.Words.{bytes_of_word, word_at}
use Rattle.runs.specs.Ordered.{All}
use Rattle.motors.specs.Motor.{unread, with_reading, marked, is_reading}
use Rattle.motors.specs.declared.motor.Motor.{Motor}
use Rattle.motors.specs.Register.{places}
use Rattle.form.specs.Shape.{Shape}
use Rattle.form.specs.Layout.{form_length}

-- A body as written.
abbrev pub reading_bytes : Motor → List ℕ
reading_bytes m =
    if marked m then 1 ∷ (bytes_of_word m.pulse ++ (m.percent ∷ m.ip ∷ [])) else 0 ∷ 0 ∷ 0 ∷ 0 ∷ 0 ∷ []

-- 1 and a reading as in row 23, or five zeros.
unfoldable pub reading_right : List ℕ → Bool
reading_right d =
    if eqb (get_or d 0 0) 1 then is_reading (get_or d 3 0) (get_or d 4 0) else
    if eqb (get_or d 0 0) 0 then
    if eqb (get_or d 1 0) 0 then
    if eqb (get_or d 2 0) 0 then
    if eqb (get_or d 3 0) 0 then eqb (get_or d 4 0) 0
    else false else false else false else false

-- The motor of an entry's line and NodeID, with the reading of its body.
unfoldable pub motor_of_reading : (line node : ℕ) → List ℕ → Motor
motor_of_reading line node d =
    if eqb (get_or d 0 0) 1 then with_reading line node (word_at d 1) (get_or d 3 0) (get_or d 4 0) else unread line node

abbrev pub form_one : Shape
form_one =
    record {
      first_byte = 1;
      body_size = 5;
      body_of = reading_bytes;
      is_body = λ line node d. reading_right d;
      motor_of = motor_of_reading;
    }

-- A pulse is a number of two bytes, as a `u16` is.
abbrev pub TwoBytePulse : Motor → Type 0
TwoBytePulse m = m.pulse < 65536

abbrev pub TwoBytePulses : List Motor → Type 0
TwoBytePulses l = All TwoBytePulse l

-- Bytes as many as a form of so many motors has.
abbrev pub IsLong : List ℕ → ℕ → Type 0
IsLong b count = (count ≤ places) × (length b ≡ form_length form_one count)
