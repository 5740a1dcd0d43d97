-- What is found of a motor in a run of places (row 19, and the order of records).
-- Assumes nothing.
use Rattle.std.specs.Prelude.{if◌then◌else◌, ℕ, Bool, false, not, List, [], ◌∷◌, leb, eqb}
use Rattle.std.specs.Int.Bits.{bit_or}
use Rattle.runs.specs.Ordered.{holds, place_of}
use Rattle.motors.specs.Motor.{key_number, rest_number}
use Rattle.motors.specs.Order.{by_line_and_node, key_of}
use Rattle.motors.specs.Register.{places, held, sound_of}
use Rattle.motors.specs.declared.found.Found.{Found}
use Rattle.motors.specs.declared.found.Found.TheVariants.{Broken, Held, New}
use Rattle.motors.specs.declared.motor.Motor.{Motor}
use Rattle.motors.specs.declared.passing.Passing.{Passing}

-- Held or not, at its place in the order.
abbrev pub standing : Bool → ℕ → Found
standing is_held place = if is_held then Held place else New place

-- No register; or where the motor stands or would stand.
unfoldable pub found_of : List Motor → ℕ → Motor → Found
found_of run count m =
    if not (sound_of run count) then Broken else
    standing (holds by_line_and_node (held run count) (key_of m)) (place_of by_line_and_node (held run count) (key_of m))

-- ---- by one pass
-- Row 19: 256 places, and at most 256 motors.
abbrev pub in_number : ℕ → ℕ → Bool
in_number n count = if eqb n places then leb count places else false

-- 0 left behind means that a record was not right; a motor is held where its own key stands at its place.
unfoldable pub found_by : (n count wanted : ℕ) → Passing → ℕ → Found
found_by n count wanted p bits =
    if not (in_number n count) then Broken else
    if eqb p.next 0 then Broken else
    if not (eqb bits 0) then Broken else
    if eqb p.place count then New count else
    if not (eqb p.there wanted) then New p.place else
    Held p.place

-- The bits of a place and of those behind it: 0 where all are blank.
abbrev pub gathered : ℕ → Motor → ℕ
gathered bits m = bit_or (bit_or bits (key_number m)) (rest_number m)

unfoldable pub bits_of : List Motor → ℕ
bits_of [] = 0
bits_of (m ∷ l) = gathered (bits_of l) m
