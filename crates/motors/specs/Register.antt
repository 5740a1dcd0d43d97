-- The register: a run of places with a count (document 01, "The register", row 19).
-- Assumes nothing.
use Rattle.std.specs.Prelude.{if◌then◌else◌, ℕ, ◌≤◌, ◌≡◌, Bool, true, false, List, [], ◌∷◌, leb, eqb, length, take, drop}
use Rattle.std.proofs.Math.Option.{Option}
use Rattle.runs.specs.Ordered.{looked_up, Ascending, All}
use Rattle.runs.specs.Places as runs
use Rattle.motors.specs.Motor.{zeros, right_of, blank_of}
use Rattle.motors.specs.Order.{by_line_and_node, earlier_of}
use Rattle.motors.specs.declared.motor.Motor.{Motor}

abbrev pub places : ℕ
places = 256

-- The records held are the first `count` places.
abbrev pub held : List Motor → ℕ → List Motor
held run count = take count run

-- The places that hold these records: behind them all zeros.
abbrev pub filled : List Motor → List Motor
filled l = runs.filled places zeros l

-- A record stands before the one behind it, if there is one.
abbrev pub before_next : Motor → List Motor → Bool
before_next m [] = true
before_next m (x ∷ l) = earlier_of m x

-- Every record is right, and stands before the one behind it.
unfoldable pub in_order : List Motor → Bool
in_order [] = true
in_order (m ∷ l) = if in_order l then if before_next m l then right_of m else false else false

-- Every place is all zeros.
unfoldable pub all_blank : List Motor → Bool
all_blank [] = true
all_blank (m ∷ l) = if blank_of m then all_blank l else false

-- Row 19: 256 places, a count of 0 to 256, the records held in order, the other places zeros.
unfoldable pub sound_of : List Motor → ℕ → Bool
sound_of run count =
    if eqb (length run) places then
    if leb count places then
    if in_order (held run count) then all_blank (drop count run)
    else false else false else false

-- The record of a line and a NodeID among those held.
abbrev pub found_in : List Motor → ℕ → ℕ → Option Motor
found_in l line node = looked_up by_line_and_node l (line, node)

abbrev pub found : List Motor → ℕ → ℕ → ℕ → Option Motor
found run count line node = found_in (held run count) line node

-- A record's fields are right.
abbrev pub Right : Motor → Type 0
Right m = right_of m ≡ true

-- Row 19 as facts.
pub record Sound (run : List Motor) (count : ℕ) : Type 0 where
  pub of_256_places : length run ≡ 256
  pub at_most_256 : count ≤ 256
  pub all_right : All Right (take count run)
  pub ascending : Ascending by_line_and_node (take count run)
  pub zeros_behind : run ≡ filled (take count run)
