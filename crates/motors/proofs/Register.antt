-- What is promised of a register that is sound: its order, its zeros, and one record for a motor.
-- Assumes nothing.
use Prim.Native.Nat.{ℕ, ◌-◌, ◌<◌}
use native.Mathlib.Omega.{arith}
use mathlib.Core.Path.{◌≡◌, ◌∙◌, ap}
use mathlib.Core.Bool.{true}
use mathlib.Core.List.{List}
use mathlib.Core.Option.{some}
use lib.ListN.{length, get_or, drop, replicate}
use lib.Seq.{drop_at}
use Rattle.runs.specs.Places as runs
use Rattle.runs.proofs.ByPlace.{earlier_place_is_before, all_exactly_when_by_place}
use Rattle.runs.proofs.Lookup.{found_has_the_key}
use Rattle.motors.specs.Motor.{zeros, right_of}
use Rattle.motors.specs.Order.{Before, Key, key_of, by_line_and_node, as_said, same_is}
use Rattle.motors.specs.Register.{held, sound_of, found, Right, Sound}
use Rattle.motors.specs.declared.motor.Motor.{Motor}
use Rattle.motors.proofs.Sound.{sound_is, length_held}

module _ (run : List Motor) (count : ℕ) (ok : sound_of run count ≡ true) where
  abbrev sound : Sound run count
  sound = sound_is run count ok

  pub places_beyond_the_count_are_zeros : drop count run ≡ replicate (256 - count) zeros
  unfolding runs.filled
  places_beyond_the_count_are_zeros =
      ap (drop count) sound.zeros_behind
      ∙ drop_at (held run count) (replicate (256 - length (held run count)) zeros) count (length_held run count ok)
      ∙ rw (length_held run count ok)

  pub each_record_is_before_the_later_ones : (i j : ℕ) → i < j → j < count
      → Before (key_of (get_or (held run count) i zeros)) (key_of (get_or (held run count) j zeros))
  each_record_is_before_the_later_ones i j h k =
      as_said _ _ (earlier_place_is_before by_line_and_node zeros (held run count) sound.ascending i j h (omega (arith, length_held run count ok)))

  pub each_record_is_right : (i : ℕ) → i < count → right_of (get_or (held run count) i zeros) ≡ true
  each_record_is_right i h =
      (all_exactly_when_by_place Right zeros (held run count)).0 sound.all_right i (omega (arith, length_held run count ok))

-- A line and a NodeID find one record, theirs.
pub a_motor_is_found_under_its_line_and_node_id : (run : List Motor) (count line node : ℕ) (m : Motor)
    → found run count line node ≡ some m → (m.line ≡ line) × (m.node ≡ node)
a_motor_is_found_under_its_line_and_node_id run count line node m e =
    let its = same_is (key_of m) (line, node) (found_has_the_key by_line_and_node (held run count) (line, node) m e) in
    (ap (λ (k : Key). k.0) its, ap (λ (k : Key). k.1) its)
