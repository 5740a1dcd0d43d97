-- What the fields of a right motor are.
-- Assumes nothing.
use Prim.Native.Nat.{◌≤◌}
use native.Mathlib.Omega.{arith}
use mathlib.Core.Path.{◌≡◌}
use mathlib.Core.Logic.{inl, inr}
use mathlib.Core.Bool.{true}
use lib.Dec.{ltb}
use borrow.Author.Tests.{leb-true, ltb-true, ltb-false}
use Rattle.meaning.specs.Cases.{by_test, passed_both}
use Rattle.motors.specs.Motor.{zeros, is_line, a_node, is_node, reading_part, right_beside_line, right_of}
use Rattle.motors.specs.Order.{key_of, earlier_of, so_said}
use Rattle.motors.specs.Register.{Right}
use Rattle.motors.specs.declared.motor.Motor.{Motor}

-- Zeros stand before every motor with a NodeID.
pub zeros_first : (m : Motor) → 1 ≤ m.node → earlier_of zeros m ≡ true
zeros_first m h =
    so_said (key_of zeros) (key_of m)
    (by_test (ltb 0 m.line) (λ t. inl (ltb-true 0 m.line t)) (λ t. inr (omega (arith, ltb-false 0 m.line t), h)))

module _ (m : Motor) (right : Right m) where
  pub line_right : is_line m.line ≡ true
  unfolding right_of right_beside_line
  line_right = (passed_both (is_line m.line) _ right).0

  pub node_right : is_node m.node ≡ true
  unfolding right_of right_beside_line
  node_right = (passed_both (is_node m.node) _ (passed_both (is_line m.line) _ right).1).0

  pub reading_part_lem : reading_part m ≡ true
  unfolding right_of right_beside_line
  reading_part_lem = (passed_both (is_node m.node) _ (passed_both (is_line m.line) _ right).1).1

  pub line_small : m.line ≤ 3
  line_small = leb-true m.line 3 line_right

  pub node_from_1 : 1 ≤ m.node
  unfolding is_node
  node_from_1 = ((a_node m.node).is_fact node_right).0

  pub node_small : m.node ≤ 0xFFFFFF
  unfolding is_node
  node_small = omega (arith, ((a_node m.node).is_fact node_right).1)

  pub behind_zeros : earlier_of zeros m ≡ true
  behind_zeros = zeros_first m node_from_1
