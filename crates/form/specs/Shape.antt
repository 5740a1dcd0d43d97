-- The shape of a stored form: what its bodies hold of a motor, beside the line and the NodeID that its entry has.
-- Assumes nothing.
use Rattle.std.specs.Prelude.{ℕ, ◌≡◌, Bool, true, List, length}
use Rattle.meaning.specs.Bytes.{Bytes}
use Rattle.motors.specs.Motor.{is_line, is_node}
use Rattle.motors.specs.Register.{Right}
use Rattle.motors.specs.declared.motor.Motor.{Motor}

pub record Shape : Type 0 where
  pub first_byte : ℕ
  pub body_size : ℕ
  -- The bytes of a motor's body.
  pub body_of : Motor → List ℕ
  -- A body as laid down, for a motor of this line and NodeID.
  pub is_body : (line node : ℕ) → List ℕ → Bool
  -- The motor of this line and NodeID with this body.
  pub motor_of : (line node : ℕ) → List ℕ → Motor

-- Bodies that say neither less nor more than the motors they have room for: then read and written forms undo each
-- other.
pub record Faithful (s : Shape) (Fits : Motor → Type 0) : Type 0 where
  pub of_one_size : (m : Motor) → length (s.body_of m) ≡ s.body_size
  pub of_the_same_line : (line node : ℕ) (d : List ℕ) → (s.motor_of line node d).line ≡ line
  pub of_the_same_node : (line node : ℕ) (d : List ℕ) → (s.motor_of line node d).node ≡ node
  pub right_where_the_motor_is : (m : Motor) → Right m → s.is_body m.line m.node (s.body_of m) ≡ true
  pub right_makes_the_motor_right :
      (line node : ℕ) (d : List ℕ) → is_line line ≡ true → is_node node ≡ true → s.is_body line node d ≡ true
      → Right (s.motor_of line node d)
  pub the_motor_again :
      (m : Motor) → Right m → Fits m → s.motor_of m.line m.node (s.body_of m) ≡ m
  pub the_body_again :
      (line node : ℕ) (d : List ℕ) → Bytes d → length d ≡ s.body_size → s.is_body line node d ≡ true
      → s.body_of (s.motor_of line node d) ≡ d
