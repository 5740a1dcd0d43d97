-- The bodies of form 1 say neither less nor more than the motor.
-- Assumes nothing.
use Prim.Native.Nat.{ℕ, ◌+◌, ◌*◌, ◌/◌, ◌%◌}
use native.Mathlib.Omega.{arith}
use mathlib.Core.Path.{◌≡◌, refl, ◌∙◌, sym, ap}
use mathlib.Core.Bool.{true, false}
use mathlib.Core.List.{List, [], ◌∷◌}
use lib.Dec.{eqb}
use lib.ListN.{length, get_or}
use borrow.Author.Tests.{eqb-true}
use Rattle.meaning.specs.Bytes.{Bytes}
use Rattle.meaning.specs.Cases.{by_test, passed_both}
use Rattle.meaning.specs.Choice.{either}
use Rattle.frame.specs.Words.{word_at}
use Rattle.motors.specs.Motor.{motor, unread, marked, is_line, is_node, is_reading, unread_part, reading_part, right_beside_line, right_of}
use Rattle.motors.specs.Register.{Right}
use Rattle.motors.specs.declared.motor.Motor.{Motor}
use Rattle.form.specs.Shape.{Faithful}
use Rattle.form.specs.FormOne.{reading_bytes, reading_right, motor_of_reading, form_one, TwoBytePulse}
use Rattle.form.proofs.Spelled.{spelled}
use Rattle.form.proofs.Right.{reading_part_lem}

pub form_one_is_of_one_size : (m : Motor) → length (form_one.body_of m) ≡ form_one.body_size
form_one_is_of_one_size m = either (λ (w : List ℕ). length w ≡ form_one.body_size) (marked m) (λ t. refl) (λ t. refl)

-- ---- a motor that is right, written and read
module _ (m : Motor) (right : Right m) where
  reading_right_lem : marked m ≡ true → is_reading m.percent m.ip ≡ true
  unfolding reading_part
  reading_right_lem t = rw t at (reading_part_lem m right)

  without_reading_lem : marked m ≡ false → m ≡ unread m.line m.node
  unfolding reading_part unread_part
  without_reading_lem t =
      let k = passed_both (eqb m.mark 0) _ (rw t at (reading_part_lem m right)) in
      let p = passed_both (eqb m.pulse 0) _ k.1 in
      let q = passed_both (eqb m.percent 0) _ p.1 in
      same_part (eqb-true _ _ k.0) (eqb-true _ _ p.0) (eqb-true _ _ q.0) (eqb-true _ _ q.1)
    where
      same_part : {r r' a a' b b' c c' : ℕ} → r ≡ r' → a ≡ a' → b ≡ b' → c ≡ c'
          → motor m.line m.node r a b c ≡ motor m.line m.node r' a' b' c'
      same_part e f g h = rw (e, f, g, h)

  own_body : reading_right (reading_bytes m) ≡ true
  unfolding reading_right
  own_body = by_test (marked m) (λ t. rw t (reading_right_lem t)) (λ t. rw t)

  own_motor : TwoBytePulse m → motor_of_reading m.line m.node (reading_bytes m) ≡ m
  unfolding motor_of_reading
  own_motor small =
      by_test (marked m)
      (λ t.
      let two : m.pulse % 256 + 256 * (m.pulse / 256) ≡ m.pulse = omega arith in
      rw (t, two) (ap (λ (k : ℕ). motor m.line m.node k m.pulse m.percent m.ip) (sym (eqb-true m.mark 1 t))))
      (λ t.
      let none : motor_of_reading m.line m.node (reading_bytes m) ≡ unread m.line m.node = rw t in
      none ∙ sym (without_reading_lem t))

-- ---- a body that is right, read and written
module _ (line node : ℕ) (d : List ℕ) where
  same_line : (motor_of_reading line node d).line ≡ line
  unfolding motor_of_reading
  same_line = by_test (eqb (get_or d 0 0) 1) (λ t. rw t) (λ t. rw t)

  same_node : (motor_of_reading line node d).node ≡ node
  unfolding motor_of_reading
  same_node = by_test (eqb (get_or d 0 0) 1) (λ t. rw t) (λ t. rw t)

  module _ (right : reading_right d ≡ true) where
    motor_right : is_line line ≡ true → is_node node ≡ true → Right (motor_of_reading line node d)
    unfolding motor_of_reading reading_right right_of right_beside_line reading_part unread_part
    motor_right l n = by_test (eqb (get_or d 0 0) 1) (λ t. rw (t, l, n) (rw t at right)) (λ t. rw (t, l, n))

    module _ (bytes : Bytes d) (size : length d ≡ form_one.body_size) where
      five_bytes : d ≡ get_or d 0 0 ∷ get_or d 1 0 ∷ get_or d 2 0 ∷ get_or d 3 0 ∷ get_or d 4 0 ∷ []
      five_bytes = spelled d form_one.body_size size

      five_zeros_lem : eqb (get_or d 0 0) 1 ≡ false → 0 ∷ 0 ∷ 0 ∷ 0 ∷ 0 ∷ [] ≡ d
      unfolding reading_right
      five_zeros_lem t =
          let a = passed_both (eqb (get_or d 0 0) 0) _ (rw t at right) in
          let b = passed_both (eqb (get_or d 1 0) 0) _ a.1 in
          let c = passed_both (eqb (get_or d 2 0) 0) _ b.1 in
          let e = passed_both (eqb (get_or d 3 0) 0) _ c.1 in
          sym (five_bytes ∙ rw (
            eqb-true (get_or d 0 0) 0 a.0,
            eqb-true (get_or d 1 0) 0 b.0,
            eqb-true (get_or d 2 0) 0 c.0,
            eqb-true (get_or d 3 0) 0 e.0,
            eqb-true (get_or d 4 0) 0 e.1,
          ))

      own_bytes : reading_bytes (motor_of_reading line node d) ≡ d
      unfolding motor_of_reading
      own_bytes =
          by_test (eqb (get_or d 0 0) 1)
          (λ t.
          let one : get_or d 0 0 ≡ 1 = eqb-true _ _ t in
          let low : word_at d 1 % 256 ≡ get_or d 1 0 = omega (arith, bytes 1 (omega arith), bytes 2 (omega arith)) in
          let high : word_at d 1 / 256 ≡ get_or d 2 0 = omega (arith, bytes 1 (omega arith), bytes 2 (omega arith)) in
          rw (t, low, high) (ap (λ (n : ℕ). n ∷ get_or d 1 0 ∷ get_or d 2 0 ∷ get_or d 3 0 ∷ get_or d 4 0 ∷ []) (sym one) ∙ sym five_bytes))
          (λ t. rw t (five_zeros_lem t))

pub form_one_is_faithful : Faithful form_one TwoBytePulse
form_one_is_faithful =
    record {
      of_one_size = form_one_is_of_one_size;
      of_the_same_line = same_line;
      of_the_same_node = same_node;
      right_where_the_motor_is = own_body;
      right_makes_the_motor_right = λ line node d l n right. motor_right line node d right l n;
      the_motor_again = own_motor;
      the_body_again = λ line node d bytes size right. own_bytes line node d right bytes size;
    }
