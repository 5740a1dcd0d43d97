-- The motors of a form that is accepted are right and in ascending order, and written they give its own bytes: for every shape whose bodies are
-- faithful.
-- Assumes nothing.
use Prim.Native.Nat.{ℕ, suc, ◌+◌, ◌*◌, ◌/◌, ◌%◌, ◌≤◌, ◌<◌}
use native.Mathlib.Omega.{arith}
use native.Mathlib.Nat.{mul-zero}
use mathlib.Core.Path.{◌≡◌, ◌∙◌, sym, ap, ap₂}
use mathlib.Core.Bool.{true}
use mathlib.Core.List.{List, [], ◌∷◌, ◌++◌}
use lib.Dec.{eqb}
use lib.ListN.{length, get_or, take, drop, length-drop, take-append-drop}
use lib.Seq.{take_all, length-take-le, get_or-take, drop-drop}
use borrow.Author.Tests.{eqb-true}
use Rattle.meaning.specs.Bytes.{Bytes, take_bytes, drop_bytes}
use Rattle.meaning.specs.Cases.{passed_both}
use Rattle.frame.specs.Address.{address, address_of, bytes_of}
use Rattle.frame.specs.Words.{bytes_of_word, word_at}
use Rattle.frame.proofs.Addresses.{bytes_of_their_address}
use Rattle.runs.specs.Ordered.{Ascending, All}
use Rattle.runs.proofs.ByPlace.{before_the_next_ascends, all_exactly_when_by_place}
use Rattle.motors.specs.Motor.{zeros, is_line, is_node}
use Rattle.motors.specs.Order.{by_line_and_node, earlier_of}
use Rattle.motors.specs.Register.{Right}
use Rattle.motors.specs.declared.motor.Motor.{Motor}
use Rattle.form.specs.Shape.{Shape, Faithful}
use Rattle.form.specs.Layout.{
  head_size,
  entry_size,
  entry_place,
  body_place,
  head_bytes,
  entry_of,
  body_of,
  contents_of,
  bodies_of,
  form_of,
  part,
  count_in,
  entry_in,
  line_in,
  node_in,
  pointer_in,
  body_in,
  motor_in,
  previous_in,
  entry_behind,
  entry_right,
  body_right,
  motors_in,
}
use Rattle.form.proofs.Everywhere.{right_at, length-listed, listed_at}
use Rattle.form.proofs.Spelled.{bytes_from, spelled}
use Rattle.form.proofs.Turns.{all_in_turn}
use Rattle.form.proofs.Laying.{form_ends_behind_the_last_body, body_within}
use Rattle.form.proofs.Accepted.{Accepted}

-- ---- an entry that is right
module _ (s : Shape) (count : ℕ) (b : List ℕ) (i : ℕ) (right : entry_right s count b i ≡ true) where
  pub line_right : is_line (line_in b i) ≡ true
  unfolding entry_behind
  line_right = (passed_both (is_line (line_in b i)) _ right).0

  pub node_right : is_node (node_in b i) ≡ true
  unfolding entry_behind
  node_right = (passed_both (is_node (node_in b i)) _ (passed_both (is_line (line_in b i)) _ right).1).0

  pub order_and_place : (earlier_of (previous_in s count b i) (motor_in s count b i) ≡ true) × (eqb (pointer_in b i) (body_place s count i) ≡ true)
  unfolding entry_behind
  order_and_place =
      passed_both (earlier_of (previous_in s count b i) (motor_in s count b i)) _
      (passed_both (is_node (node_in b i)) _ (passed_both (is_line (line_in b i)) _ right).1).1

-- ---- a part of bytes is bytes, and as long as it says
module _ (size at : ℕ) (b : List ℕ) where
  part_bytes : Bytes b → Bytes (part size at b)
  part_bytes bytes = take_bytes size (drop at b) (drop_bytes at b bytes)

  part_size : at + size ≤ length b → length (part size at b) ≡ size
  part_size h = length-take-le size (drop at b) (rw length-drop (omega arith))

-- ---- numbers taken apart again
three_same : {x x' y y' z z' : ℕ} → x ≡ x' → y ≡ y' → z ≡ z' → x ∷ y ∷ z ∷ [] ≡ x' ∷ y' ∷ z' ∷ []
three_same e f g = rw (e, f, g)

abbrev entry_from : (line node place : ℕ) → List ℕ
entry_from line node place = line % 256 ∷ (bytes_of (address node) ++ bytes_of_word place)

entry_same : {line line' node node' place place' : ℕ} → line ≡ line' → node ≡ node' → place ≡ place'
    → entry_from line node place ≡ entry_from line' node' place'
entry_same e f g = rw (e, f, g)

entry_of_bytes : (c : List ℕ) → ((k : ℕ) → k < entry_size → get_or c k 0 < 256)
    → entry_from (get_or c 0 0) (address_of (get_or c 1 0) (get_or c 2 0) (get_or c 3 0)).0 (word_at c 4) ≡ bytes_from c 0 entry_size
entry_of_bytes c byte =
    let line : get_or c 0 0 % 256 ≡ get_or c 0 0 = omega (arith, byte 0 (omega arith)) in
    let low : word_at c 4 % 256 ≡ get_or c 4 0 = omega (arith, byte 4 (omega arith), byte 5 (omega arith)) in
    let high : word_at c 4 / 256 ≡ get_or c 5 0 = omega (arith, byte 4 (omega arith), byte 5 (omega arith)) in
    rw (line, low, high)
    (ap (λ (w : List ℕ). get_or c 0 0 ∷ (w ++ (get_or c 4 0 ∷ get_or c 5 0 ∷ [])))
    (bytes_of_their_address (get_or c 1 0) (get_or c 2 0) (get_or c 3 0) (byte 1 (omega arith)) (byte 2 (omega arith)) (byte 3 (omega arith))))

module _ (s : Shape) (Fits : Motor → Type 0) (f : Faithful s Fits) (b : List ℕ) (n : ℕ) (a : Accepted s b n) where
  abbrev count : ℕ
  count = count_in b

  abbrev motor_at : ℕ → Motor
  motor_at = motor_in s count b

  abbrev motors : List Motor
  motors = motors_in s b

  pub number : length motors ≡ count
  number = length-listed motor_at 0 count

  pub at_place : (i : ℕ) → i < count → get_or motors i zeros ≡ motor_at i
  at_place i h = let start : 0 + i ≡ i = omega arith in listed_at motor_at 0 count i zeros h ∙ ap motor_at start

  entry_right_lem : (i : ℕ) → i < count → entry_right s count b i ≡ true
  entry_right_lem i h = right_at (entry_right s count b) count i a.contents_right_lem h

  body_right_lem : (i : ℕ) → i < count → body_right s count b i ≡ true
  body_right_lem i h = right_at (body_right s count b) count i a.bodies_right_lem h

  -- ---- right and in order
  pub motors_right : All Right motors
  motors_right = (all_exactly_when_by_place Right zeros motors).1 λ i h.
      let k : i < count = omega (arith, h, number) in
      rw (at_place i k)
      (f.right_makes_the_motor_right (line_in b i) (node_in b i) (body_in s count b i) (line_right s count b i (entry_right_lem i k))
      (node_right s count b i (entry_right_lem i k)) (body_right_lem i k))

  pub motors_ascend : Ascending by_line_and_node motors
  motors_ascend = before_the_next_ascends by_line_and_node zeros motors λ i h.
      let k : suc i < count = omega (arith, h, number) in
      rw (at_place i (omega arith), at_place (suc i) k) (order_and_place s count b (suc i) (entry_right_lem (suc i) k)).0

  -- ---- the bytes again
  module _ (bytes : Bytes b) where
    long : length b ≡ body_place s count count
    long = a.as_long_as_it_says ∙ form_ends_behind_the_last_body s count

    head_again : head_bytes s (length motors) ≡ take head_size b
    head_again =
        let low : count_in b % 256 ≡ get_or b 1 0 = omega (arith, bytes 1 (omega (arith, long)), bytes 2 (omega (arith, long))) in
        let high : count_in b / 256 ≡ get_or b 2 0 = omega (arith, bytes 1 (omega (arith, long)), bytes 2 (omega (arith, long))) in
        ap (head_bytes s) number
        ∙ three_same (sym a.begins_as_the_shape_says ∙ sym (get_or-take head_size b 0 0 (omega arith)))
        (low ∙ sym (get_or-take head_size b 1 0 (omega arith))) (high ∙ sym (get_or-take head_size b 2 0 (omega arith)))
        ∙ sym (spelled (take head_size b) head_size (length-take-le head_size b (omega (arith, long))))

    entry_again : (i : ℕ) → i < count → entry_of s count i (motor_at i) ≡ entry_in b i
    entry_again i h =
        let c = entry_in b i in
        let pointer = (order_and_place s count b i (entry_right_lem i h)).1 in
        let within : entry_place i + entry_size ≤ length b = omega (arith, body_within s count i h, a.as_long_as_it_says) in
        let size : length (entry_in b i) ≡ entry_size = part_size entry_size (entry_place i) b within in
        let byte : (k : ℕ) → k < entry_size → get_or (entry_in b i) k 0 < 256 =
        λ k l. part_bytes entry_size (entry_place i) b bytes k (omega (arith, size)) in
        entry_same (f.of_the_same_line _ _ _) (f.of_the_same_node _ _ _) (sym (eqb-true (pointer_in b i) (body_place s count i) pointer))
        ∙ entry_of_bytes c byte ∙ sym (spelled c entry_size size)

    body_again : (i : ℕ) → i < count → s.body_of (motor_at i) ≡ body_in s count b i
    body_again i h =
        let within : body_place s count i + s.body_size ≤ length b = omega (arith, body_within s count i h, a.as_long_as_it_says) in
        f.the_body_again (line_in b i) (node_in b i) (body_in s count b i) (part_bytes s.body_size (body_place s count i) b bytes)
        (part_size s.body_size (body_place s count i) b within) (body_right_lem i h)

    contents_again : contents_of s count motors ≡ take (entry_size * count) (drop head_size b)
    contents_again =
        all_in_turn (entry_of s count) motor_at entry_size (drop head_size b) 0 count
        (λ i h k. entry_again i (omega arith) ∙ ap (take entry_size) (sym (drop-drop (entry_size * i) head_size b)))

    bodies_again : bodies_of s motors ≡ drop (entry_size * count) (drop head_size b)
    bodies_again =
        let rest : length (drop (entry_size * count) (drop head_size b)) ≡ s.body_size * count = simp length-drop (omega (arith, long)) in
        all_in_turn (body_of s) motor_at s.body_size (drop (entry_size * count) (drop head_size b)) 0 count
        (λ i h k. body_again i (omega arith) ∙ ap (take s.body_size) (from_the_bodies i))
        ∙ rw (mul-zero s.body_size) (take_all (s.body_size * count) (drop (entry_size * count) (drop head_size b)) (omega (arith, rest)))
      where
        from_the_bodies : (i : ℕ) → drop (body_place s count i) b ≡ drop (s.body_size * i) (drop (entry_size * count) (drop head_size b))
        from_the_bodies i =
            sym (ap (drop (s.body_size * i)) (drop-drop (entry_size * count) head_size b) ∙ drop-drop (s.body_size * i) (entry_place count) b)

    pub form_again : form_of s motors ≡ b
    unfolding form_of
    form_again =
        ap (λ (k : ℕ). head_bytes s (length motors) ++ (contents_of s k motors ++ bodies_of s motors)) number
        ∙ ap₂ (λ (v w : List ℕ). v ++ w) head_again
        (ap₂ (λ (v w : List ℕ). v ++ w) contents_again bodies_again ∙ take-append-drop (entry_size * count) (drop head_size b))
        ∙ take-append-drop head_size b
