-- A form written of right motors in ascending order has them at their places, and is accepted: for every shape whose bodies are faithful.
-- Assumes nothing.
use Prim.Native.Nat.{ℕ, zero, suc, ◌+◌, ◌*◌, ◌≤◌, ◌<◌}
use native.Mathlib.Omega.{arith}
use mathlib.Core.Path.{◌≡◌, refl, ◌∙◌, sym, ap}
use mathlib.Core.Bool.{true}
use mathlib.Core.List.{List, [], ◌++◌, append-nil}
use lib.ListN.{length, get_or, take, drop}
use lib.Seq.{drop_at, drop-drop, ext_get_or}
use borrow.Author.Tests.{eq-eqb}
use Rattle.frame.specs.Address.{address}
use Rattle.frame.specs.declared.address.Address.{Address}
use Rattle.frame.proofs.Addresses.{address_of_its_bytes}
use Rattle.runs.specs.Ordered.{Ascending, All}
use Rattle.runs.proofs.ByPlace.{earlier_place_is_before, all_exactly_when_by_place}
use Rattle.motors.specs.Motor.{zeros, is_line, is_node}
use Rattle.motors.specs.Order.{by_line_and_node, earlier_of}
use Rattle.motors.specs.Register.{places, Right}
use Rattle.motors.specs.declared.motor.Motor.{Motor}
use Rattle.form.specs.Shape.{Shape, Faithful}
use Rattle.form.specs.Layout.{
  head_size,
  entry_size,
  form_length,
  entry_place,
  body_place,
  entry_of,
  body_of,
  contents_of,
  bodies_of,
  form_of,
  count_in,
  entry_in,
  line_in,
  node_in,
  pointer_in,
  body_in,
  motor_in,
  previous_in,
  entry_behind,
  entry_right,
  body_right,
  contents_right,
  bodies_right,
  motors_in,
}
use Rattle.form.specs.Reading.{checked}
use Rattle.form.proofs.Everywhere.{right_at_each, length-listed, listed_at}
use Rattle.form.proofs.Turns.{one_in_turn}
use Rattle.form.proofs.Laying.{length_contents, length_form}
use Rattle.form.proofs.Right.{line_right, node_right, line_small, node_small, behind_zeros}
use Rattle.form.proofs.Rows.{checked_by_lem}
use Rattle.std.specs.Prelude.{Ok}

-- A line, a NodeID and a body that are the same.
same_at : {A : Type 0} (g : (line node : ℕ) → List ℕ → A) {line line' node node' : ℕ} {d d' : List ℕ} → line ≡ line' → node ≡ node' → d ≡ d'
    → g line node d ≡ g line' node' d'
same_at g e h k = rw (e, h, k)

pub right_entry : (s : Shape) (previous : Motor) (count : ℕ) (b : List ℕ) (i : ℕ) → is_line (line_in b i) ≡ true → is_node (node_in b i) ≡ true
    → earlier_of previous (motor_in s count b i) ≡ true → pointer_in b i ≡ body_place s count i → entry_behind s previous count b i ≡ true
unfolding entry_behind
right_entry s previous count b i line node order place = rw (line, node, order) (eq-eqb (pointer_in b i) (body_place s count i) place)

module _ (s : Shape) (Fits : Motor → Type 0) (f : Faithful s Fits) (l : List Motor) where
  abbrev form : List ℕ
  form = form_of s l

  abbrev count : ℕ
  count = length l

  -- ---- the parts of the form
  first_byte : get_or form 0 0 ≡ s.first_byte
  unfolding form_of
  first_byte = refl

  behind_the_head : drop head_size form ≡ contents_of s count l ++ bodies_of s l
  unfolding form_of
  behind_the_head = refl

  behind_the_contents : drop (entry_place count) form ≡ bodies_of s l ++ []
  behind_the_contents =
      sym (drop-drop (entry_size * count) head_size form)
      ∙ ap (drop (entry_size * count)) behind_the_head
      ∙ drop_at (contents_of s count l) (bodies_of s l) (entry_size * count) (length_contents s f.of_one_size count l)
      ∙ sym (append-nil (bodies_of s l))

  module _ (i : ℕ) (h : i < length l) where
    abbrev m : Motor
    m = get_or l i zeros

    pub entry_is : entry_in form i ≡ entry_of s count i m
    entry_is =
        let start : 0 + i ≡ i = omega arith in
        ap (take entry_size) (sym (drop-drop (entry_size * i) head_size form) ∙ ap (drop (entry_size * i)) behind_the_head)
        ∙ one_in_turn (entry_of s count) entry_size (λ i m. refl) 0 i l (bodies_of s l) h
        ∙ ap (λ (k : ℕ). entry_of s count k m) start

    pub body_is : body_in s count form i ≡ s.body_of m
    body_is =
        ap (take s.body_size) (sym (drop-drop (s.body_size * i) (entry_place count) form) ∙ ap (drop (s.body_size * i)) behind_the_contents)
        ∙ one_in_turn (body_of s) s.body_size (λ i m. f.of_one_size m) 0 i l [] h

    module _ (right : Right (get_or l i zeros)) where
      line_is : line_in form i ≡ m.line
      line_is = ap (λ (c : List ℕ). get_or c 0 0) entry_is ∙ omega (arith, line_small m right)

      node_is : node_in form i ≡ m.node
      node_is = rw entry_is (ap (λ (a : Address). a.0) (address_of_its_bytes (address m.node) (node_small m right)))

      pointer_is : pointer_in form i ≡ body_place s count i
      pointer_is = rw entry_is (omega arith)

      motor_is : Fits m → motor_in s count form i ≡ m
      motor_is fits = same_at s.motor_of line_is node_is body_is ∙ f.the_motor_again m right fits

      body_right_lem : body_right s count form i ≡ true
      body_right_lem = same_at s.is_body line_is node_is body_is ∙ f.right_where_the_motor_is m right

      entry_right_lem : Fits m → earlier_of (previous_in s count form i) m ≡ true → entry_right s count form i ≡ true
      entry_right_lem fits earlier =
          right_entry s (previous_in s count form i) count form i (ap is_line line_is ∙ line_right m right) (ap is_node node_is ∙ node_right m right)
          (ap (earlier_of (previous_in s count form i)) (motor_is fits) ∙ earlier) pointer_is

  module _ (few : length l ≤ places) (all : All Right l) (ascends : Ascending by_line_and_node l) (fit : All Fits l) where
    right_here : (i : ℕ) → i < length l → Right (get_or l i zeros)
    right_here i h = (all_exactly_when_by_place Right zeros l).0 all i h

    fits_here : (i : ℕ) → i < length l → Fits (get_or l i zeros)
    fits_here i h = (all_exactly_when_by_place Fits zeros l).0 fit i h

    motor_here : (i : ℕ) → i < length l → motor_in s count form i ≡ get_or l i zeros
    motor_here i h = motor_is i h (right_here i h) (fits_here i h)

    in_order : (i : ℕ) → i < length l → earlier_of (previous_in s count form i) (get_or l i zeros) ≡ true
    in_order zero h = behind_zeros (get_or l 0 zeros) (right_here 0 h)
    in_order (suc i) h =
        rw (motor_here i (omega arith)) (earlier_place_is_before by_line_and_node zeros l ascends i (suc i) (omega arith) h)

    pub count_back : count_in form ≡ length l
    unfolding form_of
    count_back = omega arith

    contents_back : contents_right s count form ≡ true
    contents_back =
        right_at_each (entry_right s count form) count
        (λ i h. entry_right_lem i h (right_here i h) (fits_here i h) (in_order i h))

    bodies_back : bodies_right s count form ≡ true
    bodies_back = right_at_each (body_right s count form) count (λ i h. body_right_lem i h (right_here i h))

    pub accepted_back : checked s places form ≡ Ok (count_in form)
    accepted_back =
        sym (checked_by_lem s places form 6 (
          refl,
          (
            (omega (arith, length_form s f.of_one_size l), first_byte),
            (
              omega (arith, count_back),
              (
                length_form s f.of_one_size l ∙ ap (form_length s) (sym count_back),
                (rw count_back contents_back, (rw count_back bodies_back, tt)),
              ),
            ),
          ),
        ))

    pub motors_back : motors_in s form ≡ l
    motors_back =
        rw count_back
        (ext_get_or zeros _ l (length-listed (motor_in s count form) 0 count) λ i h.
        let k : i < length l = omega (arith, h, length-listed (motor_in s count form) 0 count) in
        let start : 0 + i ≡ i = omega arith in
        listed_at (motor_in s count form) 0 count i zeros k ∙ ap (motor_in s count form) start ∙ motor_here i k)
