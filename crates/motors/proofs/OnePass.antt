-- One pass over the records, by keys as numbers, finds what the order says.
-- Assumes nothing.
use Rattle.std.specs.Prelude.{if◌then◌else◌}
use Prim.Native.Nat.{ℕ, suc, ◌+◌, ◌<◌, ◌≤◌, ◌^◌}
use native.Mathlib.Omega.{arith}
use native.Mathlib.Nat.{le_of_suc-le-suc}
use mathlib.Core.Path.{◌≡◌, refl, ◌∙◌}
use mathlib.Core.Logic.{◌≢◌}
use mathlib.Core.Bool.{Bool, true, false, not}
use mathlib.Core.List.{List, [], ◌∷◌}
use lib.Dec.{ltb, leb, eqb}
use lib.ListN.{length, get_or, drop, length-take}
use borrow.Author.Tests.{leb-true, leb-false, eqb-true, eqb-false, lt-ltb, le-ltb, eq-eqb, ne_eqb}
use Rattle.meaning.specs.Cases.{by_test, passed_both}
use Rattle.runs.specs.Ordered.{holds, place_of, Ascending}
use Rattle.runs.proofs.ByPlace.{all_exactly_when_by_place}
use Rattle.runs.proofs.Place.{place-within, held_exactly_when_at_its_place, not_held_exactly_when_not_at_its_place}
use Rattle.motors.specs.Motor.{zeros, a_node, is_node, is_line, right_beside_line, right_of, key_number}
use Rattle.motors.specs.Order.{before, same, by_line_and_node, key_of}
use Rattle.motors.specs.Register.{held, before_next, in_order, all_blank, sound_of, Right}
use Rattle.motors.specs.Passing.{behind_all, begun, next_by, past, passed_from, passed_of}
use Rattle.motors.specs.Found.{found_of, found_by, standing, bits_of}
use Rattle.motors.specs.declared.found.Found.{Found}
use Rattle.motors.specs.declared.found.Found.TheVariants.{Held, New}
use Rattle.motors.specs.declared.motor.Motor.{Motor}
use Rattle.motors.specs.declared.passing.Passing.{Passing}
use Rattle.motors.proofs.Numbers.{key_before, key_same, all_blank_by_bits}
use Rattle.motors.proofs.Sound.{in_order_is}

-- A test that decides nothing.
either_false : (t : Bool) → (if t then false else false) ≡ false
either_false true = refl
either_false false = refl

either_zero : (t : Bool) → ◌≡◌ {A = ℕ} (if t then 0 else 0) 0
either_zero true = refl
either_zero false = refl

same_test : (t : Bool) (n : ℕ) → (if t then n else 0) ≡ (if if t then true else false then n else 0)
same_test true n = refl
same_test false n = refl

-- A right record's NodeID has 24 bits, and is not 0.
module _ (x : Motor) where
  node_right : right_beside_line x ≡ true → (1 ≤ x.node) × (x.node < 2 ^ 32)
  unfolding right_beside_line is_node
  node_right right =
      let n = (a_node x.node).is_fact (passed_both (is_node x.node) _ right).0 in
      (n.0, omega (arith, n.1))

  -- Its line is one of the lines.
  both_right : right_of x ≡ true → (x.line ≤ 3) × (right_beside_line x ≡ true)
  unfolding right_of
  both_right right = let s = passed_both (is_line x.line) _ right in (leb-true x.line 3 s.0, s.1)

  so_right : is_line x.line ≡ true → right_beside_line x ≡ true → right_of x ≡ true
  unfolding right_of
  so_right l r = rw (l, r)

  no_line : is_line x.line ≡ false → right_of x ≡ false
  unfolding right_of
  no_line l = rw l

  wrong_beside : right_beside_line x ≡ false → right_of x ≡ false
  unfolding right_of
  wrong_beside r = rw r (either_false (is_line x.line))

-- Behind the first of records in order the others are in order, and the first is right.
module _ (x : Motor) (l : List Motor) (o : in_order (x ∷ l) ≡ true) where
  rest_in_order : in_order l ≡ true
  unfolding in_order
  rest_in_order = (passed_both (in_order l) _ o).0

  first_right : right_of x ≡ true
  first_right = (in_order_is (x ∷ l) o).0.0

  first_fits : x.node < 2 ^ 32
  first_fits = (node_right x (both_right x first_right).1).1

-- ---- row 19
-- What a record that comes before these has to be below.
abbrev bound : List Motor → ℕ
bound [] = behind_all
bound (y ∷ l) = key_number y

bound_within : (l : List Motor) → in_order l ≡ true → bound l ≤ behind_all
bound_within [] o = omega arith
bound_within (y ∷ l) o = omega (arith, (both_right y (first_right y l o)).0, first_fits y l o)

-- A record with right fields is below it exactly when its line is one of the lines and it is before the next.
module _ (x : Motor) (beside : right_beside_line x ≡ true) where
  in_turn : (l : List Motor) → in_order l ≡ true → is_line x.line ≡ true → ltb (key_number x) (bound l) ≡ before_next x l
  in_turn [] o t = lt-ltb (key_number x) behind_all (omega (arith, leb-true x.line 3 t, (node_right x beside).1))
  in_turn (y ∷ l) o t = key_before x y (node_right x beside).1 (first_fits y l o)

  too_high_lem : (l : List Motor) → in_order l ≡ true → is_line x.line ≡ false → ltb (key_number x) (bound l) ≡ false
  too_high_lem l o t = le-ltb (key_number x) (bound l) (omega (arith, bound_within l o, leb-false x.line 3 t))

-- The key that is left, or 0.
abbrev leaves : Bool → ℕ → ℕ
leaves right number = if right then number else 0

abbrev right_and_before : Motor → List Motor → Bool
right_and_before x l = if before_next x l then right_of x else false

module _ (wanted : ℕ) (p : Passing) (behind_all_lem : p.next ≡ behind_all) where
  abbrev At : ℕ → List Motor → Passing
  At at l = passed_from wanted at p l

  next_by_lem : (q : Passing) (x : Motor) (l : List Motor) → in_order l ≡ true → q.next ≡ bound l
      → next_by q (key_number x) x ≡ leaves (right_and_before x l) (key_number x)
  unfolding next_by
  next_by_lem q x l o e =
      by_test (right_beside_line x)
      (λ r. by_test (is_line x.line)
      (λ t. rw (e, r, in_turn x r l o t, so_right x t r) (same_test (before_next x l) (key_number x)))
      (λ t. rw (e, r, too_high_lem x r l o t, no_line x t, either_false (before_next x l))))
      (λ r. rw (e, r, wrong_beside x r, either_false (before_next x l)) (either_zero (ltb (key_number x) (bound l))))

  next_past : (q : Passing) (x : Motor) (at : ℕ) → (past q wanted x at).next ≡ next_by q (key_number x) x
  unfolding past
  next_past q x at = by_test (ltb (key_number x) wanted) (λ t. rw t) (λ t. rw t)

  none_below_zero : (q : Passing) (x : Motor) → q.next ≡ 0 → next_by q (key_number x) x ≡ 0
  unfolding next_by
  none_below_zero q x e = rw (e, le-ltb (key_number x) 0 (omega arith))

  pub next_passed : (at : ℕ) (l : List Motor) → (At at l).next ≡ leaves (in_order l) (bound l)
  unfolding passed_from in_order
  next_passed at [] = behind_all_lem
  next_passed at (x ∷ l) =
      next_past (At (suc at) l) x at
      ∙ by_test (in_order l)
      (λ o. rw o (next_by_lem (At (suc at) l) x l o (next_passed (suc at) l ∙ rw o)))
      (λ o. rw o (none_below_zero (At (suc at) l) x (next_passed (suc at) l ∙ rw o)))

-- 0 is left exactly where the records are not in order.
not-zero : (l : List Motor) → in_order l ≡ true → bound l ≢ 0
not-zero [] o e = omega (arith, e)
not-zero (y ∷ l) o e = omega (arith, e, (node_right y (both_right y (first_right y l o)).1).0)

-- ---- the place, and the key that stands there
module _ (m : Motor) (fits : m.node < 2 ^ 32) (p : Passing) where
  abbrev Past : ℕ → List Motor → Passing
  Past at l = passed_from (key_number m) at p l

  abbrev place : List Motor → ℕ
  place l = place_of by_line_and_node l (key_of m)

  pub place_passed : (at : ℕ) (l : List Motor) → in_order l ≡ true → p.place ≡ at + length l → (Past at l).place ≡ at + place l
  unfolding passed_from place_of past
  place_passed at [] o e = e
  place_passed at (x ∷ l) o e =
      let on = place_passed (suc at) l (rest_in_order x l o) (omega arith) in
      rw (key_before x m (first_fits x l o) fits)
      (by_test (before (key_of x) (key_of m)) (λ t. rw t (omega (arith, on))) (λ t. rw t (omega arith)))

  pub there_passed : (at : ℕ) (l : List Motor) → in_order l ≡ true → place l < length l
      → (Past at l).there ≡ key_number (get_or l (place l) zeros)
  unfolding passed_from place_of past
  there_passed at [] o h = absurd (omega arith)
  there_passed at (x ∷ l) o h =
      rw (key_before x m (first_fits x l o) fits)
      (by_test (before (key_of x) (key_of m))
      (λ t. let on : place l < length l = rw t at (le_of_suc-le-suc h) in rw t (there_passed (suc at) l (rest_in_order x l o) on))
      (λ t. rw t))

-- ---- one pass is what is found
module _ (run : List Motor) (count : ℕ) (m : Motor) (fits : m.node < 2 ^ 32) where
  abbrev l : List Motor
  l = held run count

  abbrev passed : Passing
  passed = passed_of run count (key_number m)

  abbrev bits : ℕ
  bits = bits_of (drop count run)

  -- Held, or not, once row 19 is passed.
  abbrev Told : Found
  Told =
      if eqb passed.place count then New count else
      if not (eqb passed.there (key_number m)) then New passed.place else
      Held passed.place

  module _ (number : length l ≡ count) (o : in_order l ≡ true) where
    abbrev p : ℕ
    p = place_of by_line_and_node l (key_of m)

    at_place : passed.place ≡ p
    at_place =
        let there = place_passed m fits (begun count) 0 l o (omega (arith, number)) in
        omega (arith, there)

    ascending : Ascending by_line_and_node l
    ascending = (in_order_is l o).1

    at_the_end : p ≡ count → Told ≡ standing (holds by_line_and_node l (key_of m)) p
    at_the_end e =
        let none = (not_held_exactly_when_not_at_its_place by_line_and_node zeros l (key_of m) ascending).1 (λ h. absurd (omega (arith, e, number, h))) in
        rw (at_place, eq-eqb p count e, none, e)

    within : p < length l → Told ≡ standing (holds by_line_and_node l (key_of m)) p
    within h =
        let x = get_or l p zeros in
        let right = (all_exactly_when_by_place Right zeros l).0 (in_order_is l o).0 p h in
        let x_fits = (node_right x (both_right x right).1).1 in
        let there : passed.there ≡ key_number x = there_passed m fits (begun count) 0 l o h in
        rw (at_place, ne_eqb p count (λ e. omega (arith, e, number)), there, key_same x m x_fits fits)
        (by_test (same (key_of x) (key_of m))
        (λ s. rw (s, (held_exactly_when_at_its_place by_line_and_node zeros l (key_of m) ascending).1 (h, s)))
        (λ s. rw (s, (not_held_exactly_when_not_at_its_place by_line_and_node zeros l (key_of m) ascending).1 (λ _. s))))

    told : Told ≡ standing (holds by_line_and_node l (key_of m)) p
    told =
        let most = place-within by_line_and_node l (key_of m) in
        by_test (eqb p count)
        (λ e. at_the_end (eqb-true p count e))
        (λ e. within (omega (arith, most, number, eqb-false p count e)))

  pub found_by_one_pass : found_by (length run) count (key_number m) passed bits ≡ found_of run count m
  unfolding found_by found_of sound_of
  found_by_one_pass =
      let next = next_passed (key_number m) (begun count) refl 0 l in
      let blank = all_blank_by_bits (drop count run) in
      by_test (eqb (length run) 256)
      (λ full. by_test (leb count 256)
      (λ few. by_test (in_order l)
      (λ o. by_test (all_blank (drop count run))
      (λ b.
      let n : length l ≡ count = simp length-take (omega (arith, eqb-true (length run) 256 full, leb-true count 256 few)) in
      rw (full, few, next, o, ne_eqb (bound l) 0 (not-zero l o), blank, b) (told n o))
      (λ b. rw (full, few, next, o, ne_eqb (bound l) 0 (not-zero l o), blank, b)))
      (λ o. rw (full, few, next, o)))
      (λ few. rw (full, few)))
      (λ full. rw full)
