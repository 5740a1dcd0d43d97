-- A check at each of the first places, and the motors of places, one by one.
-- Assumes nothing.
use Prim.Native.Nat.{ℕ, zero, suc, ◌+◌, ◌<◌}
use native.Mathlib.Omega.{arith}
use native.Mathlib.Numerals.{add-one}
use native.Mathlib.Nat.{add-zero, le_of_suc-le-suc}
use mathlib.Core.Path.{◌≡◌, refl, ◌∙◌, sym, ap}
use mathlib.Core.Bool.{Bool, true, ◌&&◌}
use lib.Dec.{eqb}
use lib.ListN.{length, get_or}
use borrow.Author.Tests.{eqb-true, eqb-false}
use Rattle.meaning.specs.Cases.{by_test, passed_both}
use denote.Param.Members.{Mut}
use Rattle.std.specs.declared.ops.Range.{Range}
use Rattle.std.specs.Fn.{Called}
use Rattle.std.specs.Iterator.{ChecksAll}
use Rattle.std.specs.List.{list_all, range_with_len}
use Rattle.std.proofs.iter.Yields.{nat_range_steps}
use Rattle.std.proofs.lemmas.Iterator.{YieldsList-from_range}
use Rattle.std.proofs.lemmas.Iterator.Search.{all_from_yields_List}
use Rattle.motors.specs.declared.motor.Motor.{Motor}
use Rattle.form.specs.Layout.{everywhere, listed}

module _ (right : ℕ → Bool) where
  pub right_at : (n i : ℕ) → everywhere right n ≡ true → i < n → right i ≡ true
  unfolding everywhere
  right_at zero i e h = absurd (omega arith)
  right_at (suc n) i e h =
      let each = passed_both (everywhere right n) (right n) e in
      by_test (eqb i n) (λ t. rw (eqb-true i n t) each.1) (λ t. right_at n i each.0 (omega (arith, eqb-false i n t)))

  pub right_at_each : (n : ℕ) → ((i : ℕ) → i < n → right i ≡ true) → everywhere right n ≡ true
  unfolding everywhere
  right_at_each zero f = refl
  right_at_each (suc n) f = rw (right_at_each n (λ i h. f i (omega arith))) (f n (omega arith))

  in_turn_from : (i n : ℕ) → (everywhere right i && list_all right (range_with_len i n)) ≡ everywhere right (i + n)
  unfolding everywhere
  in_turn_from i zero = by_test (everywhere right i) (λ t. rw (add-zero, t) refl) (λ t. rw (add-zero, t) refl)
  in_turn_from i (suc n) =
      let on : i + suc n ≡ suc i + n = omega arith in
      by_test (everywhere right i)
      (λ t. rw (add-one, t, on) (rw t at (in_turn_from (suc i) n)))
      (λ t. rw (t, on) (rw t at (in_turn_from (suc i) n)))

  -- The chain `(0..n).all(..)` of that check.
  pub all_in_range : {F : Type 0} {g : Mut F (ℕ × Unit {0}) Bool} (n : ℕ) (f : F) (u : Range ℕ) (r : Bool)
      → ChecksAll nat_range_steps g (record { start = 0; end = n }) f r u
      → ((i : ℕ) (b : Bool) (q : F) → Called g f (i, tt) b q → (q ≡ f) × (b ≡ right i)) → r ≡ everywhere right n
  unfolding everywhere
  all_in_range n f u r ran each =
      let start : 0 + n ≡ n = omega arith in
      all_from_yields_List right u f r ran (YieldsList-from_range 0 n n refl (omega arith)) each ∙ in_turn_from 0 n ∙ ap (everywhere right) start

module _ (motor_at : ℕ → Motor) where
  pub length-listed : (at n : ℕ) → length (listed motor_at at n) ≡ n
  unfolding listed
  length-listed at zero = refl
  length-listed at (suc n) = ap suc (length-listed (suc at) n)

  pub listed_at : (at n i : ℕ) (none : Motor) → i < n → get_or (listed motor_at at n) i none ≡ motor_at (at + i)
  unfolding listed
  listed_at at zero i none h = absurd (omega arith)
  listed_at at (suc n) zero none h = let e : at ≡ at + 0 = sym (add-zero at) in ap motor_at e
  listed_at at (suc n) (suc i) none h =
      let e : suc at + i ≡ at + suc i = omega arith in
      listed_at (suc at) n i none (le_of_suc-le-suc h) ∙ ap motor_at e
