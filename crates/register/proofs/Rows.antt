-- How far the records counted go: no further than the count says, and no further than there are places. A test's outcome.
-- Assumes nothing.
use Prim.Native.Nat.{ℕ, ◌≤◌}
use native.Mathlib.Omega.{arith}
use mathlib.Core.Path.{◌≡◌, refl}
use mathlib.Core.Bool.{Bool, true, false, not}
use lib.Dec.{T as Holds, ltb}
use borrow.Author.Tests.{ltb-true, ltb-false}
use Rattle.meaning.specs.Cases.{by_test}
use Rattle.register.specs.Run.{fewer}

-- of the records counted, no more than that and no more than there are places
pub fewer_within : (count n : ℕ) → (fewer count n ≤ count) × (fewer count n ≤ n)
fewer_within count n =
    by_test (ltb count n) (λ t. let l = ltb-true count n t in rw t (omega arith, omega arith)) (λ t. rw t (ltb-false count n t, omega arith))

-- a test's outcome, as an equation
pub is_true : (t : Bool) → Holds t → t ≡ true
is_true true h = refl
is_true false h = absurd h

pub is_false : (t : Bool) → Holds (not t) → t ≡ false
is_false true h = absurd h
is_false false h = refl
