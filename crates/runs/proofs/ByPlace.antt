-- The order and the kind of a run's records by their places; `blank` stands in for a record past the end.
-- Assumes nothing.
use Prim.Native.Nat.{ℕ, zero, suc, ◌<◌, suc-le-suc}
use native.Mathlib.Omega.{arith}
use native.Mathlib.Nat.{le_of_suc-le-suc}
use mathlib.Core.Path.{◌≡◌}
use mathlib.Core.Logic.{◌↔◌}
use mathlib.Core.Bool.{true}
use mathlib.Core.List.{List, [], ◌∷◌}
use lib.ListN.{length, get_or}
use Rattle.runs.specs.Ordered.{Ordered, Behind, Ascending, All}
use Rattle.runs.proofs.Order.{behind_still, behind_ascends}

module _ {R : Type 0} (o : Ordered R) (blank : R) where
  pub every_place_is_behind : (k : o.Key) (l : List R) → Behind o k l → (i : ℕ) → i < length l → o.before k (o.key (get_or l i blank)) ≡ true
  every_place_is_behind k [] b i h = absurd (omega arith)
  every_place_is_behind k (x ∷ l) b zero h = b.0
  every_place_is_behind k (x ∷ l) b (suc i) h =
      every_place_is_behind k l (behind_still o k (o.key x) l b.0 b.1) i (le_of_suc-le-suc h)

  -- In an ascending run the record of an earlier place stands before that of a later one.
  pub earlier_place_is_before : (l : List R) → Ascending o l → (i j : ℕ) → i < j → j < length l
      → o.before (o.key (get_or l i blank)) (o.key (get_or l j blank)) ≡ true
  earlier_place_is_before [] a i j h h' = absurd (omega arith)
  earlier_place_is_before (x ∷ l) a i zero h h' = absurd (omega arith)
  earlier_place_is_before (x ∷ l) a zero (suc j) h h' = every_place_is_behind (o.key x) l a j (le_of_suc-le-suc h')
  earlier_place_is_before (x ∷ l) a (suc i) (suc j) h h' =
      earlier_place_is_before l (behind_ascends o (o.key x) l a) i j (le_of_suc-le-suc h) (le_of_suc-le-suc h')

  -- A run whose every record stands before the next is ascending.
  pub before_the_next_ascends : (l : List R)
      → ((i : ℕ) → suc i < length l → o.before (o.key (get_or l i blank)) (o.key (get_or l (suc i) blank)) ≡ true) → Ascending o l
  before_the_next_ascends [] f = tt
  before_the_next_ascends (x ∷ []) f = tt
  before_the_next_ascends (x ∷ y ∷ l) f = (f 0 (omega arith), before_the_next_ascends (y ∷ l) (λ i h. f (suc i) (suc-le-suc h)))

  pub ascending_exactly_when_by_place : (l : List R)
      → Ascending o l
      ↔ ((i j : ℕ) → i < j → j < length l → o.before (o.key (get_or l i blank)) (o.key (get_or l j blank)) ≡ true)
  ascending_exactly_when_by_place l =
      (earlier_place_is_before l, λ f. before_the_next_ascends l (λ i h. f i (suc i) (omega arith) h))

module _ {R : Type 0} (kind : R → Type 0) (blank : R) where
  all_so : (l : List R) → All kind l → (i : ℕ) → i < length l → kind (get_or l i blank)
  all_so [] a i h = absurd (omega arith)
  all_so (x ∷ l) a zero h = a.0
  all_so (x ∷ l) a (suc i) h = all_so l a.1 i (le_of_suc-le-suc h)

  so_all : (l : List R) → ((i : ℕ) → i < length l → kind (get_or l i blank)) → All kind l
  so_all [] f = tt
  so_all (x ∷ l) f = (f 0 (omega arith), so_all l (λ i h. f (suc i) (suc-le-suc h)))

  pub all_exactly_when_by_place : (l : List R) → All kind l ↔ ((i : ℕ) → i < length l → kind (get_or l i blank))
  all_exactly_when_by_place l = (all_so l, so_all l)
