-- A test that every element of a list passes, and what a loop over the list sees of it from an index on.
-- Assumes nothing.
use Rattle.std.specs.Prelude.{if◌then◌else◌, ℕ, zero, suc, ◌+◌, ◌≤◌, ◌<◌, ◌≡◌, refl, Bool, true, false, ◌&&◌, List, [], ◌∷◌, length, get_or, drop}
use Rattle.std.proofs.Common.{arith, add-one, drop-cons}
use Rattle.std.proofs.Math.ListN.{drop_of_length-le}
use Rattle.meaning.specs.Cases.{both, and_so}

unfoldable pub every : {A : Type 0} → (A → Bool) → List A → Bool
every test [] = true
every test (x ∷ l) = test x && every test l

-- The element at an index decides, or leaves it to those behind it.
module _ {A : Type 0} (test : A → Bool) (l : List A) (d : A) (i : ℕ) where
  pub fails_at : i < length l → test (get_or l i d) ≡ false → every test (drop i l) ≡ false
  unfolding every
  fails_at h e = rw (drop-cons l i d, e)

  pub passes_at : i < length l → test (get_or l i d) ≡ true → every test (drop i l) ≡ every test (drop (i + 1) l)
  unfolding every
  passes_at h e = rw (drop-cons l i d, e, add-one)

  pub past_the_end : length l ≤ i → every test (drop i l) ≡ true
  unfolding every
  past_the_end h = rw drop_of_length-le

-- Index by index.
pub each_passes : {A : Type 0} (test : A → Bool) (l : List A) (d : A) → every test l ≡ true
    → (i : ℕ) → i < length l → test (get_or l i d) ≡ true
unfolding every
each_passes test [] d e i h = absurd (omega arith)
each_passes test (x ∷ l) d e zero h = (both (test x) (every test l) e).0
each_passes test (x ∷ l) d e (suc i) h = each_passes test l d (both (test x) (every test l) e).1 i (omega arith)

pub every_by : {A : Type 0} (test : A → Bool) (l : List A) (d : A)
    → ((i : ℕ) → i < length l → test (get_or l i d) ≡ true) → every test l ≡ true
unfolding every
every_by test [] d f = refl
every_by test (x ∷ l) d f = and_so (test x) (every test l) (f 0 (omega arith)) (every_by test l d (λ i h. f (suc i) (omega arith)))

-- What a loop that keeps one bit has seen.
pub never : (t : Bool) → (if t then false else false) ≡ false
never true = refl
never false = refl

pub itself : (t : Bool) → (if t then true else false) ≡ t
itself true = refl
itself false = refl
