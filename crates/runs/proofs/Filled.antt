-- The places that hold a run, at any capacity: what is done to a place of the run is done to the run, with blanks behind it as before.
-- Assumes nothing.
use Prim.Native.Nat.{ℕ, zero, suc, ◌+◌, ◌-◌, ◌<◌, ◌≤◌}
use native.Mathlib.Omega.{arith}
use native.Mathlib.Nat.{le_of_suc-le-suc}
use mathlib.Core.Path.{◌≡◌, refl, ◌∙◌, ap}
use mathlib.Core.List.{List, ◌∷◌, ◌++◌, append_assoc}
use lib.Dec.{ltb}
use lib.ListN.{
  length,
  get_or,
  set,
  take,
  drop,
  replicate,
  length-append,
  length-take,
  length-drop,
  length-set,
  length-replicate,
  get_or-replicate,
  replicate-append-replicate,
  get_or-append,
  get_or-eq_default,
}
use lib.Seq.{take-append-le, drop-append-le, take-append-add, take-append_seam, set-append_left, get_or-append-add}
use borrow.Author.Tests.{ltb-true, ltb-false}
use Rattle.meaning.specs.Cases.{by_test}
use Rattle.runs.specs.Places.{filled, inserted, removed}

module _ {R : Type 0} where
  -- ---- a record put in between, and a place given back: the number of places
  pub length-between : (l : List R) (p : ℕ) (r : R) → length (take p l ++ r ∷ drop p l) ≡ suc (length l)
  length-between l p r = simp (length-append, length-take, length-drop) (omega arith)

  pub length_closed : (l : List R) (p : ℕ) → p < length l → suc (length (take p l ++ drop (suc p) l)) ≡ length l
  length_closed l p h = simp (length-append, length-take, length-drop) (omega arith)

  pub inserted_keeps_the_length : (run : List R) (p : ℕ) (r : R) → length (inserted run p r) ≡ length run
  unfolding inserted
  inserted_keeps_the_length run p r = simp (length-take, length-between) (omega arith)

  pub removed_keeps_the_length : (blank : R) (run : List R) (p : ℕ) → p < length run → length (removed blank run p) ≡ length run
  unfolding removed
  removed_keeps_the_length blank run p h = simp (length-append, length-take, length-drop) (omega arith)

module _ {R : Type 0} (n : ℕ) (blank : R) where
  pub filled_has_every_place : (l : List R) → length l ≤ n → length (filled n blank l) ≡ n
  unfolding filled
  filled_has_every_place l h = rw (length-append, length-replicate) (omega arith)

  pub filled_holds_the_run : (l : List R) → take (length l) (filled n blank l) ≡ l
  unfolding filled
  filled_holds_the_run l = take-append_seam l (replicate (n - length l) blank)

  pub filled_has_the_record : (l : List R) (i : ℕ) → i < length l → get_or (filled n blank l) i blank ≡ get_or l i blank
  unfolding filled
  filled_has_the_record l i h = get_or-append l (replicate (n - length l) blank) blank i h

  pub filled_is_blank_behind : (l : List R) (i : ℕ) → length l ≤ i → get_or (filled n blank l) i blank ≡ blank
  unfolding filled
  filled_is_blank_behind l i h =
      let z : i ≡ length l + (i - length l) = omega arith in
      let k = n - length l in
      ap (λ (j : ℕ). get_or (l ++ replicate (n - length l) blank) j blank) z
      ∙ get_or-append-add l (replicate k blank) (i - length l) blank
      ∙ by_test (ltb (i - length l) k)
      (λ t. get_or-replicate k (i - length l) blank blank (ltb-true _ _ t))
      (λ t. get_or-eq_default (replicate k blank) blank (rw length-replicate (ltb-false _ _ t)))

  take_blanks : (i k : ℕ) → i ≤ k → take i (replicate k blank) ≡ replicate i blank
  take_blanks zero k h = refl
  take_blanks (suc i) zero h = absurd (omega arith)
  take_blanks (suc i) (suc k) h = ap (λ (m : List R). blank ∷ m) (take_blanks i k (le_of_suc-le-suc h))

  -- ---- what is done to the places
  module _ (l : List R) (p : ℕ) where
    pub set_in_the_places : (r : R) → p < length l → set (filled n blank l) p r ≡ filled n blank (set l p r)
    unfolding filled
    set_in_the_places r h = rw (set-append_left l (replicate (n - length l) blank) p r h, length-set l p r)

    pub inserted_in_the_places : (r : R) → p ≤ length l → length l < n
        → inserted (filled n blank l) p r ≡ filled n blank (take p l ++ r ∷ drop p l)
    unfolding filled inserted
    inserted_in_the_places r h room =
        let blanks = replicate (n - length l) blank in
        let between = take p l ++ r ∷ drop p l in
        let more = n - length between in
        let e : length (l ++ replicate (n - length l) blank) ≡ length between + more =
        rw (length-append l blanks, length-replicate (n - length l) blank) (omega (arith, length-between l p r)) in
        rw (take-append-le p l blanks h, drop-append-le p l blanks h, e, ← append_assoc (take p l) (r ∷ drop p l) blanks)
        (take-append-add between blanks more
        ∙ ap (λ (m : List R). between ++ m) (take_blanks more (n - length l) (omega (arith, length-between l p r))))

    pub removed_in_the_places : p < length l → length l ≤ n → removed blank (filled n blank l) p ≡ filled n blank (take p l ++ drop (suc p) l)
    unfolding filled removed
    removed_in_the_places h room =
        let e : n - length (take p l ++ drop (suc p) l) ≡ n - length l + 1 = omega (arith, length_closed l p h) in
        rw (
          e,
          take-append-le p l (replicate (n - length l) blank) (omega arith),
          drop-append-le (suc p) l (replicate (n - length l) blank) h,
          ← replicate-append-replicate (n - length l) 1 blank,
        ) (simp append_assoc)
