-- The place of a key: which records stand before it, when its record stands there, and what placing and removing do there.
-- Assumes nothing.
use Prim.Native.Nat.{ℕ, zero, suc, ◌<◌, ◌≤◌, suc-le-suc}
use native.Mathlib.Omega.{arith}
use native.Mathlib.Nat.{le_of_suc-le-suc}
use mathlib.Core.Path.{◌≡◌, refl, ◌∙◌, sym, ap}
use mathlib.Core.Logic.{◌↔◌}
use mathlib.Core.Bool.{true, false, ◌||◌}
use mathlib.Core.List.{List, [], ◌∷◌, ◌++◌}
use mathlib.Core.Option.{some}
use lib.ListN.{length, get_or, set, take, drop}
use Rattle.meaning.specs.Cases.{by_test}
use Rattle.runs.specs.Ordered.{Ordered, looked_up, is_some, holds, place_of, placed, without, Ascending}
use Rattle.runs.proofs.Order.{else_false, never_both, before_is_another, behind_ascends}
use Rattle.runs.proofs.Lookup.{here, further, holds_here, holds_further, nothing_holds, not_held_from_behind}
use Rattle.runs.proofs.Placing.{placed_past, placed_over, placed_between}
use Rattle.runs.proofs.Removing.{without_here, without_further}
use Rattle.runs.proofs.ByPlace.{every_place_is_behind}

module _ {R : Type 0} (o : Ordered R) where
  -- ---- the two ways at a record x
  module _ (x : R) (l : List R) (k : o.Key) where
    pub place-past : o.before (o.key x) k ≡ true → place_of o (x ∷ l) k ≡ suc (place_of o l k)
    unfolding place_of
    place-past e = rw e

    pub place_here : o.before (o.key x) k ≡ false → place_of o (x ∷ l) k ≡ 0
    unfolding place_of
    place_here e = rw e

  pub place-within : (l : List R) (k : o.Key) → place_of o l k ≤ length l
  unfolding place_of
  place-within [] k = omega arith
  place-within (x ∷ l) k =
      by_test (o.before (o.key x) k) (λ t. rw t (omega (arith, place-within l k))) (λ t. rw t (omega arith))

  pub no_place : (k : o.Key) → place_of o [] k ≡ 0
  unfolding place_of
  no_place k = refl

  -- ---- the records before the place are those before the key
  module _ (blank : R) where
    pub below_the_place_is_before : (l : List R) (k : o.Key) (i : ℕ) → i < place_of o l k → o.before (o.key (get_or l i blank)) k ≡ true
    unfolding place_of
    below_the_place_is_before [] k i h = absurd (omega arith)
    below_the_place_is_before (x ∷ l) k zero h =
        by_test (o.before (o.key x) k) (λ t. t) (λ t. absurd (omega (arith, rw t at h)))
    below_the_place_is_before (x ∷ l) k (suc i) h =
        by_test (o.before (o.key x) k)
        (λ t. below_the_place_is_before l k i (le_of_suc-le-suc (rw t at h)))
        (λ t. absurd (omega (arith, rw t at h)))

    first_is_before_too : (x : R) (l : List R) (k : o.Key) (i : ℕ) → Ascending o (x ∷ l) → i < length l
        → o.before (o.key (get_or l i blank)) k ≡ true → o.before (o.key x) k ≡ true
    first_is_before_too x l k i a h e =
        o.before_still (o.key x) (o.key (get_or l i blank)) k (every_place_is_behind o blank (o.key x) l a i h) e

    pub before_is_below_the_place : (l : List R) (k : o.Key) (i : ℕ) → Ascending o l → i < length l
        → o.before (o.key (get_or l i blank)) k ≡ true → i < place_of o l k
    before_is_below_the_place [] k i a h e = absurd (omega arith)
    before_is_below_the_place (x ∷ l) k zero a h e = rw (place-past x l k e) (omega arith)
    before_is_below_the_place (x ∷ l) k (suc i) a h e =
        let first = first_is_before_too x l k i a (le_of_suc-le-suc h) e in
        let on = before_is_below_the_place l k i (behind_ascends o (o.key x) l a) (le_of_suc-le-suc h) e in
        rw (place-past x l k first) (suc-le-suc on)

    -- One pass over the places finds the place: a record stands before the key exactly below it.
    pub before_exactly_below_the_place : (l : List R) (k : o.Key) (i : ℕ) → Ascending o l → i < length l
        → (o.before (o.key (get_or l i blank)) k ≡ true) ↔ (i < place_of o l k)
    before_exactly_below_the_place l k i a h = (before_is_below_the_place l k i a h, below_the_place_is_before l k i)

    pub at_the_place_is_not_before : (l : List R) (k : o.Key) → place_of o l k < length l
        → o.before (o.key (get_or l (place_of o l k) blank)) k ≡ false
    at_the_place_is_not_before [] k h = absurd (omega arith)
    at_the_place_is_not_before (x ∷ l) k h =
        by_test (o.before (o.key x) k)
        (λ t.
        let p = place-past x l k t in
        rw p (at_the_place_is_not_before l k (omega (arith, p))))
        (λ t. rw (place_here x l k t) t)

    -- The place is the first whose record does not stand before the key, or the end.
    pub first_not_before_is_the_place : (l : List R) (k : o.Key) (p : ℕ) → p ≤ length l
        → ((i : ℕ) → i < p → o.before (o.key (get_or l i blank)) k ≡ true) → (p < length l → o.before (o.key (get_or l p blank)) k ≡ false)
        → place_of o l k ≡ p
    first_not_before_is_the_place [] k p h f g = omega (arith, place-within [] k)
    first_not_before_is_the_place (x ∷ l) k zero h f g = place_here x l k (g (omega arith))
    first_not_before_is_the_place (x ∷ l) k (suc p) h f g =
        place-past x l k (f 0 (omega arith))
        ∙ ap suc (first_not_before_is_the_place l k p (le_of_suc-le-suc h) (λ i b. f (suc i) (suc-le-suc b)) (λ b. g (suc-le-suc b)))

    -- In an ascending run it is one more than the last place whose record stands before the key.
    pub one_more_than_the_last_before_is_the_place : (l : List R) (k : o.Key) (i : ℕ) → Ascending o l → i < length l
        → o.before (o.key (get_or l i blank)) k ≡ true → (suc i < length l → o.before (o.key (get_or l (suc i) blank)) k ≡ false)
        → place_of o l k ≡ suc i
    one_more_than_the_last_before_is_the_place l k i a h e =
        let low = before_is_below_the_place l k i a h e in
        first_not_before_is_the_place l k (suc i) h (λ j b. below_the_place_is_before l k j (omega arith))

    -- ---- a pass over the places, from the first i to one more
    pub past_one_before_the_place_is_behind_it : (l : List R) (k : o.Key) (i : ℕ) → Ascending o l → i < length l
        → o.before (o.key (get_or l i blank)) k ≡ true → place_of o (take (suc i) l) k ≡ suc i
    past_one_before_the_place_is_behind_it [] k i a h e = absurd (omega arith)
    past_one_before_the_place_is_behind_it (x ∷ l) k zero a h e = place-past x [] k e ∙ ap suc (no_place k)
    past_one_before_the_place_is_behind_it (x ∷ l) k (suc i) a h e =
        let first = first_is_before_too x l k i a (le_of_suc-le-suc h) e in
        place-past x (take (suc i) l) k first
        ∙ ap suc (past_one_before_the_place_is_behind_it l k i (behind_ascends o (o.key x) l a) (le_of_suc-le-suc h) e)

    pub past_one_not_before_the_place_stays : (l : List R) (k : o.Key) (i : ℕ) → i < length l
        → o.before (o.key (get_or l i blank)) k ≡ false → place_of o (take (suc i) l) k ≡ place_of o (take i l) k
    past_one_not_before_the_place_stays [] k i h e = absurd (omega arith)
    past_one_not_before_the_place_stays (x ∷ l) k zero h e = place_here x [] k e ∙ sym (no_place k)
    past_one_not_before_the_place_stays (x ∷ l) k (suc i) h e =
        by_test (o.before (o.key x) k)
        (λ t. place-past x (take (suc i) l) k t ∙ ap suc (past_one_not_before_the_place_stays l k i (le_of_suc-le-suc h) e)
        ∙ sym (place-past x (take i l) k t))
        (λ t. place_here x (take (suc i) l) k t ∙ sym (place_here x (take i l) k t))

    pub past_one_more_holds : (l : List R) (k : o.Key) (i : ℕ) → i < length l
        → holds o (take (suc i) l) k ≡ (holds o (take i l) k || o.same (o.key (get_or l i blank)) k)
    unfolding looked_up
    past_one_more_holds [] k i h = absurd (omega arith)
    past_one_more_holds (x ∷ l) k zero h = by_test (o.same (o.key x) k) (λ s. rw s) (λ s. rw s)
    past_one_more_holds (x ∷ l) k (suc i) h =
        by_test (o.same (o.key x) k) (λ s. rw s) (λ s. rw s (past_one_more_holds l k i (le_of_suc-le-suc h)))

    -- ---- a key is held exactly when its record stands at its place
    pub at_its_place_is_found : (l : List R) (k : o.Key) → place_of o l k < length l
        → o.same (o.key (get_or l (place_of o l k) blank)) k ≡ true → looked_up o l k ≡ some (get_or l (place_of o l k) blank)
    at_its_place_is_found [] k h s = absurd (omega arith)
    at_its_place_is_found (x ∷ l) k h s =
        by_test (o.before (o.key x) k)
        (λ t.
        let p = place-past x l k t in
        rw p (further o x l k (before_is_another o (o.key x) k t) ∙ at_its_place_is_found l k (omega (arith, p)) (rw p at s)))
        (λ t.
        let p = place_here x l k t in
        rw p (here o x l k (rw p at s)))

    held_stands_at_its_place : (l : List R) (k : o.Key) → Ascending o l → holds o l k ≡ true
        → (place_of o l k < length l) × (o.same (o.key (get_or l (place_of o l k) blank)) k ≡ true)
    held_stands_at_its_place [] k a h = absurd (never_both h (nothing_holds o k))
    held_stands_at_its_place (x ∷ l) k a h =
        by_test (o.before (o.key x) k)
        (λ t.
        let p = place-past x l k t in
        let d = holds_further o x l k (before_is_another o (o.key x) k t) in
        let on = held_stands_at_its_place l k (behind_ascends o (o.key x) l a) (sym d ∙ h) in
        rw p (suc-le-suc on.0, on.1)) λ t.
        by_test (o.same (o.key x) k)
        (λ s. rw (place_here x l k t) (omega arith, s))
        (λ s. absurd (never_both h (not_held_from_behind o x l k a t s)))

    pub held_exactly_when_at_its_place : (l : List R) (k : o.Key) → Ascending o l
        → (holds o l k ≡ true) ↔ ((place_of o l k < length l) × (o.same (o.key (get_or l (place_of o l k) blank)) k ≡ true))
    held_exactly_when_at_its_place l k a = (held_stands_at_its_place l k a, λ s. ap is_some (at_its_place_is_found l k s.0 s.1))

    pub not_held_exactly_when_not_at_its_place : (l : List R) (k : o.Key) → Ascending o l
        → (holds o l k ≡ false) ↔ (place_of o l k < length l → o.same (o.key (get_or l (place_of o l k) blank)) k ≡ false)
    not_held_exactly_when_not_at_its_place l k a = (
      λ n h. else_false (o.same (o.key (get_or l (place_of o l k) blank)) k) (λ s. never_both (ap is_some (at_its_place_is_found l k h s)) n),
      λ f. else_false (holds o l k) (λ h. let s = held_stands_at_its_place l k a h in never_both s.1 (f s.0)),
    )

    pub found_at_its_place : (l : List R) (k : o.Key) → Ascending o l → holds o l k ≡ true
        → looked_up o l k ≡ some (get_or l (place_of o l k) blank)
    found_at_its_place l k a h = let s = held_stands_at_its_place l k a h in at_its_place_is_found l k s.0 s.1

  -- ---- what placing and removing do there
  pub placed_where_held : (l : List R) (r : R) → Ascending o l → holds o l (o.key r) ≡ true → placed o l r ≡ set l (place_of o l (o.key r)) r
  placed_where_held [] r a h = absurd (never_both h (nothing_holds o (o.key r)))
  placed_where_held (x ∷ l) r a h =
      by_test (o.before (o.key x) (o.key r))
      (λ t.
      let d = holds_further o x l (o.key r) (before_is_another o (o.key x) (o.key r) t) in
      placed_past o x l r t ∙ rw (place-past x l (o.key r) t)
      (ap (λ (m : List R). x ∷ m) (placed_where_held l r (behind_ascends o (o.key x) l a) (sym d ∙ h)))) λ t.
      by_test (o.same (o.key x) (o.key r))
      (λ s. placed_over o x l r t s ∙ rw (place_here x l (o.key r) t))
      (λ s. absurd (never_both h (not_held_from_behind o x l (o.key r) a t s)))

  pub placed_where_not_held : (l : List R) (r : R) → holds o l (o.key r) ≡ false
      → placed o l r ≡ take (place_of o l (o.key r)) l ++ r ∷ drop (place_of o l (o.key r)) l
  unfolding placed place_of
  placed_where_not_held [] r h = refl
  placed_where_not_held (x ∷ l) r h =
      by_test (o.before (o.key x) (o.key r))
      (λ t.
      let d = holds_further o x l (o.key r) (before_is_another o (o.key x) (o.key r) t) in
      placed_past o x l r t ∙ rw (place-past x l (o.key r) t)
      (ap (λ (m : List R). x ∷ m) (placed_where_not_held l r (sym d ∙ h)))) λ t.
      by_test (o.same (o.key x) (o.key r))
      (λ s. absurd (never_both (holds_here o x l (o.key r) s) h))
      (λ s. placed_between o x l r t s ∙ rw (place_here x l (o.key r) t))

  pub without_where_held : (l : List R) (k : o.Key) → Ascending o l → holds o l k ≡ true
      → without o l k ≡ take (place_of o l k) l ++ drop (suc (place_of o l k)) l
  without_where_held [] k a h = absurd (never_both h (nothing_holds o k))
  without_where_held (x ∷ l) k a h =
      by_test (o.before (o.key x) k)
      (λ t.
      let d = before_is_another o (o.key x) k t in
      without_further o x l k d ∙ rw (place-past x l k t)
      (ap (λ (m : List R). x ∷ m) (without_where_held l k (behind_ascends o (o.key x) l a) (sym (holds_further o x l k d) ∙ h)))) λ t.
      by_test (o.same (o.key x) k)
      (λ s. without_here o x l k s ∙ rw (place_here x l k t))
      (λ s. absurd (never_both h (not_held_from_behind o x l k a t s)))
