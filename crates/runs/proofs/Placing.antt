-- A record put in at its place in the order: what is found after it, the order, the number and the kind of the records.
-- Assumes nothing.
use Prim.Native.Nat.{suc}
use mathlib.Core.Path.{◌≡◌, refl, ◌∙◌, sym, ap}
use mathlib.Core.Bool.{true, false}
use mathlib.Core.List.{List, [], ◌∷◌}
use mathlib.Core.Option.{some}
use lib.ListN.{length}
use Rattle.meaning.specs.Cases.{by_test}
use Rattle.runs.specs.Ordered.{Ordered, looked_up, holds, placed, Behind, Ascending, All}
use Rattle.runs.proofs.Order.{never_both, before_is_another, behind_ascends}
use Rattle.runs.proofs.Lookup.{here, further, holds_here, holds_further, nothing_holds, not_held_from_behind}

module _ {R : Type 0} (o : Ordered R) where
  -- ---- the three ways at a record x
  module _ (x : R) (l : List R) (r : R) where
    pub placed_past : o.before (o.key x) (o.key r) ≡ true → placed o (x ∷ l) r ≡ x ∷ placed o l r
    unfolding placed
    placed_past e = rw e

    pub placed_over : o.before (o.key x) (o.key r) ≡ false → o.same (o.key x) (o.key r) ≡ true → placed o (x ∷ l) r ≡ r ∷ l
    unfolding placed
    placed_over e s = rw (e, s)

    pub placed_between : o.before (o.key x) (o.key r) ≡ false → o.same (o.key x) (o.key r) ≡ false
        → placed o (x ∷ l) r ≡ r ∷ x ∷ l
    unfolding placed
    placed_between e s = rw (e, s)

  -- ---- what is found
  pub placed_is_found : (l : List R) (r : R) → looked_up o (placed o l r) (o.key r) ≡ some r
  unfolding placed
  placed_is_found [] r = here o r [] (o.key r) (o.itself (o.key r))
  placed_is_found (x ∷ l) r =
      by_test (o.before (o.key x) (o.key r))
      (λ t. rw t (further o x (placed o l r) (o.key r) (before_is_another o (o.key x) (o.key r) t) ∙ placed_is_found l r)) λ t.
      by_test (o.same (o.key x) (o.key r))
      (λ s. rw (t, s) (here o r l (o.key r) (o.itself (o.key r))))
      (λ s. rw (t, s) (here o r (x ∷ l) (o.key r) (o.itself (o.key r))))

  pub placed_leaves_every_other_key : (l : List R) (r : R) (k : o.Key) → o.same (o.key r) k ≡ false
      → looked_up o (placed o l r) k ≡ looked_up o l k
  unfolding placed
  placed_leaves_every_other_key [] r k d = further o r [] k d
  placed_leaves_every_other_key (x ∷ l) r k d =
      by_test (o.before (o.key x) (o.key r))
      (λ t. rw t
      (by_test (o.same (o.key x) k)
      (λ f. here o x (placed o l r) k f ∙ sym (here o x l k f))
      (λ f. further o x (placed o l r) k f ∙ placed_leaves_every_other_key l r k d ∙ sym (further o x l k f)))) λ t.
      by_test (o.same (o.key x) (o.key r))
      (λ s.
      let dx : o.same (o.key x) k ≡ false = rw (o.same_is (o.key x) (o.key r) s) d in
      rw (t, s) (further o r l k d ∙ sym (further o x l k dx)))
      (λ s. rw (t, s) (further o r (x ∷ l) k d))

  -- ---- the order
  pub placed_behind : (k : o.Key) (l : List R) (r : R) → o.before k (o.key r) ≡ true → Behind o k l → Behind o k (placed o l r)
  unfolding placed
  placed_behind k [] r e h = (e, tt)
  placed_behind k (x ∷ l) r e h =
      by_test (o.before (o.key x) (o.key r)) (λ t. rw t (h.0, placed_behind (o.key x) l r t h.1)) λ t.
      by_test (o.same (o.key x) (o.key r))
      (λ s.
      let on : Behind o (o.key r) l = rw (o.same_is (o.key x) (o.key r) s) at h.1 in
      rw (t, s) (e, on))
      (λ s. rw (t, s) (e, (o.else_behind (o.key x) (o.key r) t s, h.1)))

  pub placed_keeps_the_order : (l : List R) (r : R) → Ascending o l → Ascending o (placed o l r)
  unfolding placed
  placed_keeps_the_order [] r a = tt
  placed_keeps_the_order (x ∷ l) r a =
      by_test (o.before (o.key x) (o.key r)) (λ t. rw t (placed_behind (o.key x) l r t a)) λ t.
      by_test (o.same (o.key x) (o.key r))
      (λ s.
      let on : Behind o (o.key r) l = rw (o.same_is (o.key x) (o.key r) s) at a in
      rw (t, s) on)
      (λ s. rw (t, s) (o.else_behind (o.key x) (o.key r) t s, a))

  -- ---- the number
  pub placed_over_one_held_keeps_the_number : (l : List R) (r : R) → Ascending o l → holds o l (o.key r) ≡ true
      → length (placed o l r) ≡ length l
  unfolding placed
  placed_over_one_held_keeps_the_number [] r a h = absurd (never_both h (nothing_holds o (o.key r)))
  placed_over_one_held_keeps_the_number (x ∷ l) r a h =
      by_test (o.before (o.key x) (o.key r))
      (λ t.
      let d = holds_further o x l (o.key r) (before_is_another o (o.key x) (o.key r) t) in
      rw t (ap suc (placed_over_one_held_keeps_the_number l r (behind_ascends o (o.key x) l a) (sym d ∙ h)))) λ t.
      by_test (o.same (o.key x) (o.key r))
      (λ s. rw (t, s))
      (λ s. absurd (never_both h (not_held_from_behind o x l (o.key r) a t s)))

  pub placed_new_is_one_more : (l : List R) (r : R) → holds o l (o.key r) ≡ false → length (placed o l r) ≡ suc (length l)
  unfolding placed
  placed_new_is_one_more [] r h = refl
  placed_new_is_one_more (x ∷ l) r h =
      by_test (o.before (o.key x) (o.key r))
      (λ t.
      let d = holds_further o x l (o.key r) (before_is_another o (o.key x) (o.key r) t) in
      rw t (ap suc (placed_new_is_one_more l r (sym d ∙ h)))) λ t.
      by_test (o.same (o.key x) (o.key r))
      (λ s. absurd (never_both (holds_here o x l (o.key r) s) h))
      (λ s. rw (t, s))

  -- ---- the kind
  pub placed_keeps_the_kind : (kind : R → Type 0) (l : List R) (r : R) → All kind l → kind r → All kind (placed o l r)
  unfolding placed
  placed_keeps_the_kind kind [] r h e = (e, tt)
  placed_keeps_the_kind kind (x ∷ l) r h e =
      by_test (o.before (o.key x) (o.key r)) (λ t. rw t (h.0, placed_keeps_the_kind kind l r h.1 e)) λ t.
      by_test (o.same (o.key x) (o.key r)) (λ s. rw (t, s) (e, h.1)) (λ s. rw (t, s) (e, (h.0, h.1)))
