-- A run without the record of a key: what is found after it, the order, the number and the kind of the records.
-- Assumes nothing.
use Prim.Native.Nat.{suc}
use mathlib.Core.Path.{◌≡◌, refl, ◌∙◌, sym, ap}
use mathlib.Core.Bool.{true, false}
use mathlib.Core.List.{List, [], ◌∷◌}
use mathlib.Core.Option.{none}
use lib.ListN.{length}
use Rattle.meaning.specs.Cases.{by_test}
use Rattle.runs.specs.Ordered.{Ordered, looked_up, holds, without, Behind, Ascending, All}
use Rattle.runs.proofs.Order.{never_both, behind_still, behind_ascends}
use Rattle.runs.proofs.Lookup.{here, further, holds_here, holds_further, nothing_held, nothing_holds, not_found_behind}

module _ {R : Type 0} (o : Ordered R) where
  -- ---- the two ways at a record x
  module _ (x : R) (l : List R) (k : o.Key) where
    pub without_here : o.same (o.key x) k ≡ true → without o (x ∷ l) k ≡ l
    unfolding without
    without_here e = rw e

    pub without_further : o.same (o.key x) k ≡ false → without o (x ∷ l) k ≡ x ∷ without o l k
    unfolding without
    without_further e = rw e

  -- ---- what is found
  pub without_it_the_key_is_gone : (l : List R) (k : o.Key) → Ascending o l → looked_up o (without o l k) k ≡ none
  unfolding without
  without_it_the_key_is_gone [] k a = nothing_held o k
  without_it_the_key_is_gone (x ∷ l) k a =
      by_test (o.same (o.key x) k)
      (λ s.
      let on : Behind o k l = rw (o.same_is (o.key x) k s) at a in
      rw s (not_found_behind o k l on))
      (λ s. rw s (further o x (without o l k) k s ∙ without_it_the_key_is_gone l k (behind_ascends o (o.key x) l a)))

  pub without_leaves_every_other_key : (l : List R) (k k' : o.Key) → o.same k k' ≡ false → looked_up o (without o l k) k' ≡ looked_up o l k'
  unfolding without
  without_leaves_every_other_key [] k k' d = refl
  without_leaves_every_other_key (x ∷ l) k k' d =
      by_test (o.same (o.key x) k)
      (λ s.
      let dx : o.same (o.key x) k' ≡ false = rw (o.same_is (o.key x) k s) d in
      rw s (sym (further o x l k' dx)))
      (λ s. rw s
      (by_test (o.same (o.key x) k')
      (λ f. here o x (without o l k) k' f ∙ sym (here o x l k' f))
      (λ f. further o x (without o l k) k' f ∙ without_leaves_every_other_key l k k' d ∙ sym (further o x l k' f))))

  -- ---- the order
  pub without_behind : (k : o.Key) (l : List R) (k' : o.Key) → Behind o k l → Behind o k (without o l k')
  unfolding without
  without_behind k [] k' h = tt
  without_behind k (x ∷ l) k' h =
      by_test (o.same (o.key x) k')
      (λ s. rw s (behind_still o k (o.key x) l h.0 h.1))
      (λ s. rw s (h.0, without_behind (o.key x) l k' h.1))

  pub without_keeps_the_order : (l : List R) (k : o.Key) → Ascending o l → Ascending o (without o l k)
  unfolding without
  without_keeps_the_order [] k a = tt
  without_keeps_the_order (x ∷ l) k a =
      by_test (o.same (o.key x) k) (λ s. rw s (behind_ascends o (o.key x) l a)) (λ s. rw s (without_behind (o.key x) l k a))

  -- ---- the number
  pub without_one_held_is_one_less : (l : List R) (k : o.Key) → holds o l k ≡ true → suc (length (without o l k)) ≡ length l
  unfolding without
  without_one_held_is_one_less [] k h = absurd (never_both h (nothing_holds o k))
  without_one_held_is_one_less (x ∷ l) k h =
      by_test (o.same (o.key x) k)
      (λ s. rw s)
      (λ s. rw s (ap suc (without_one_held_is_one_less l k (sym (holds_further o x l k s) ∙ h))))

  pub without_one_not_held_is_the_run : (l : List R) (k : o.Key) → holds o l k ≡ false → without o l k ≡ l
  unfolding without
  without_one_not_held_is_the_run [] k h = refl
  without_one_not_held_is_the_run (x ∷ l) k h =
      by_test (o.same (o.key x) k)
      (λ s. absurd (never_both (holds_here o x l k s) h))
      (λ s. rw s (ap (λ (r : List R). x ∷ r) (without_one_not_held_is_the_run l k (sym (holds_further o x l k s) ∙ h))))

  -- ---- the kind
  pub without_keeps_the_kind : (kind : R → Type 0) (l : List R) (k : o.Key) → All kind l → All kind (without o l k)
  unfolding without
  without_keeps_the_kind kind [] k h = tt
  without_keeps_the_kind kind (x ∷ l) k h =
      by_test (o.same (o.key x) k) (λ s. rw s h.1) (λ s. rw s (h.0, without_keeps_the_kind kind l k h.1))
