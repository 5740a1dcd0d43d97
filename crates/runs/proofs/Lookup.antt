-- Looking a key up in a run.
-- Assumes nothing.
use mathlib.Core.Path.{◌≡◌, refl, ◌∙◌, sym, ap}
use mathlib.Core.Bool.{true, false, false≢true}
use mathlib.Core.List.{List, [], ◌∷◌}
use mathlib.Core.Option.{Option, none, some}
use Rattle.meaning.specs.Cases.{by_test}
use Rattle.runs.specs.Ordered.{Ordered, looked_up, is_some, holds, Behind, All}
use Rattle.runs.proofs.Order.{never_both, behind_is_another, behind_still}

pub not_some_is_none : {R : Type 0} (f : Option R) → is_some f ≡ false → f ≡ none
not_some_is_none none e = refl
not_some_is_none (some x) e = absurd (false≢true (sym e))

module _ {R : Type 0} (o : Ordered R) where
  pub nothing_held : (k : o.Key) → looked_up o [] k ≡ none
  unfolding looked_up
  nothing_held k = refl

  pub nothing_holds : (k : o.Key) → holds o [] k ≡ false
  nothing_holds k = ap is_some (nothing_held k)

  -- A record found, and one passed over.
  module _ (x : R) (l : List R) (k : o.Key) where
    pub here : o.same (o.key x) k ≡ true → looked_up o (x ∷ l) k ≡ some x
    unfolding looked_up
    here e = rw e

    pub further : o.same (o.key x) k ≡ false → looked_up o (x ∷ l) k ≡ looked_up o l k
    unfolding looked_up
    further e = rw e

    pub holds_here : o.same (o.key x) k ≡ true → holds o (x ∷ l) k ≡ true
    holds_here e = ap is_some (here e)

    pub holds_further : o.same (o.key x) k ≡ false → holds o (x ∷ l) k ≡ holds o l k
    holds_further e = ap is_some (further e)

  pub not_held_is_none : (l : List R) (k : o.Key) → holds o l k ≡ false → looked_up o l k ≡ none
  not_held_is_none l k e = not_some_is_none (looked_up o l k) e

  -- What is found has the key, and is of the kind of the run's records.
  pub found_has_the_key : (l : List R) (k : o.Key) (x : R) → looked_up o l k ≡ some x → o.same (o.key x) k ≡ true
  found_has_the_key [] k x e = absurd (never_both (ap is_some e) (nothing_holds k))
  found_has_the_key (y ∷ l) k x e =
      by_test (o.same (o.key y) k)
      (λ s. let p : y ≡ x = let q = sym (here y l k s) ∙ e in cc q in rw (sym p) s)
      (λ s. found_has_the_key l k x (sym (further y l k s) ∙ e))

  pub found_is_of_the_kind : (kind : R → Type 0) (l : List R) (k : o.Key) (x : R) → All kind l → looked_up o l k ≡ some x → kind x
  found_is_of_the_kind kind [] k x h e = absurd (never_both (ap is_some e) (nothing_holds k))
  found_is_of_the_kind kind (y ∷ l) k x h e =
      by_test (o.same (o.key y) k)
      (λ s. let p : y ≡ x = let q = sym (here y l k s) ∙ e in cc q in rw (sym p) h.0)
      (λ s. found_is_of_the_kind kind l k x h.1 (sym (further y l k s) ∙ e))

  -- No record behind a key has it.
  pub not_found_behind : (k : o.Key) (l : List R) → Behind o k l → looked_up o l k ≡ none
  not_found_behind k [] h = nothing_held k
  not_found_behind k (x ∷ l) h =
      further x l k (behind_is_another o k (o.key x) h.0)
      ∙ not_found_behind k l (behind_still o k (o.key x) l h.0 h.1)

  -- A run that starts behind a key does not hold it.
  pub not_found_from_behind : (x : R) (l : List R) (k : o.Key) → Behind o (o.key x) l → o.before (o.key x) k ≡ false
      → o.same (o.key x) k ≡ false → looked_up o (x ∷ l) k ≡ none
  not_found_from_behind x l k b t s = not_found_behind k (x ∷ l) (o.else_behind (o.key x) k t s, b)

  pub not_held_from_behind : (x : R) (l : List R) (k : o.Key) → Behind o (o.key x) l → o.before (o.key x) k ≡ false
      → o.same (o.key x) k ≡ false → holds o (x ∷ l) k ≡ false
  not_held_from_behind x l k b t s = ap is_some (not_found_from_behind x l k b t s)
