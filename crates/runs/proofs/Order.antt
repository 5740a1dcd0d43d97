-- What follows of the order of keys, and of keys in ascending order.
-- Assumes nothing.
use mathlib.Core.Path.{◌≡◌, ◌∙◌, sym}
use mathlib.Core.Bool.{Bool, true, false, false≢true}
use mathlib.Core.List.{List, [], ◌∷◌}
use Rattle.meaning.specs.Cases.{by_test}
use Rattle.runs.specs.Ordered.{Ordered, Behind, Ascending}

-- A test that is not true is false.
pub else_false : (t : Bool) → (t ≡ true → ⊥) → t ≡ false
else_false t never = by_test t (λ e. absurd (never e)) (λ e. e)

pub never_both : {t : Bool} → t ≡ true → t ≡ false → ⊥
never_both e f = false≢true (sym f ∙ e)

module _ {R : Type 0} (o : Ordered R) where
  module _ (a b : o.Key) where
    pub same_back : o.same a b ≡ true → o.same b a ≡ true
    same_back e = rw (o.same_is a b e) (o.itself b)

    pub another_back : o.same a b ≡ false → o.same b a ≡ false
    another_back e = else_false (o.same b a) (λ s. never_both (rw (o.same_is b a s) (o.itself a)) e)

    pub before_is_another : o.before a b ≡ true → o.same a b ≡ false
    before_is_another e =
        else_false (o.same a b) (λ s. never_both (rw (o.same_is a b s) at e) (o.never_before_itself b))

    pub behind_is_another : o.before a b ≡ true → o.same b a ≡ false
    behind_is_another e =
        else_false (o.same b a) (λ s. never_both (rw (o.same_is b a s) at e) (o.never_before_itself a))

    pub never_behind_too : o.before a b ≡ true → o.before b a ≡ false
    never_behind_too e =
        else_false (o.before b a) (λ f. never_both (o.before_still a b a e f) (o.never_before_itself a))

  -- What is behind a record is behind one before it.
  pub behind_still : (a b : o.Key) (l : List R) → o.before a b ≡ true → Behind o b l → Behind o a l
  behind_still a b [] e h = tt
  behind_still a b (x ∷ l) e h = (o.before_still a b (o.key x) e h.0, h.1)

  pub behind_ascends : (k : o.Key) (l : List R) → Behind o k l → Ascending o l
  behind_ascends k [] h = tt
  behind_ascends k (x ∷ l) h = h.1
