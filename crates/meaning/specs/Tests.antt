-- Tests, by which the rows of a table are told: a check that can be run, and the plain facts that it decides between.
-- Assumes nothing.
use Rattle.std.specs.Prelude.{ℕ, ◌≤◌, ◌<◌, ◌≡◌, refl, ◌≢◌, ◌↔◌, ◌⊎◌, Bool, true, false, not, ◌&&◌, ◌||◌, leb, ltb, eqb}
use Rattle.std.proofs.Common.{not-le_of_lt, sym, ◌∙◌, inl, inr, ⊎_elim, leb-true, leb-false, ltb-true, ltb-false, eqb-true}
use Rattle.std.proofs.lemmas.Bool.{false≢true, eqb-false, not-true, not-false}

-- A test holds, and then its fact is so; or it does not, and then the other fact is.
pub record Test : Type 1 where
  pub holds : Bool
  pub fact : Type 0
  pub other : Type 0
  pub is_fact : holds ≡ true → fact
  pub is_other : holds ≡ false → other
  pub never_both : fact → other → ⊥

-- ---- numbers
-- At most, and at least.
abbrev pub ◌at_most◌ : ℕ → ℕ → Test
◌at_most◌ a b =
    record {
      holds = leb a b;
      fact = a ≤ b;
      other = b < a;
      is_fact = leb-true a b;
      is_other = leb-false a b;
      never_both = λ h k. not-le_of_lt k h;
    }

abbrev pub ◌at_least◌ : ℕ → ℕ → Test
◌at_least◌ a b = ◌at_most◌ b a

-- Below, and above.
abbrev pub ◌below◌ : ℕ → ℕ → Test
◌below◌ a b =
    record {
      holds = ltb a b;
      fact = a < b;
      other = b ≤ a;
      is_fact = ltb-true a b;
      is_other = ltb-false a b;
      never_both = λ h k. not-le_of_lt h k;
    }

abbrev pub ◌above◌ : ℕ → ℕ → Test
◌above◌ a b = ◌below◌ b a

-- The opposite of a test.
abbrev pub opposite : Test → Test
opposite t =
    record {
      holds = not t.holds;
      fact = t.other;
      other = t.fact;
      is_fact = λ e. t.is_other (not-true t.holds e);
      is_other = λ e. t.is_fact (not-false t.holds e);
      never_both = λ f o. t.never_both o f;
    }

-- Equal numbers, and numbers that differ.
abbrev pub ◌is◌ : ℕ → ℕ → Test
◌is◌ a b =
    record {
      holds = eqb a b;
      fact = a ≡ b;
      other = a ≢ b;
      is_fact = eqb-true a b;
      is_other = eqb-false a b;
      never_both = λ e k. k e;
    }

abbrev pub ◌is_not◌ : ℕ → ℕ → Test
◌is_not◌ a b = opposite (◌is◌ a b)

-- ---- checks
-- A check succeeds, or fails.
abbrev pub succeeds : Bool → Test
succeeds t =
    record {
      holds = t;
      fact = t ≡ true;
      other = t ≡ false;
      is_fact = λ e. e;
      is_other = λ e. e;
      never_both = λ e f. false≢true (sym f ∙ e);
    }

abbrev pub fails : Bool → Test
fails t = opposite (succeeds t)

-- Facts that a check decides do not hold.
abbrev pub unless : {facts : Type 0} (t : Bool) → facts ↔ (t ≡ true) → Test
unless {facts} t decides =
    record {
      holds = not t;
      fact = ¬ facts;
      other = facts;
      is_fact = λ e f. false≢true (sym (not-true t e) ∙ decides.0 f);
      is_other = λ e. decides.1 (not-false t e);
      never_both = λ n f. n f;
    }

-- ---- two tests
-- One of two checks succeeds, or none does.
pub one_of : {F G : Type 0} (t u : Bool) → (t ≡ true → F) → (u ≡ true → G) → (t || u) ≡ true → F ⊎ G
one_of true u f g e = inl (f refl)
one_of false u f g e = inr (g e)

pub none_of : {F G : Type 0} (t u : Bool) → (t ≡ false → F) → (u ≡ false → G) → (t || u) ≡ false → F × G
none_of true u f g e = absurd (false≢true (sym e))
none_of false u f g e = (f refl, g e)

-- Both of two checks succeed, or one fails.
pub both_of : {F G : Type 0} (t u : Bool) → (t ≡ true → F) → (u ≡ true → G) → (t && u) ≡ true → F × G
both_of true u f g e = (f refl, g e)
both_of false u f g e = absurd (false≢true e)

pub not_both_of : {F G : Type 0} (t u : Bool) → (t ≡ false → F) → (u ≡ false → G) → (t && u) ≡ false → F ⊎ G
not_both_of true u f g e = inr (g e)
not_both_of false u f g e = inl (f refl)

-- One of two tests holds.
abbrev pub ◌or◌ : Test → Test → Test
◌or◌ t u =
    record {
      holds = t.holds || u.holds;
      fact = t.fact ⊎ u.fact;
      other = t.other × u.other;
      is_fact = one_of t.holds u.holds t.is_fact u.is_fact;
      is_other = none_of t.holds u.holds t.is_other u.is_other;
      never_both = λ f o. ⊎_elim (λ h. t.never_both h o.0) (λ h. u.never_both h o.1) f;
    }

-- Both hold.
abbrev pub ◌and◌ : Test → Test → Test
◌and◌ t u =
    record {
      holds = t.holds && u.holds;
      fact = t.fact × u.fact;
      other = t.other ⊎ u.other;
      is_fact = both_of t.holds u.holds t.is_fact u.is_fact;
      is_other = not_both_of t.holds u.holds t.is_other u.is_other;
      never_both = λ f o. ⊎_elim (t.never_both f.0) (u.never_both f.1) o;
    }

infixr 69 ◌or◌
infixr 70 ◌and◌
infix 71 ◌at_most◌ ◌at_least◌ ◌below◌ ◌above◌ ◌is◌ ◌is_not◌
-- ---- what a fact says of the check
-- The fact of a test makes it hold, and the other makes it fail.
pub holds_by : (t : Test) → t.fact → t.holds ≡ true
holds_by t f = by t.holds t.is_other
  where
    by : (c : Bool) → (c ≡ false → t.other) → c ≡ true
    by true o = refl
    by false o = absurd (t.never_both f (o refl))

pub passed_by : (t : Test) → t.other → t.holds ≡ false
passed_by t o = by t.holds t.is_fact
  where
    by : (c : Bool) → (c ≡ true → t.fact) → c ≡ false
    by true f = absurd (t.never_both (f refl) o)
    by false f = refl
