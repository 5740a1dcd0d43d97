-- Orders of keys: numbers, one key and behind it another, and keys in a row, the first that differs deciding.
-- Assumes nothing.
use Rattle.std.specs.Prelude.{if◌then◌else◌, ℕ, ◌≡◌, ◌⊎◌, Bool, false, ltb, eqb}
use Rattle.std.proofs.Common.{arith, ◌∙◌, sym, ltb-true, ltb-false, eqb-true, lt-ltb, le-ltb, eq-eqb}
use Rattle.std.proofs.Math.Path.{refl, ap₂}
use Rattle.std.proofs.Math.Logic.{inl, inr}
use Rattle.std.proofs.Math.Bool.{true}
use Rattle.std.proofs.lemmas.Bool.{false≢true, eqb-false}
use mathlib.Core.List.{List, [], ◌∷◌}
use Rattle.meaning.specs.Cases.{by_test, passed_both}

-- A strict order of which any two keys are the same or one stands before the other.
pub record Order (K : Type 0) : Type 0 where
  pub before : K → K → Bool
  pub same : K → K → Bool
  pub same_is : (a b : K) → same a b ≡ true → a ≡ b
  pub itself : (a : K) → same a a ≡ true
  pub never_before_itself : (a : K) → before a a ≡ false
  pub before_still : (a b c : K) → before a b ≡ true → before b c ≡ true → before a c ≡ true
  pub else_behind : (a b : K) → before a b ≡ false → same a b ≡ false → before b a ≡ true

-- ---- numbers
abbrev pub numbers : Order ℕ
numbers =
    record {
      before = ltb;
      same = eqb;
      same_is = eqb-true;
      itself = λ a. eq-eqb a a refl;
      never_before_itself = λ a. le-ltb a a (omega arith);
      before_still = λ a b c e f. lt-ltb a c (omega (arith, ltb-true a b e, ltb-true b c f));
      else_behind = λ a b e s. lt-ltb b a (omega (arith, ltb-false a b e, eqb-false a b s));
    }

-- ---- one key and behind it another
module _ {K L : Type 0} (o : Order K) (p : Order L) where
  unfoldable pub pair_before : K × L → K × L → Bool
  pair_before a b = if o.before a.0 b.0 then true else if o.same a.0 b.0 then p.before a.1 b.1 else false

  unfoldable pub pair_same : K × L → K × L → Bool
  pair_same a b = if o.same a.0 b.0 then p.same a.1 b.1 else false

  -- The order as a fact.
  abbrev pub PairBefore : K × L → K × L → Type 0
  PairBefore a b = (o.before a.0 b.0 ≡ true) ⊎ ((a.0 ≡ b.0) × (p.before a.1 b.1 ≡ true))

  module _ (a b : K × L) where
    pub as_said : pair_before a b ≡ true → PairBefore a b
    unfolding pair_before
    as_said e =
        by_test (o.before a.0 b.0) (λ t. inl t) λ t.
        let s = passed_both (o.same a.0 b.0) (p.before a.1 b.1) (rw t at e) in
        inr (o.same_is _ _ s.0, s.1)

    pub so_said : PairBefore a b → pair_before a b ≡ true
    unfolding pair_before
    so_said (inl t) = rw t
    so_said (inr s) =
        rw (s.0, o.never_before_itself b.0, o.itself b.0) s.1

    pub pair_same_is : pair_same a b ≡ true → a ≡ b
    unfolding pair_same
    pair_same_is e =
        let s = passed_both (o.same a.0 b.0) (p.same a.1 b.1) e in
        ap₂ (λ (k : K) (l : L). (k, l)) (o.same_is _ _ s.0) (p.same_is _ _ s.1)

    pub pair_else_behind : pair_before a b ≡ false → pair_same a b ≡ false → pair_before b a ≡ true
    unfolding pair_before pair_same
    pair_else_behind e s =
        by_test (o.before a.0 b.0) (λ t. absurd (false≢true (sym e ∙ rw t))) λ t.
        by_test (o.same a.0 b.0)
        (λ q. so_behind (inr (sym (o.same_is _ _ q), p.else_behind _ _ (rw (t, q) at e) (rw q at s))))
        (λ q. so_behind (inl (o.else_behind _ _ t q)))
      where
        so_behind : PairBefore b a → pair_before b a ≡ true
        so_behind (inl t) = rw t
        so_behind (inr h) = rw (h.0, o.never_before_itself a.0, o.itself a.0) h.1

  pub pair_itself : (a : K × L) → pair_same a a ≡ true
  unfolding pair_same
  pair_itself a = rw (o.itself a.0, p.itself a.1)

  pub pair_never_before_itself : (a : K × L) → pair_before a a ≡ false
  unfolding pair_before
  pair_never_before_itself a = rw (o.never_before_itself a.0, o.itself a.0, p.never_before_itself a.1)

  pub pair_before_still : (a b c : K × L) → pair_before a b ≡ true → pair_before b c ≡ true → pair_before a c ≡ true
  pair_before_still a b c e f = so_said a c (chain (as_said a b e) (as_said b c f))
    where
      chain : PairBefore a b → PairBefore b c → PairBefore a c
      chain (inl x) (inl y) = inl (o.before_still a.0 b.0 c.0 x y)
      chain (inl x) (inr y) = inl (rw (sym y.0) x)
      chain (inr x) (inl y) = inl (rw x.0 y)
      chain (inr x) (inr y) = inr (x.0 ∙ y.0, p.before_still a.1 b.1 c.1 x.1 y.1)

-- The first decides, and where it is the same the other.
abbrev pub pairs_by : {K L : Type 0} → Order K → Order L → Order (K × L)
pairs_by o p =
    record {
      before = pair_before o p;
      same = pair_same o p;
      same_is = pair_same_is o p;
      itself = pair_itself o p;
      never_before_itself = pair_never_before_itself o p;
      before_still = pair_before_still o p;
      else_behind = pair_else_behind o p;
    }

-- ---- keys in a row
module _ {K : Type 0} (o : Order K) where
  unfoldable pub row_before : List K → List K → Bool
  row_before [] [] = false
  row_before [] (y ∷ m) = true
  row_before (x ∷ l) [] = false
  row_before (x ∷ l) (y ∷ m) = if o.before x y then true else if o.same x y then row_before l m else false

  unfoldable pub row_same : List K → List K → Bool
  row_same [] [] = true
  row_same [] (y ∷ m) = false
  row_same (x ∷ l) [] = false
  row_same (x ∷ l) (y ∷ m) = if o.same x y then row_same l m else false

  pub row_same_is : (l m : List K) → row_same l m ≡ true → l ≡ m
  unfolding row_same
  row_same_is [] [] e = refl
  row_same_is [] (y ∷ m) e = absurd (false≢true e)
  row_same_is (x ∷ l) [] e = absurd (false≢true e)
  row_same_is (x ∷ l) (y ∷ m) e =
      let s = passed_both (o.same x y) (row_same l m) e in
      ap₂ (λ (k : K) (r : List K). k ∷ r) (o.same_is x y s.0) (row_same_is l m s.1)

  pub row_itself : (l : List K) → row_same l l ≡ true
  unfolding row_same
  row_itself [] = refl
  row_itself (x ∷ l) = rw (o.itself x) (row_itself l)

  pub row_never_before_itself : (l : List K) → row_before l l ≡ false
  unfolding row_before
  row_never_before_itself [] = refl
  row_never_before_itself (x ∷ l) = rw (o.never_before_itself x, o.itself x) (row_never_before_itself l)

  -- Behind the same first key the others decide.
  same_first : (x : K) (l m : List K) → row_before l m ≡ true → row_before (x ∷ l) (x ∷ m) ≡ true
  unfolding row_before
  same_first x l m e = rw (o.never_before_itself x, o.itself x) e

  first_before : (x y : K) (l m : List K) → o.before x y ≡ true → row_before (x ∷ l) (y ∷ m) ≡ true
  unfolding row_before
  first_before x y l m e = rw e

  -- The order as a fact.
  as_in_a_row : (x y : K) (l m : List K) → row_before (x ∷ l) (y ∷ m) ≡ true → (o.before x y ≡ true) ⊎ ((x ≡ y) × (row_before l m ≡ true))
  unfolding row_before
  as_in_a_row x y l m e =
      by_test (o.before x y) (λ t. inl t) λ t.
      let s = passed_both (o.same x y) (row_before l m) (rw t at e) in
      inr (o.same_is x y s.0, s.1)

  pub row_before_still : (l m n : List K) → row_before l m ≡ true → row_before m n ≡ true → row_before l n ≡ true
  unfolding row_before
  row_before_still [] [] n e f = absurd (false≢true e)
  row_before_still [] (y ∷ m) [] e f = absurd (false≢true f)
  row_before_still [] (y ∷ m) (z ∷ n) e f = refl
  row_before_still (x ∷ l) [] n e f = absurd (false≢true e)
  row_before_still (x ∷ l) (y ∷ m) [] e f = absurd (false≢true f)
  row_before_still (x ∷ l) (y ∷ m) (z ∷ n) e f =
      chain (row_before_still l m n) (as_in_a_row x y l m e) (as_in_a_row y z m n f)
    where
      chain : (row_before l m ≡ true → row_before m n ≡ true → row_before l n ≡ true)
          → (o.before x y ≡ true) ⊎ ((x ≡ y) × (row_before l m ≡ true)) → (o.before y z ≡ true) ⊎ ((y ≡ z) × (row_before m n ≡ true))
          → row_before (x ∷ l) (z ∷ n) ≡ true
      chain still (inl a) (inl b) = first_before x z l n (o.before_still x y z a b)
      chain still (inl a) (inr b) = first_before x z l n (rw (sym b.0) a)
      chain still (inr a) (inl b) = first_before x z l n (rw a.0 b)
      chain still (inr a) (inr b) = rw (a.0, b.0) (same_first z l n (still a.1 b.1))

  pub row_else_behind : (l m : List K) → row_before l m ≡ false → row_same l m ≡ false → row_before m l ≡ true
  unfolding row_before row_same
  row_else_behind [] [] e s = absurd (false≢true (sym s))
  row_else_behind [] (y ∷ m) e s = absurd (false≢true (sym e))
  row_else_behind (x ∷ l) [] e s = refl
  row_else_behind (x ∷ l) (y ∷ m) e s =
      by_test (o.before x y) (λ t. absurd (false≢true (sym e ∙ rw t))) λ t.
      by_test (o.same x y)
      (λ q. rw (o.same_is x y q) (same_first y m l (row_else_behind l m (rw (t, q) at e) (rw q at s))))
      (λ q. first_before y x m l (o.else_behind x y t q))

-- The first that differs decides.
abbrev pub rows_by : {K : Type 0} → Order K → Order (List K)
rows_by o =
    record {
      before = row_before o;
      same = row_same o;
      same_is = row_same_is o;
      itself = row_itself o;
      never_before_itself = row_never_before_itself o;
      before_still = row_before_still o;
      else_behind = row_else_behind o;
    }
