-- The order of motors (document 01, "The register"): a motor is a line and a NodeID, and records stand in ascending
-- order of line, then NodeID as a number.
-- Assumes nothing.
use Rattle.std.specs.Prelude.{if◌then◌else◌, ℕ, ◌<◌, ◌≤◌, ◌≡◌, refl, ◌⊎◌, Bool, false, ltb, eqb}
use Rattle.std.proofs.Common.{arith, ◌∙◌, sym}
use Rattle.std.proofs.Math.Path.{ap₂}
use Rattle.std.proofs.Math.Logic.{inl, inr}
use Rattle.std.proofs.Math.Bool.{true}
use Rattle.std.proofs.lemmas.Bool.{false≢true}
use borrow.Author.Tests.{ltb-true, ltb-false, eqb-true, eqb-false, lt-ltb, le-ltb, eq-eqb}
use Rattle.meaning.specs.Cases.{by_test, passed_both}
use Rattle.runs.specs.Ordered.{Ordered}
use Rattle.motors.specs.declared.motor.Motor.{Motor}

-- Line and NodeID.
abbrev pub Key : Type 0
Key = ℕ × ℕ

abbrev pub key_of : Motor → Key
key_of m = (m.line, m.node)

-- Line, then NodeID as a number.
unfoldable pub before : Key → Key → Bool
before a b = if ltb a.0 b.0 then true else if eqb a.0 b.0 then ltb a.1 b.1 else false

unfoldable pub same : Key → Key → Bool
same a b = if eqb a.0 b.0 then eqb a.1 b.1 else false

-- The order as a fact.
abbrev pub Before : Key → Key → Type 0
Before a b = (a.0 < b.0) ⊎ ((a.0 ≡ b.0) × (a.1 < b.1))

module _ (a b : Key) where
  pub as_said : before a b ≡ true → Before a b
  unfolding before
  as_said e =
      by_test (ltb a.0 b.0) (λ t. inl (ltb-true _ _ t)) λ t.
      let s = passed_both (eqb a.0 b.0) (ltb a.1 b.1) (rw t at e) in
      inr (eqb-true _ _ s.0, ltb-true _ _ s.1)

  pub so_said : Before a b → before a b ≡ true
  unfolding before
  so_said (inl l) = rw (lt-ltb _ _ l)
  so_said (inr s) = rw (le-ltb a.0 b.0 (omega arith), eq-eqb _ _ s.0, lt-ltb _ _ s.1)

  pub same_is : same a b ≡ true → a ≡ b
  unfolding same
  same_is e =
      let s = passed_both (eqb a.0 b.0) (eqb a.1 b.1) e in
      ap₂ (λ (l n : ℕ). (l, n)) (eqb-true _ _ s.0) (eqb-true _ _ s.1)

  pub else_behind : before a b ≡ false → same a b ≡ false → before b a ≡ true
  unfolding before same
  else_behind e s =
      by_test (ltb a.0 b.0) (λ t. absurd (false≢true (sym e ∙ rw t))) λ t.
      by_test (eqb a.0 b.0)
      (λ q. so_behind (inr (sym (eqb-true _ _ q), later (ltb-false _ _ (rw (t, q) at e)) (eqb-false _ _ (rw q at s)))))
      (λ q. so_behind (inl (later (ltb-false _ _ t) (eqb-false _ _ q))))
    where
      so_behind : Before b a → before b a ≡ true
      so_behind (inl l) = rw (lt-ltb _ _ l)
      so_behind (inr h) = rw (le-ltb b.0 a.0 (omega arith), eq-eqb _ _ h.0, lt-ltb _ _ h.1)

      later : {x y : ℕ} → y ≤ x → (x ≡ y → ⊥) → y < x
      later h differs = omega (arith, differs)

pub same_itself : (a : Key) → same a a ≡ true
unfolding same
same_itself a = rw (eq-eqb a.0 a.0 refl, eq-eqb a.1 a.1 refl)

pub never_before_itself : (a : Key) → before a a ≡ false
unfolding before
never_before_itself a =
    rw (le-ltb a.0 a.0 (omega arith), eq-eqb a.0 a.0 refl) (le-ltb a.1 a.1 (omega arith))

pub before_still : (a b c : Key) → before a b ≡ true → before b c ≡ true → before a c ≡ true
before_still a b c e f = so_said a c (chain (as_said a b e) (as_said b c f))
  where
    chain : Before a b → Before b c → Before a c
    chain (inl x) (inl y) = inl (omega arith)
    chain (inl x) (inr y) = inl (omega arith)
    chain (inr x) (inl y) = inl (omega arith)
    chain (inr x) (inr y) = inr (x.0 ∙ y.0, omega arith)

-- Motors as an ordered run holds them.
abbrev pub by_line_and_node : Ordered Motor
by_line_and_node =
    record {
      Key = Key;
      key = key_of;
      before = before;
      same = same;
      same_is = same_is;
      itself = same_itself;
      never_before_itself = never_before_itself;
      before_still = before_still;
      else_behind = else_behind;
    }

-- Ascending order of two records.
abbrev pub earlier_of : Motor → Motor → Bool
earlier_of x y = before (key_of x) (key_of y)

-- A record of a line and a NodeID.
abbrev pub is_motor : Motor → ℕ → ℕ → Bool
is_motor m line node = same (key_of m) (line, node)
