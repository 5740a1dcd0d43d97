-- A test passed or failed, two tests together, and what cannot be.
-- Assumes nothing.
use Rattle.std.specs.Prelude.{if◌then◌else◌, ℕ, ◌≡◌, refl, ◌⊎◌, Bool, true, false, ◌&&◌, ◌||◌}
use Rattle.std.proofs.Common.{arith, inl, inr}
use Rattle.std.proofs.lemmas.Bool.{false≢true}

pub by_test : {P : Type 0} (t : Bool) → (t ≡ true → P) → (t ≡ false → P) → P
by_test true f g = f refl
by_test false f g = g refl

-- A check of two tests, one after the other.
pub passed_both : (t x : Bool) → (if t then x else false) ≡ true → (t ≡ true) × (x ≡ true)
passed_both true x e = (refl, e)
passed_both false x e = absurd (false≢true e)

pub neither : (t x : Bool) → (if t then false else x) ≡ true → (t ≡ false) × (x ≡ true)
neither true x e = absurd (false≢true e)
neither false x e = (refl, e)

pub both : (a b : Bool) → (a && b) ≡ true → (a ≡ true) × (b ≡ true)
both true b e = (refl, e)
both false b e = absurd (false≢true e)

pub and_so : (a b : Bool) → a ≡ true → b ≡ true → (a && b) ≡ true
and_so a b e f = rw (e, f)

pub either_way : (a b : Bool) → (a || b) ≡ true → (a ≡ true) ⊎ (b ≡ true)
either_way true b e = inl refl
either_way false b e = inr e

pub or_first : (a b : Bool) → a ≡ true → (a || b) ≡ true
or_first a b e = rw e

pub or_later : (a b : Bool) → b ≡ true → (a || b) ≡ true
or_later true b e = refl
or_later false b e = e

-- Two variants of an enum are never the same: by congruence they would make 0 and 1 the same.
pub zero_is_one : ◌≡◌ {A = ℕ} 0 1 → ⊥
zero_is_one z = omega arith
