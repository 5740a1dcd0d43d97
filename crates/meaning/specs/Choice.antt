-- A choice by a test, so that a definition reads like a table: the first test that holds decides.
-- Assumes nothing.
use Rattle.std.specs.Prelude.{if◌then◌else◌, ℕ, ◌≡◌, refl, Bool, true, false}
use Rattle.std.proofs.Common.{arith}

-- What holds of each way, when the test says that it is taken, holds of the choice.
pub either : {A : Type 0} (P : A → Type 0) (t : Bool) {x y : A} → (t ≡ true → P x) → (t ≡ false → P y)
    → P (if t then x else y)
either P true f g = f refl
either P false f g = g refl

pub false_is_not_true : false ≡ true → ⊥
false_is_not_true e = let z : ◌≡◌ {A = ℕ} 0 1 = cc in omega arith
