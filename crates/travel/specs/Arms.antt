-- A choice by an order has a property if each of its arms has it under the test that leads there.
-- Assumes nothing.
use Rattle.std.specs.Prelude.{if◌then◌else◌, ℕ, ◌<◌, ◌≤◌, leb}
use Rattle.std.proofs.Common.{leb-true, leb-false}
use Rattle.meaning.specs.Choice.{either}

pub by_arms : {A : Type 0} (P : A → Type 0) (a b : ℕ) {x y : A} → (a ≤ b → P x) → (b < a → P y)
    → P (if leb a b then x else y)
by_arms P a b low high = either P (leb a b) (λ t. low (leb-true a b t)) (λ t. high (leb-false a b t))
