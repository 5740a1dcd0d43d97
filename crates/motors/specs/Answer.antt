-- What a call on the register answers: the number of motors that are held then, or a refusal.
-- Assumes nothing.
use Rattle.std.specs.Prelude.{ℕ, Result}
use Rattle.refusal.specs.declared.Refusal.{Refusal}

abbrev pub Answer : Type 0
Answer = Result ℕ Refusal
