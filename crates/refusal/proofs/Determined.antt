-- Every public contract of the crate is determined.
-- Assumes nothing.
use mathlib.Core.Path.{◌∙◌, sym}
use Rattle.meaning.specs.Determined.{Once}
use Rattle.refusal.proofs.Refusal.number.Kinds as number_kinds
use Rattle.refusal.proofs.Refusal.number.Reads as number

pub record Determined : Type 0 where
  pub number_once : Once number_kinds.ps number_kinds.r number.Post

pub determined : Determined
determined = record { number_once = λ κs a x y s t p q. p ∙ sym q }
