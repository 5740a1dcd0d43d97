-- Every public contract of the crate is determined.
-- Assumes nothing.
use mathlib.Core.Path.{◌∙◌, sym}
use Rattle.meaning.specs.Determined.{Once}
use Rattle.messages.proofs.code.Code.number.Kinds as number_kinds
use Rattle.messages.proofs.code.Code.number.Reads as number
use Rattle.messages.proofs.table.outcome_of.Kinds as outcome_of_kinds
use Rattle.messages.proofs.table.outcome_of.Reads as outcome_of_lem

pub record Determined : Type 0 where
  pub number_once : Once number_kinds.ps number_kinds.r number.Post
  pub outcome_of_once : Once outcome_of_kinds.ps outcome_of_kinds.r outcome_of_lem.Post

pub determined : Determined
determined =
    record {
      number_once = λ κs a x y s t p q. p ∙ sym q;
      outcome_of_once = λ κs a x y s t p q. p ∙ sym q;
    }
