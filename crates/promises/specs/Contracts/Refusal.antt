-- The contracts of `refusal`.
-- Assumes nothing.
use Rattle.refusal.proofs.Refusal as Refusal
use Rattle.promises.specs.Numbers.{number_of}
use Rattle.promises.specs.Contracts.Says.{Says}

pub record RefusalContracts : Type 0 where
  -- Document 01's number.
  pub refusal_number_is :
      Says Refusal.number.Kinds.ps Refusal.number.Kinds.r Refusal.number.Reads.Pre Refusal.number.Reads.Post
      (λ κs (refusal, _). number_of refusal)
