-- The contracts of `messages`: the number of a code, and the message table.
-- Assumes nothing.
use Rattle.std.specs.Prelude.{ℕ}
use Rattle.messages.specs.{Table.{outcome_of}, declared.code.Code.{Code}}
use Rattle.messages.proofs as messages
use Rattle.messages.proofs.code.Code as of_a_code
use Rattle.promises.specs.Wire.{data_of}
use Rattle.promises.specs.Contracts.Says.{Says}

-- The codes of document 01, under the message table.
abbrev pub code_of : Code → ℕ
code_of Code.UnknownMessage = 0x10
code_of Code.TooLittleData = 0x11
code_of Code.OutOfRange = 0x01
code_of Code.Locked = 0x20
code_of Code.PriorityTooLow = 0x25
code_of Code.Blocked = 0xFF
code_of Code.IpNotSet = 0x23

pub record MessagesContracts : Type 0 where
  pub code_number_is :
      Says of_a_code.number.Kinds.ps of_a_code.number.Kinds.r of_a_code.number.Reads.Pre of_a_code.number.Reads.Post
      (λ κs (code, _). code_of code)
  pub outcome_of_is :
      Says messages.outcome_of.Kinds.ps messages.outcome_of.Kinds.r
      messages.outcome_of.Reads.Pre messages.outcome_of.Reads.Post
      (λ κs (node, (groups, (source, (message, (bundle, _))))).
      outcome_of node groups source message (data_of bundle.now))
