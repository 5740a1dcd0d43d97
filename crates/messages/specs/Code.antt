-- The codes of a refused message, in order of checking (document 01, under the message table).
-- Assumes nothing.
use Rattle.std.specs.Prelude.{ℕ}
use Rattle.messages.specs.declared.code.Code.{Code}

abbrev pub code_of : Code → ℕ
code_of Code.UnknownMessage = 0x10
code_of Code.TooLittleData = 0x11
code_of Code.OutOfRange = 0x01
code_of Code.Locked = 0x20
code_of Code.PriorityTooLow = 0x25
code_of Code.Blocked = 0xFF
code_of Code.IpNotSet = 0x23
