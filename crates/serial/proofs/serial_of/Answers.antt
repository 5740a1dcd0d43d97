-- The origin is its six characters.
-- Assumes nothing.
use Rattle.std.proofs.Common.{arith}
use Rattle.serial.proofs.Elements.{rest_is_its_elements}
use Rattle.serial.proofs.serial_of.Goals as goal

pub returns : goal.returns
returns c = let characters = rest_is_its_elements c.args.origin 0 6 (omega arith) in cc
