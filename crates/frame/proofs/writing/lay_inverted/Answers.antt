-- One raw byte more lies inverted behind those passed.
-- Assumes nothing.
use Rattle.std.proofs.Common.{arith}
use Rattle.frame.specs.Layout.{inverted}
use Rattle.frame.proofs.Over.{mapped_more}
use Rattle.frame.proofs.writing.lay_inverted.Goals as goal

pub loop-place-preserved : goal.loop-place-preserved
loop-place-preserved c =
    rw c.loop-place.invariant (mapped_more inverted c.args.raw.now c.args.part.now c.loop-place.place (omega arith) (omega arith))
