-- The total is the sum of the bytes passed, and at most 255 for each.
-- Assumes nothing.
use Rattle.std.proofs.Common.{◌≡◌, ◌≤◌, ◌*◌, take}
use Rattle.frame.specs.Layout.{sum_of}
use Rattle.frame.proofs.sum.sum.Given as goal

abbrev pub invariant-loop-byte : goal.invariant-loop-byte
invariant-loop-byte l = (l.total ≤ 255 * l.byte-index) × (l.total ≡ sum_of (take l.byte-index l.bytes))
