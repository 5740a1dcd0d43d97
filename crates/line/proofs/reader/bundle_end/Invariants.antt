-- No silence of the eights passed ends a bundle.
-- Assumes nothing.
use Rattle.std.proofs.Common.{ℕ, ◌+◌, ◌*◌, ◌≤◌, ◌<◌, get_or}
use Rattle.line.proofs.reader.bundle_end.Given as goal

abbrev pub invariant-loop-passed : goal.invariant-loop-passed
invariant-loop-passed l = (k : ℕ) → l.from ≤ k → k < l.from + l.passed * 8 → get_or l.silences k 0 < 30
