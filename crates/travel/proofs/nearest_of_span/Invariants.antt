-- No number up to the low end is past the quotient, and each behind the high end is; where they meet, the span's nearest is left. A round leaves at
-- most half of the span: seven rounds of 0 to 100.
-- Assumes nothing.
use Rattle.std.proofs.Common.{◌+◌, ◌-◌, ◌*◌, ◌<◌, ◌≤◌}
use Rattle.travel.specs.Halving.{rounds}
use Rattle.travel.proofs.nearest_of_span.Given as goal

abbrev pub invariant-loop-low : goal.invariant-loop-low
invariant-loop-low l =
    (l.fn.first ≤ l.low) × (l.low ≤ l.high) × (l.high ≤ l.fn.last)
    × (l.fn.first < l.low → 2 * l.fn.divisor * l.low ≤ 2 * l.fn.dividend + l.fn.divisor)
    × (l.high < l.fn.last → 2 * l.fn.dividend + l.fn.divisor < 2 * l.fn.divisor * (l.high + 1))

abbrev pub decreases-loop-low : goal.decreases-loop-low
decreases-loop-low l = rounds (l.high - l.low)
