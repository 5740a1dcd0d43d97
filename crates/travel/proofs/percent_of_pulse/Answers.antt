-- Before the travel the nearest of 0 to 100 is the nearest of all.
-- Assumes nothing.
use Rattle.std.proofs.Common.{arith, sym, ◌<◌}
use Rattle.std.proofs.lemmas.Grind.{common_steps}
use Rattle.travel.specs.Nearest.{nearest_of_all}
use Rattle.travel.specs.Position.{percent_only}
use Rattle.travel.proofs.percent_of_pulse.Goals as goal

pub returns : goal.returns
returns c =
    let before : c.args.pulse.0 < c.args.travel.0 = grind (arith, common_steps) in
    let of_span = rw (c.from.ensures, c.from-2.ensures) at c.nearest_of_span.ensures in
    sym (percent_only c.args.pulse c.args.travel (omega arith) (nearest_of_all (omega arith) (omega arith) of_span))
