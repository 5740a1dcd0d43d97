-- What the pass over the records held and the bits behind them come to is what the meaning says is found.
-- Assumes nothing.
use Rattle.std.proofs.Common.{◌<◌, ◌^◌, arith}
use Rattle.motors.proofs.InPlace.{found_by_one_pass}
use Rattle.register.proofs.places.look_up.Goals as goal

pub returns : goal.returns
returns c =
    let fits : c.args.motor.node < 2 ^ 32 = omega arith in
    let law = found_by_one_pass c.args.run.now c.args.count c.args.motor fits in
    cc
