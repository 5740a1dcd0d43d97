-- The head is laid, and each turn lays one motor more.
-- Assumes nothing.
use Rattle.std.proofs.Common.{◌∙◌, ap₂, arith}
use Rattle.std.proofs.Math.Seq.{get_or-take, length-take-le}
use Rattle.motors.specs.Motor.{zeros}
use Rattle.form.specs.Writing.{motor_laid}
use Rattle.form.proofs.InPlace.{laying_starts, laying_goes_on}
use Rattle.register.proofs.forms.lay.Goals as goal

pub loop-at-init : goal.loop-at-init
loop-at-init c = c.lay_head.ensures ∙ laying_starts c.args.run.now c.args.count c.args.buffer.now

pub loop-at-preserved : goal.loop-at-preserved
loop-at-preserved c =
    let within = length-take-le c.min-held.result c.args.run.now (omega arith) in
    c.lay_motor.ensures
    ∙ ap₂ (motor_laid c.args.count c.loop-at.at) (get_or-take c.min-held.result c.args.run.now c.loop-at.at zeros (omega arith)) c.loop-at.invariant
    ∙ laying_goes_on c.args.run.now c.args.count c.args.buffer.now c.loop-at.at
