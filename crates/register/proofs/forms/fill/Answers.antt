-- Places that have the motors of the form are the first ones set.
-- Assumes nothing.
use Rattle.std.proofs.Common.{rules, ◌≡◌, ◌∙◌, ◌<◌, ◌≤◌, sym, arith, length}
use Rattle.std.proofs.Math.Seq.{ext_get_or}
use lib.Dec.{ltb}
use borrow.Author.Tests.{ltb-true, ltb-false}
use Rattle.meaning.specs.Cases.{by_test}
use Rattle.motors.specs.Motor.{zeros}
use Rattle.form.specs.Reading.{place_in}
use Rattle.register.specs.Run.{fewer, first_set}
use Rattle.register.proofs.Filled.{first_keeps_the_length, first_has_the_motor, first_leaves_the_others}
use Rattle.register.proofs.forms.fill.Goals as goal

pub returns : goal.returns
returns c =
    let run = c.args.run.now in
    let motor_at = place_in c.args.count c.args.bytes.now in
    let held : c.min-held.result ≡ fewer c.args.count (length c.args.run.now) = search rules in
    let long : length c.loop-at.run ≡ length c.args.run.now = omega arith in
    ext_get_or zeros c.loop-at.run (first_set motor_at c.args.count run) (long ∙ sym (first_keeps_the_length motor_at c.args.count run)) (λ j h.
    by_test (ltb j c.loop-at.at)
    (λ t.
    let passed : j < c.loop-at.at = ltb-true j c.loop-at.at t in
    c.loop-at.invariant.done j passed ∙ sym (first_has_the_motor motor_at c.args.count run j (omega arith)))
    (λ t.
    let beyond : c.loop-at.at ≤ j = ltb-false j c.loop-at.at t in
    c.loop-at.invariant.left j beyond ∙ sym (first_leaves_the_others motor_at c.args.count run j (omega arith))))
