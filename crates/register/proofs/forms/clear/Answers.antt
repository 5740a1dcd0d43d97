-- Places filled with zeros hold no motor.
-- Assumes nothing.
use Rattle.std.proofs.Common.{rules, ◌≡◌, ◌∙◌, ◌-◌, ◌≤◌, ap₂, arith, length, drop, replicate, length-drop}
use Rattle.std.proofs.Math.Seq.{length-take-le}
use Rattle.register.specs.Run.{fewer}
use Rattle.register.proofs.Filled.{others_are_cleared}
use Rattle.register.proofs.forms.clear.Goals as goal

pub returns : goal.returns
returns c =
    let run = c.args.run.now in
    let held : c.min-held.result ≡ fewer c.args.count (length c.args.run.now) = search rules in
    let long : length c.args.run.now - c.min-held.result ≤ length (drop c.min-held.result c.args.run.now) = rw length-drop (omega arith) in
    others_are_cleared c.args.count run c.min-held.result held c.fill.new.self
    (c.fill.ensures.after (λ y e. e)
    ∙ ap₂ replicate (length-take-le (length run - c.min-held.result) (drop c.min-held.result run) long) c.unread.ensures)
