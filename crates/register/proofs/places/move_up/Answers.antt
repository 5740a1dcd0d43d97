-- The records are copied to the next places, and the motor is set at the one that comes free; or nothing moves.
-- Assumes nothing.
use Rattle.std.proofs.Common.{◌∙◌, ap, arith, List, inl, inr}
use lib.ListN.{set}
use Rattle.motors.specs.declared.motor.Motor.{Motor}
use Rattle.register.proofs.Moving.{copied_up, not_up}
use Rattle.register.proofs.places.move_up.Goals as goal
use Rattle.register.proofs.places.move_up.Goals.{else-from-last-via-then-from-last+else-last-run, else-from-last-via-else-from-last}

pub returns-then-last-run : goal.returns-then-last-run
returns-then-last-run c =
    ap (λ (l : List Motor). set l c.args.from c.args.motor) c.copy_within.ensures.after
    ∙ copied_up c.args.run.now c.args.from c.args.last c.args.motor (omega arith) (omega arith)

pub returns-else-from-last : goal.returns-else-from-last
returns-else-from-last c =
    not_up c.args.run.now c.args.from c.args.last c.args.motor
    (elim c.else-from-last.branch [
      | else-from-last-via-then-from-last+else-last-run w ↦ inr (omega arith)
      | else-from-last-via-else-from-last w ↦ inl (omega arith)
    ])
