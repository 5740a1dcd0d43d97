-- The head is laid, and the motors of the places passed.
-- Assumes nothing.
use Rattle.std.proofs.Common.{◌≡◌}
use Rattle.form.specs.Writing.{laid_up_to}
use Rattle.register.proofs.forms.lay.Given as goal

abbrev pub invariant-loop-at : goal.invariant-loop-at
invariant-loop-at l = l.buffer ≡ laid_up_to l.run l.count l.fn.buffer l.at
