-- The places passed have the motors of the form, the others are as they were.
-- Assumes nothing.
use Rattle.std.proofs.Common.{◌≡◌, ◌<◌, ◌≤◌, ℕ, get_or}
use Rattle.motors.specs.Motor.{zeros}
use Rattle.form.specs.Reading.{place_in}
use Rattle.register.proofs.forms.fill.Given as goal

abbrev pub invariant-loop-at : goal.invariant-loop-at
invariant-loop-at l = record {
  done : (j : ℕ) → j < l.at → get_or l.run j zeros ≡ place_in l.count l.bytes j;
  left : (j : ℕ) → l.at ≤ j → get_or l.run j zeros ≡ get_or l.fn.run j zeros;
}
