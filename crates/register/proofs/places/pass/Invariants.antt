-- At place `at` the loop holds what the records from there on make, the last one first.
-- Assumes nothing.
use Rattle.std.proofs.Common.{◌≡◌, ◌≤◌, take, drop, length}
use Rattle.motors.specs.Passing.{passed_from, begun}
use Rattle.register.proofs.places.pass.Given as goal

abbrev pub invariant-loop-at : goal.invariant-loop-at
invariant-loop-at l = record {
  counted : l.at ≤ l.count;
  within : l.at ≤ length l.run;
  same : l.passing ≡ passed_from l.wanted l.at (begun l.count) (drop l.at (take l.count l.run));
}
