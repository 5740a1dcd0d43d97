-- At place `at` the loop holds the bits of the places from there on; of a run that ends before the count there are none.
-- Assumes nothing.
use Rattle.std.proofs.Common.{◌≡◌, ◌≤◌, drop, length}
use Rattle.motors.specs.Found.{bits_of}
use Rattle.register.proofs.places.bits_behind.Given as goal

abbrev pub invariant-loop-at : goal.invariant-loop-at
invariant-loop-at l = record {
  within : l.at ≤ length l.run;
  same : l.bits ≡ bits_of (drop l.at l.run);
  low : l.at ≤ l.count → bits_of (drop l.at l.run) ≡ bits_of (drop l.count l.run);
}
