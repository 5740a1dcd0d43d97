-- One more place adds its bits, and behind the last place there are none.
-- Assumes nothing.
use Rattle.std.proofs.Common.{◌≡◌, ◌∙◌, sym, ap, ℕ, ◌+◌, ◌-◌, ◌<◌, ◌≤◌, List, arith, add-one, drop, length, get_or, drop-cons}
use Rattle.std.proofs.Math.ListN.{drop_of_length-le}
use Rattle.motors.specs.Motor.{zeros}
use Rattle.motors.specs.Found.{gathered, bits_of}
use Rattle.motors.specs.declared.motor.Motor.{Motor}
use Rattle.register.proofs.places.bits_behind.Goals as goal

one_more : (run : List Motor) (i j : ℕ) → i ≡ j + 1 → j < length run → gathered (bits_of (drop i run)) (get_or run j zeros) ≡ bits_of (drop j run)
unfolding bits_of
one_more run i j e h = rw (e, add-one, drop-cons run j zeros)

none_behind : (run : List Motor) (i : ℕ) → length run ≤ i → bits_of (drop i run) ≡ 0
unfolding bits_of
none_behind run i h = rw (drop_of_length-le run h)

pub loop-at-init : goal.loop-at-init
loop-at-init c =
    let none = none_behind c.args.run.now (length c.args.run.now) (omega arith) in
    record {
      within = omega arith;
      same = sym none;
      low = λ h. none ∙ sym (none_behind c.args.run.now c.args.count h);
    }

pub loop-at-preserved : goal.loop-at-preserved
loop-at-preserved c = record {
  within = omega arith;
  same =
      c.gather-bits.ensures ∙ ap (λ (bits : ℕ). gathered bits (get_or c.args.run.now (c.loop-at.at - 1) zeros)) c.loop-at.invariant.same
      ∙ one_more c.args.run.now c.loop-at.at (c.loop-at.at - 1) (omega arith) (omega arith);
  low = λ h. ap (λ (i : ℕ). bits_of (drop i c.args.run.now)) (omega arith);
}
