-- One more record is passed, and behind the last one held none is.
-- Assumes nothing.
use Rattle.std.proofs.Common.{◌≡◌, ◌∙◌, ap, ℕ, ◌+◌, ◌-◌, ◌<◌, ◌≤◌, List, arith, add-one, take, drop, length, get_or, drop-cons, rules}
use lib.Dec.{ltb}
use borrow.Author.Tests.{ltb-true, ltb-false}
use Rattle.meaning.specs.Cases.{by_test}
use Rattle.std.proofs.Math.ListN.{drop_of_length-le, length-take}
use Rattle.std.proofs.Math.Seq.{get_or-take}
use Rattle.motors.specs.Motor.{zeros}
use Rattle.motors.specs.Passing.{past, passed_from, begun}
use Rattle.motors.specs.declared.motor.Motor.{Motor}
use Rattle.motors.specs.declared.passing.Passing.{Passing}
use Rattle.register.specs.Run.{fewer}
use Rattle.register.proofs.places.pass.Goals as goal

-- what the records held make, from a place on
abbrev from_place : List Motor → (count wanted at : ℕ) → Passing
from_place run count wanted at = passed_from wanted at (begun count) (drop at (take count run))

one_more : (run : List Motor) (count wanted i j : ℕ) → i ≡ j + 1 → i ≤ count → i ≤ length run
    → past (from_place run count wanted i) wanted (get_or run j zeros) j ≡ from_place run count wanted j
unfolding passed_from
one_more run count wanted i j e h k =
    let held : j < length (take count run) = rw length-take (omega arith) in
    let counted : j < count = omega arith in
    rw (e, add-one, drop-cons (take count run) j zeros, get_or-take count run j zeros)

none_behind : (run : List Motor) (count wanted at : ℕ) → length (take count run) ≤ at → begun count ≡ from_place run count wanted at
unfolding passed_from
none_behind run count wanted at h = rw (drop_of_length-le (take count run) h)

all_held : (run : List Motor) (count : ℕ) → length (take count run) ≡ fewer count (length run)
all_held run count =
    rw length-take
    (by_test (ltb count (length run))
    (λ t. let few : count < length run = ltb-true count (length run) t in rw t (omega arith))
    (λ t. let many : length run ≤ count = ltb-false count (length run) t in rw t (omega arith)))

pub loop-at-init : goal.loop-at-init
loop-at-init c =
    let held : c.min-at.result ≡ fewer c.args.count (length c.args.run.now) = search rules in
    let all : length (take c.args.count c.args.run.now) ≤ c.min-at.result = omega (arith, all_held c.args.run.now c.args.count) in
    record {
      counted = omega arith;
      within = omega arith;
      same = c.begun-passing.ensures ∙ none_behind c.args.run.now c.args.count c.args.wanted c.min-at.result all;
    }

pub loop-at-preserved : goal.loop-at-preserved
loop-at-preserved c = record {
  counted = omega arith;
  within = omega arith;
  same =
      c.past-passing.ensures
      ∙ ap (λ (p : Passing). past p c.args.wanted (get_or c.args.run.now (c.loop-at.at - 1) zeros) (c.loop-at.at - 1)) c.loop-at.invariant.same
      ∙ one_more c.args.run.now c.args.count c.args.wanted c.loop-at.at (c.loop-at.at - 1) (omega arith) c.loop-at.invariant.counted
      c.loop-at.invariant.within;
}
