-- No silence of the eights passed ends a bundle, so the first that does is behind them.
-- Assumes nothing.
use Rattle.std.proofs.Common.{◌∙◌, sym, length, arith}
use Rattle.line.proofs.Silences.{ends_in_eight, none_in_eight, ends_behind, none_behind}
use Rattle.line.proofs.reader.bundle_end.Goals as goal

pub returns-in-Some : goal.returns-in-Some
returns-in-Some c =
    let e =
    ends_in_eight c.args.silences.now c.args.from c.as_chunks.result.0.now c.loop-passed.passed c.as_chunks.ensures.front (omega arith)
    c.loop-passed.invariant c.in-Some.found c.in-Some.ensures
    in
    record { forward = e.forward; within = e.within; quiet = e.quiet; loud = e.loud }

pub loop-passed-preserved : goal.loop-passed-preserved
loop-passed-preserved c =
    none_in_eight c.args.silences.now c.args.from c.as_chunks.result.0.now c.loop-passed.passed c.as_chunks.ensures.front (omega arith)
    c.loop-passed.invariant (sym c.in_default.is ∙ c.first_ending.ensures)

pub returns-in-Some-first_ending : goal.returns-in-Some-first_ending
returns-in-Some-first_ending c =
    let e =
    ends_behind c.args.silences.now c.args.from c.as_chunks.result.1.now (length c.as_chunks.result.0.now) c.loop-passed.passed c.requires
    c.as_chunks.ensures.front_len c.as_chunks.ensures.back c.loop-passed-test.false c.loop-passed.auto.passed-end c.loop-passed.invariant
    c.in-Some-first_ending.found c.in-Some-first_ending.ensures
    in
    record { forward = e.forward; within = e.within; quiet = e.quiet; loud = e.loud }

pub returns-in-None : goal.returns-in-None
returns-in-None c =
    let e =
    none_behind c.args.silences.now c.args.from c.as_chunks.result.1.now (length c.as_chunks.result.0.now) c.loop-passed.passed c.requires
    c.as_chunks.ensures.front_len c.as_chunks.ensures.back c.loop-passed-test.false c.loop-passed.auto.passed-end c.loop-passed.invariant
    c.in-None.ensures
    in
    record { forward = e.forward; within = e.within; quiet = e.quiet; loud = e.loud }
