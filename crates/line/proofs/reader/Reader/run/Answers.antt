-- Rows 9, 7 and 8, in this order, and then the run.
-- Assumes nothing.
use Rattle.std.proofs.Common.{◌∙◌, sym, arith}
use Rattle.line.proofs.Steps.{run_broken, run_unequal, run_past_end, run_goes}
use Rattle.line.proofs.reader.Reader.run.Goals as goal

pub returns-then-not-is_sound : goal.returns-then-not-is_sound
returns-then-not-is_sound c =
    c.refusing.ensures ∙ sym (run_broken c.args.self c.args.bytes.now c.args.silences.now c.args.place (sym c.if-not-is_sound.ensures))

pub returns-then-bytes-silences : goal.returns-then-bytes-silences
returns-then-bytes-silences c =
    c.refusing-then-bytes-silences.ensures
    ∙ sym (run_unequal c.args.self c.args.bytes.now c.args.silences.now c.args.place (sym c.if-not-is_sound.ensures) c.if-bytes-silences.true)

pub returns-then-place-bytes : goal.returns-then-place-bytes
returns-then-place-bytes c =
    c.refusing-then-place-bytes.ensures
    ∙ sym (run_past_end c.args.self c.args.bytes.now c.args.silences.now c.args.place (sym c.if-not-is_sound.ensures)
    c.if-bytes-silences.false (omega arith))

pub returns : goal.returns
returns c =
    c.go_on.ensures
    ∙ sym (run_goes c.args.self c.args.bytes.now c.args.silences.now c.args.place (sym c.if-not-is_sound.ensures)
    c.if-bytes-silences.false (omega arith))
