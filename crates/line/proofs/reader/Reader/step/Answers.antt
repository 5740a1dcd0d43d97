-- Row 9, the end of the open bundle, or a byte more.
-- Assumes nothing.
use Rattle.std.proofs.Common.{ℕ, List, ◌∙◌, sym, ap, ap₂, arith}
use Rattle.line.specs.Reader.{ended_with, stepped, reader, no_bytes}
use Rattle.line.specs.declared.reader.Reader.{Reader}
use Rattle.line.proofs.Steps.{step_broken, step-ends, step_joins}
use Rattle.line.proofs.reader.Reader.step.Goals as goal
use Rattle.std.specs.Prelude.{Ok, None}

pub returns-then-not-is_sound : goal.returns-then-not-is_sound
returns-then-not-is_sound c =
    c.answering.ensures ∙ sym (step_broken c.args.self c.args.byte c.args.silence (sym c.if-not-is_sound.ensures))

pub returns-then-silence-ge-ENDING : goal.returns-then-silence-ge-ENDING
returns-then-silence-ge-ENDING c =
    c.ended.ensures
    ∙ ap (λ (r : Reader). ended_with c.args.self r) c.begun.ensures
    ∙ sym (step-ends c.args.self c.args.byte c.args.silence (sym c.if-not-is_sound.ensures) (omega arith))

pub returns : goal.returns
returns c =
    c.answering-2.ensures
    ∙ ap₂ (λ (k : List ℕ) (n : ℕ). stepped (reader k n) (Ok None) no_bytes) c.lay_in-count.ensures.1 c.lay_in-count.ensures.0
    ∙ sym (step_joins c.args.self c.args.byte c.args.silence (sym c.if-not-is_sound.ensures) (omega arith))
