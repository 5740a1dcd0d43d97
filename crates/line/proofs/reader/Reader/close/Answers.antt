-- Row 9, or the end of the open bundle.
-- Assumes nothing.
use Rattle.std.proofs.Common.{◌∙◌, sym, ap}
use Rattle.line.specs.Reader.{ended_with}
use Rattle.line.specs.declared.reader.Reader.{Reader}
use Rattle.line.proofs.Steps.{close_broken, close_ends}
use Rattle.line.proofs.reader.Reader.close.Goals as goal

pub returns-then-not-is_sound : goal.returns-then-not-is_sound
returns-then-not-is_sound c = c.answering.ensures ∙ sym (close_broken c.args.self (sym c.if-not-is_sound.ensures))

pub returns : goal.returns
returns c =
    c.ended.ensures
    ∙ ap (λ (r : Reader). ended_with c.args.self r) c.fresh.ensures
    ∙ sym (close_ends c.args.self (sym c.if-not-is_sound.ensures))
