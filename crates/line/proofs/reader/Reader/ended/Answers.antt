-- The answer of the bundle that ended, and beside it the bytes of a frame.
-- Assumes nothing.
use Rattle.std.proofs.Common.{◌∙◌, sym, ap, Ok}
use Rattle.line.specs.Reader.{fresh}
use Rattle.line.proofs.Steps.{ended_as_answered}
use Rattle.line.proofs.reader.Reader.ended.Goals as goal

pub returns-in-Ok-None : goal.returns-in-Ok-None
returns-in-Ok-None c = c.answering.ensures ∙ ended_as_answered c.args.self c.args.next fresh (sym c.in-Ok-None.ensures ∙ ap (λ o. Ok o) c.in-Ok-None.field-0-is)

pub returns-in-Ok-Some : goal.returns-in-Ok-Some
returns-in-Ok-Some c = ended_as_answered c.args.self c.args.next fresh (sym c.in-Ok-Some.ensures ∙ ap (λ o. Ok o) c.in-Ok-Some.field-0-is)

pub returns-in-Err : goal.returns-in-Err
returns-in-Err c = c.answering-in-Err.ensures ∙ ended_as_answered c.args.self c.args.next fresh (sym c.judged.ensures ∙ c.in-Err.is)
