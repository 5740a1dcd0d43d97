-- An empty bundle gives nothing, one of over 31 bytes is too long, and any other is read.
-- Assumes nothing.
use Rattle.std.proofs.Common.{sym, ap, arith}
use Rattle.line.specs.Reader.{fresh, Answer}
use Rattle.line.specs.declared.reader.Stepped.{Stepped}
use Rattle.line.proofs.Steps.{ended_empty, ended_too_long, ended_as}
use Rattle.line.proofs.reader.Reader.judged.Goals as goal

abbrev answer : Stepped → Answer
answer s = s.answer

pub returns-then-count-eq0 : goal.returns-then-count-eq0
returns-then-count-eq0 c = ap answer (sym (ended_empty c.args.self fresh c.if-count-eq0.true))

pub returns-then-count-gt31 : goal.returns-then-count-gt31
returns-then-count-gt31 c = ap answer (sym (ended_too_long c.args.self fresh c.if-count-eq0.false (omega arith)))

pub returns-in-Ok : goal.returns-in-Ok
returns-in-Ok c = ap answer (ended_as c.args.self fresh c.if-count-eq0.false (omega arith) (sym c.in-Ok.ensures))

pub returns-in-Err : goal.returns-in-Err
returns-in-Err c = ap answer (ended_as c.args.self fresh c.if-count-eq0.false (omega arith) (sym c.in-Err.ensures))
