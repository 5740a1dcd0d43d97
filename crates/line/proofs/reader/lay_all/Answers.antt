-- A part for which there is no room fills what room there is.
-- Assumes nothing.
use Rattle.std.proofs.Common.{◌+◌, ◌∙◌, ap, arith, rules}
use mathlib.Core.List.{foldl}
use lib.Seq.{take_all}
use Rattle.line.specs.Reader.{reader, joined}
use Rattle.line.proofs.Joining.{laid_over, more_than_room}
use Rattle.line.proofs.reader.lay_all.Goals as goal

pub returns-then-laid-part : goal.returns-then-laid-part
returns-then-laid-part c =
    let kept = c.args.kept.now in
    let laid = c.min-laid.result in
    more_than_room (reader kept c.args.count) c.args.part.now _ (c.args.count + laid) laid (omega arith) (omega arith)
    (laid_over kept c.args.part.now c.copy_from_slice.new.self c.args.count c.min-place.result laid _ (search rules) c.min-place.ensures
    (omega arith) (omega arith) (omega arith) c.copy_from_slice.ensures.after)

pub returns-else-laid-part : goal.returns-else-laid-part
returns-else-laid-part c =
    let kept = c.args.kept.now in
    let part = c.args.part.now in
    let laid = c.min-laid.result in
    laid_over kept part c.copy_from_slice.new.self c.args.count c.min-place.result laid _ (search rules) c.min-place.ensures
    (omega arith) (omega arith) (omega arith) c.copy_from_slice.ensures.after
    ∙ ap (foldl joined (reader kept c.args.count)) (take_all laid part (omega arith))
