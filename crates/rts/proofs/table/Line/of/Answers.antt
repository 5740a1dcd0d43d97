-- The chain over the fields tells what the table's check of them does.
-- Assumes nothing.
use Rattle.std.proofs.Common.{◌≡◌, ◌∙◌}
use Rattle.std.proofs.lemmas.List.{length-map}
use Rattle.rts.specs.Fields.{value_of, fit}
use Rattle.rts.proofs.Fitting.{all_fit}
use Rattle.rts.proofs.table.Line.of.Goals as goal

pub returns : goal.returns
returns c =
    let fitting : c.fit.result ≡ (fit c.args.fields.now).holds = c.fit.ensures ∙ all_fit c.args.fields.now in
    let counted = length-map c.args.fields.now value_of in
    cc
