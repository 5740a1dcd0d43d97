-- The check of each entry, in turn.
-- Assumes nothing.
use Rattle.std.proofs.Common.{rules, tests}
use Rattle.form.specs.Layout.{entry_right}
use Rattle.form.specs.FormOne.{form_one}
use Rattle.form.proofs.Everywhere.{all_in_range}
use Rattle.form.proofs.form.Form.contents_right.Goals as goal

pub returns : goal.returns
returns c =
    let form = c.args.self.now in
    all_in_range (entry_right form_one form.count form.bytes.now) form.count _ _ c.all.result c.all.ensures.ran (λ i b q k. search (rules, tests))
