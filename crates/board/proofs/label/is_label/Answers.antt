-- The fold over the characters, none of which ends it.
-- Assumes nothing.
use Rattle.std.proofs.Common.{rules, tests, ◌∙◌, true}
use Rattle.std.specs.Prelude.{◌&&◌}
use Rattle.std.proofs.lemmas.Iterator.{YieldsList-from_slice}
use Rattle.std.proofs.lemmas.Iterator.Consumers.{fold_from_yields_List}
use Rattle.board.specs.Label.{is_character}
use Rattle.board.proofs.Folds.{kept}
use Rattle.board.proofs.label.is_label.Goals as goal

pub returns : goal.returns
returns c =
    fold_from_yields_List _ (λ b x. b && is_character x) true c.fold.result c.fold.ensures.ran
    (YieldsList-from_slice c.args.label cc) (λ a x b q k. search (rules, tests))
    ∙ kept is_character c.args.label true
