-- The first entry that is the group ends the search.
-- Assumes nothing.
use Rattle.std.proofs.Common.{rules, tests, ◌≡◌, ◌∙◌, refl, true, false, [], ◌∷◌}
use Rattle.std.specs.Prelude.{if◌then◌else◌, Bool, ◌||◌}
use Rattle.std.specs.List.{list_any}
use Rattle.std.proofs.lemmas.Iterator.{YieldsList-from_slice}
use Rattle.std.proofs.lemmas.Iterator.Search.{any_from_yields_List}
use Rattle.frame.specs.declared.address.Address.{Address}
use Rattle.board.specs.Groups.{Groups, is_entry_of, in_table}
use Rattle.board.proofs.groups.in_table.Goals as goal

either_one : (here further : Bool) → (here || further) ≡ (if here then true else further)
either_one true further = refl
either_one false further = refl

any_entry : (source : Address) (groups : Groups) → list_any (λ entry. is_entry_of entry source) groups ≡ in_table source groups
unfolding in_table
any_entry source [] = refl
any_entry source (entry ∷ groups) = rw (any_entry source groups) (either_one (is_entry_of entry source) (in_table source groups))

pub returns : goal.returns
returns c =
    any_from_yields_List (λ entry. is_entry_of entry c.args.source) _ _ c.any.result c.any.ensures.ran
    (YieldsList-from_slice c.args.groups cc) (λ x b q k. search (rules, tests))
    ∙ any_entry c.args.source c.args.groups
