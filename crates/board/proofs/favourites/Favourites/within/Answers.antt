-- The fold over the slots, none of which ends it.
-- Assumes nothing.
use Rattle.std.proofs.Common.{rules, tests, ◌≡◌, ◌∙◌, refl, ap, true, List, [], ◌∷◌}
use Rattle.std.specs.Prelude.{◌&&◌}
use Rattle.std.proofs.lemmas.Iterator.{YieldsList-from_slice}
use Rattle.std.proofs.lemmas.Iterator.Consumers.{fold_from_yields_List}
use Rattle.meaning.specs.Every.{every}
use Rattle.travel.specs.declared.Pulse.{Pulse}
use Rattle.board.specs.Favourites.{Ip, ip_within, ips_within}
use Rattle.board.proofs.Folds.{kept}
use Rattle.board.proofs.favourites.Favourites.within.Goals as goal

each_within : (travel : Pulse) (l : List Ip) → every (ip_within travel) l ≡ ips_within travel l
unfolding every ips_within
each_within travel [] = refl
each_within travel (x ∷ l) = ap (λ b. ip_within travel x && b) (each_within travel l)

pub returns : goal.returns
returns c =
    fold_from_yields_List _ (λ b x. b && ip_within c.args.travel x) true c.fold.result c.fold.ensures.ran
    (YieldsList-from_slice c.args.self.slots cc) (λ a x b q k. search (rules, tests))
    ∙ kept (ip_within c.args.travel) c.args.self.slots true
    ∙ each_within c.args.travel c.args.self.slots
