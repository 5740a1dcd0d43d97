-- A fold that keeps one bit, without an early exit, says whether every element passes.
-- Assumes nothing.
use Rattle.std.proofs.Common.{◌≡◌, refl, true, false, List, [], ◌∷◌}
use Rattle.std.specs.Prelude.{Bool, ◌&&◌}
use Rattle.std.specs.List.{fold}
use Rattle.meaning.specs.Every.{every}

pub kept : {A : Type 0} (test : A → Bool) (l : List A) (seen : Bool) → fold (λ b x. b && test x) seen l ≡ (seen && every test l)
unfolding every
kept test [] true = refl
kept test [] false = refl
kept test (x ∷ l) true = kept test l (test x)
kept test (x ∷ l) false = kept test l false
