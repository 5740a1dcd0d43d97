-- A chain over the fields tells what the table's check of them does.
-- Assumes nothing.
use Rattle.std.proofs.Common.{◌≡◌, refl, ap, Bool, true, false, List, [], ◌∷◌, ◌&&◌}
use Rattle.std.specs.List.{list_all}
use Rattle.rts.specs.Fields.{fit, fits}
use Rattle.rts.specs.declared.field.Field.{Field}

and_true : (b : Bool) → (b && true) ≡ b
and_true b = elim b as (λ c. (c && true) ≡ c) [ true ↦ refl | false ↦ refl ]

pub all_fit : (fields : List Field) → list_all (λ field. (fits field).holds) fields ≡ (fit fields).holds
all_fit [] = refl
all_fit (field ∷ []) = and_true (fits field).holds
all_fit (field ∷ next ∷ fields) = ap (λ (b : Bool). (fits field).holds && b) (all_fit (next ∷ fields))
