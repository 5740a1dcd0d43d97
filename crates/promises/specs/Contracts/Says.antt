-- A contract of the source is a meaning: it requires nothing, and each result that it allows is the meaning.
-- `Kinds` of a function have its signature; `Pre` and `Post` of its `Reads` are what the source requires and ensures.
-- A meaning takes the lifetimes, which it does not need, and the arguments in their order, `(first, (second, _))`.
-- Assumes nothing.
use Rattle.std.specs.Prelude.{ℕ, ◌+◌, ◌≡◌, Bool, true, false, ◌||◌, List, [], ◌∷◌}
use mir.Syntax.{
  imm,
  mut,
  Ty,
  ty_int,
  ty_bool,
  ty_float,
  ty_ptr,
  ty_ref,
  ty_array,
  ty_unit,
  ty_struct,
  ty_enum,
  ty_param,
  ty_const,
  ty_array_p,
  ty_named,
  Tys,
  tnil,
  tcons,
  Tyss,
  ttnil,
  ttcons,
}
use seplogic.Ra.Ura.{Ura}
use base.Logic.{ent, emp}
use contract.Lifetimes.{Lfts}
use contract.Monad.{fact}
use denote.Signature.{Slot}
use denote.Triple.Clauses.{Ended, Clauses, AtExit}
use denote.Triple.Entry.{Args, Res}
use borrow.Fn.Kind.{ParamKind, ResultKind}
use borrow.Fn.Kinds.{In, Out, Dens, res_t, ended_of}

-- ---- memory that is lent to be changed
-- Something of this type can be changed through it: a `&mut`, and a struct, an enum or an array that has one. What is
-- known by its name alone, or is a parameter, counts as such.
abbrev mutual
  pub is_lent : Ty → Bool
  is_lent (ty_int width) = false
  is_lent ty_bool = false
  is_lent (ty_float format) = false
  is_lent ty_ptr = true
  is_lent (ty_ref lifetime imm ty) = false
  is_lent (ty_ref lifetime mut ty) = true
  is_lent (ty_array ty count) = is_lent ty
  is_lent ty_unit = false
  is_lent (ty_struct name fields) = has_lent fields
  is_lent (ty_enum name variants) = some_has_lent variants
  is_lent (ty_param number) = true
  is_lent (ty_const number) = false
  is_lent (ty_array_p ty number) = is_lent ty
  is_lent (ty_named head tys) = true

  pub has_lent : Tys → Bool
  has_lent tnil = false
  has_lent (tcons ty tys) = is_lent ty || has_lent tys

  pub some_has_lent : Tyss → Bool
  some_has_lent ttnil = false
  some_has_lent (ttcons tys more) = has_lent tys || some_has_lent more

-- How many parameters of a signature are lent to be changed.
abbrev pub any_lent : List Ty → Bool
any_lent [] = false
any_lent (ty ∷ tys) = is_lent ty || any_lent tys

abbrev pub one_if : Bool → ℕ
one_if true = 1
one_if false = 0

abbrev pub lent_to_change : {n : ℕ} → Lfts n → List (Slot n) → ℕ
lent_to_change κs [] = 0
lent_to_change κs (slot ∷ slots) = one_if (any_lent (slot.row κs).mir) + lent_to_change κs slots

-- ---- widths
-- The types of the parameters, and of the fields of a struct.
abbrev pub types_of : {n : ℕ} → List (ParamKind n) → List Ty
types_of [] = []
types_of (kind ∷ kinds) = kind.is.ty ∷ types_of kinds

abbrev pub fields_of : Ty → Tys
fields_of (ty_struct name fields) = fields
fields_of (ty_int width) = tnil
fields_of ty_bool = tnil
fields_of (ty_float format) = tnil
fields_of ty_ptr = tnil
fields_of (ty_ref lifetime mutability ty) = tnil
fields_of (ty_array ty count) = tnil
fields_of ty_unit = tnil
fields_of (ty_enum name variants) = tnil
fields_of (ty_param number) = tnil
fields_of (ty_const number) = tnil
fields_of (ty_array_p ty number) = tnil
fields_of (ty_named head tys) = tnil

-- ---- the contracts
-- Of any arguments, with nothing required of them and no memory lent to be changed, each result that the contract
-- allows is the meaning.
abbrev pub Says : {n : ℕ} (ps : List (ParamKind n)) (r : ResultKind n) → In n ps → Out n ps r
    → ((κs : Lfts n) → Dens κs ps → (res_t r κs).Denot) → Type 0
Says {n} ps r pre post meaning =
    (κs : Lfts n) (a : Dens κs ps)
    → (lent_to_change κs (ended_of n ps r).signature.params ≡ 0)
    × (pre κs a × ((x : (res_t r κs).Denot) (s : AtExit (ended_of n ps r) κs) → post κs a x s → x ≡ meaning κs a))

-- The same for a function that is lent memory to be changed, of one parameter alone: what stands there at its end,
-- `left`, is the meaning too, `after`, byte for byte.
abbrev pub SaysLent :
    {n : ℕ} (ps : List (ParamKind n)) (r : ResultKind n)
    → In n ps → Out n ps r → ((κs : Lfts n) → Dens κs ps → (res_t r κs).Denot)
    → ((κs : Lfts n) → AtExit (ended_of n ps r) κs → List ℕ) → ((κs : Lfts n) → Dens κs ps → List ℕ) → Type 0
SaysLent {n} ps r pre post meaning left after =
    (κs : Lfts n) (a : Dens κs ps)
    → (lent_to_change κs (ended_of n ps r).signature.params ≡ 1)
    × (pre κs a
    × ((x : (res_t r κs).Denot) (s : AtExit (ended_of n ps r) κs)
    → post κs a x s → (x ≡ meaning κs a) × (left κs s ≡ after κs a)))

-- The same for a function over a lent run of records: of its contract, `clauses`, in the program logic that it is proved
-- in.
abbrev pub SaysHeld :
    {M : Type 1} (𝓤 : Ura M) {E : Type 0} (T : Ended) (c : Clauses 𝓤 T)
    → ((κs : Lfts T.signature.lifetimes) → Args T.signature κs → Res T.signature κs)
    → ((κs : Lfts T.signature.lifetimes) → AtExit T κs → List E)
    → ((κs : Lfts T.signature.lifetimes) → Args T.signature κs → List E) → Type 1
SaysHeld 𝓤 {E} T c meaning left after =
    (κs : Lfts T.signature.lifetimes) (a : Args T.signature κs)
    → (lent_to_change κs T.signature.params ≡ 1)
    × ((c κs a).ghost
    × ((g : (c κs a).ghost)
    → ent 𝓤 (emp 𝓤) ((c κs a).requires g)
    × ((x : Res T.signature κs) (s : AtExit T κs)
    → ent 𝓤 ((c κs a).ensures g x s) (fact 𝓤 ((x ≡ meaning κs a) × (left κs s ≡ after κs a))))))

-- The same where no memory is lent to be changed.
abbrev pub SaysByHand :
    {M : Type 1} (𝓤 : Ura M) (T : Ended) (c : Clauses 𝓤 T)
    → ((κs : Lfts T.signature.lifetimes) → Args T.signature κs → Res T.signature κs) → Type 1
SaysByHand 𝓤 T c meaning =
    (κs : Lfts T.signature.lifetimes) (a : Args T.signature κs)
    → (lent_to_change κs T.signature.params ≡ 0)
    × ((c κs a).ghost
    × ((g : (c κs a).ghost)
    → ent 𝓤 (emp 𝓤) ((c κs a).requires g)
    × ((x : Res T.signature κs) (s : AtExit T κs) → ent 𝓤 ((c κs a).ensures g x s) (fact 𝓤 (x ≡ meaning κs a)))))
