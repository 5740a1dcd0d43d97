-- A contract is determined where any two outcomes that it allows are equal. The contracts are those of the source:
-- `Post` of a function's `Reads`.
-- Assumes nothing.
use Rattle.std.specs.Prelude.{◌≡◌, List, ℕ}
use contract.Lifetimes.{Lfts}
use denote.Triple.Clauses.{AtExit}
use borrow.Fn.Kind.{ParamKind, ResultKind}
use borrow.Fn.Kinds.{Out, Dens, res_t, ended_of}

-- At any arguments, two results that the contract allows are equal.
abbrev pub Once : {n : ℕ} (ps : List (ParamKind n)) (r : ResultKind n) → Out n ps r → Type 0
Once {n} ps r post =
    (κs : Lfts n) (a : Dens κs ps) (x y : (res_t r κs).Denot) (s t : AtExit (ended_of n ps r) κs) → post κs a x s
    → post κs a y t → x ≡ y

-- The same for a function that is lent memory: what stands there at its end, `left`, is equal too.
abbrev pub OnceLent : {n : ℕ} (ps : List (ParamKind n)) (r : ResultKind n) → Out n ps r
    → ((κs : Lfts n) → AtExit (ended_of n ps r) κs → List ℕ) → Type 0
OnceLent {n} ps r post left =
    (κs : Lfts n) (a : Dens κs ps) (x y : (res_t r κs).Denot) (s t : AtExit (ended_of n ps r) κs)
    → post κs a x s → post κs a y t → (x ≡ y) × (left κs s ≡ left κs t)
