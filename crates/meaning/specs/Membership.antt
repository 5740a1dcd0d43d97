-- A number is one of a list: as a test and as a sentence.
-- Assumes nothing.
use Rattle.std.specs.Prelude.{ℕ, ◌≡◌, Bool, true, false, ◌||◌, List, [], ◌∷◌, eqb}
use Rattle.std.proofs.Common.{⊎_elim, eq-eqb, eqb-true}
use Rattle.std.proofs.lemmas.Bool.{false≢true}
use Rattle.meaning.specs.Cases.{either_way, or_first, or_later}

abbrev pub is_in : ℕ → List ℕ → Bool
is_in m [] = false
is_in m (k ∷ l) = eqb m k || is_in m l

pub data IsOneOf (m : ℕ) : List ℕ → Type 0 where
  as_first : {k : ℕ} {l : List ℕ} → m ≡ k → IsOneOf m (k ∷ l)
  as_later : {k : ℕ} {l : List ℕ} → IsOneOf m l → IsOneOf m (k ∷ l)

pub one_of : (m : ℕ) (l : List ℕ) → is_in m l ≡ true → IsOneOf m l
one_of m [] e = absurd (false≢true e)
one_of m (k ∷ l) e = ⊎_elim (λ f. as_first (eqb-true m k f)) (λ f. as_later (one_of m l f)) (either_way (eqb m k) (is_in m l) e)

pub is_in_lem : (m : ℕ) (l : List ℕ) → IsOneOf m l → is_in m l ≡ true
is_in_lem m [] x' = elim x' [ ]
is_in_lem m (k ∷ l) (as_first e) = or_first (eqb m k) (is_in m l) (eq-eqb m k e)
is_in_lem m (k ∷ l) (as_later i) = or_later (eqb m k) (is_in m l) (is_in_lem m l i)
