-- Tables, read like the paper's from top to bottom: the first row whose test holds gives the answer.
-- Assumes nothing.
use Rattle.std.specs.Prelude.{if◌then◌else◌, ℕ, zero, suc, ◌≡◌, refl, ◌⊎◌, Bool, true, false, List, [], ◌∷◌, ◌++◌}
use Rattle.std.proofs.Common.{ap, inl, inr, ⊎_elim}
use Rattle.meaning.specs.Choice.{either}
use Rattle.meaning.specs.Tests.{Test, holds_by, passed_by}

-- A row: its answer, and the test by which it applies.
pub data Row (A : Type 0) : Type 1 where
  ◌when◌ : A → Test → Row A

infix 68 ◌when◌
-- The answer of the first row that applies; where none does, the rest.
abbrev pub decide : {A : Type 0} → List (Row A) → A → A
decide [] rest = rest
decide (answer when test ∷ rows) rest = if test.holds then answer else decide rows rest

-- The facts where so many rows are passed over and the next one applies, or none is left.
abbrev pub Applies : {A : Type 0} → ℕ → List (Row A) → Type 0
Applies passed [] = Unit {0}
Applies zero (answer when test ∷ rows) = test.fact
Applies (suc passed) (answer when test ∷ rows) = test.other × Applies passed rows

-- The answer of the row behind so many, or the rest.
abbrev pub answer_at : {A : Type 0} → ℕ → List (Row A) → A → A
answer_at passed [] rest = rest
answer_at zero (answer when test ∷ rows) rest = answer
answer_at (suc passed) (answer when test ∷ rows) rest = answer_at passed rows rest

-- The facts where no row applies.
abbrev pub Passed : {A : Type 0} → List (Row A) → Type 0
Passed [] = Unit {0}
Passed (answer when test ∷ rows) = test.other × Passed rows

-- Each answer of a table is of some kind.
abbrev pub Answers : {A : Type 0} → (A → Type 0) → List (Row A) → Type 0
Answers kind [] = Unit {0}
Answers kind (answer when test ∷ rows) = kind answer × Answers kind rows

-- The row behind those passed over gives the answer.
pub decided : {A : Type 0} (passed : ℕ) (rows : List (Row A)) (rest : A) → Applies passed rows
    → decide rows rest ≡ answer_at passed rows rest
decided passed [] rest facts = refl
decided zero (answer when test ∷ rows) rest fact = rw (holds_by test fact)
decided (suc passed) (answer when test ∷ rows) rest facts =
    rw (passed_by test facts.0) (decided passed rows rest facts.1)

-- Where no row applies the rest is the answer.
pub no_row_applies : {A : Type 0} (rows : List (Row A)) (rest : A) → Passed rows → decide rows rest ≡ rest
no_row_applies [] rest facts = refl
no_row_applies (answer when test ∷ rows) rest facts =
    rw (passed_by test facts.0) (no_row_applies rows rest facts.1)

-- What holds of every row's answer, and of the rest where no row applies, holds of what the table decides.
pub of_decided : {A : Type 0} (kind : A → Type 0) (rows : List (Row A)) (rest : A)
    → Answers kind rows → (Passed rows → kind rest) → kind (decide rows rest)
of_decided kind [] rest each last = last tt
of_decided kind (answer when test ∷ rows) rest each last =
    either kind test.holds (λ e. each.0)
    (λ e. of_decided kind rows rest each.1 (λ facts. last (test.is_other e, facts)))

-- Each answer of a table is of some kind where its row applies.
abbrev pub AnswersWhen : {A : Type 0} → (A → Type 0) → List (Row A) → Type 0
AnswersWhen kind [] = Unit {0}
AnswersWhen kind (answer when test ∷ rows) = (test.fact → kind answer) × AnswersWhen kind rows

pub of_its_row : {A : Type 0} (kind : A → Type 0) (rows : List (Row A)) (rest : A) → AnswersWhen kind rows → kind rest
    → kind (decide rows rest)
of_its_row kind [] rest each last = last
of_its_row kind (answer when test ∷ rows) rest each last =
    either kind test.holds (λ e. each.0 (test.is_fact e)) (λ e. of_its_row kind rows rest each.1 last)

-- No row applies, or the answer is a row's and so of the kind that every row's is.
pub passed_or_answered : {A : Type 0} (kind : A → Type 0) (rows : List (Row A)) (rest : A)
    → Answers kind rows → Passed rows ⊎ kind (decide rows rest)
passed_or_answered kind [] rest each = inl tt
passed_or_answered kind (answer when test ∷ rows) rest each =
    either (λ given. Passed (answer when test ∷ rows) ⊎ kind given) test.holds (λ e. inr each.0)
    (λ e. ⊎_elim (λ facts. inl (test.is_other e, facts)) inr (passed_or_answered kind rows rest each.1))

-- A table behind another decides where none of the other's rows applies.
pub decides_on : {A : Type 0} (rows more : List (Row A)) (rest : A) → decide (rows ++ more) rest ≡ decide rows (decide more rest)
decides_on [] more rest = refl
decides_on (answer when test ∷ rows) more rest = ap (λ given. if test.holds then answer else given) (decides_on rows more rest)

-- What leaves every row's answer as it is changes the rest alone.
pub changes_the_rest : {A : Type 0} (f : A → A) (rows : List (Row A)) (rest : A) → Answers (λ answer. f answer ≡ answer) rows
    → f (decide rows rest) ≡ decide rows (f rest)
changes_the_rest f [] rest each = refl
changes_the_rest f (answer when test ∷ rows) rest each = by test.holds (changes_the_rest f rows rest each.1)
  where
    by : (t : Bool) → f (decide rows rest) ≡ decide rows (f rest)
        → f (if t then answer else decide rows rest) ≡ (if t then answer else decide rows (f rest))
    by true more = each.0
    by false more = more
