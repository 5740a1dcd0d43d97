-- The first row that applies: a table's answer has its number; and rows together.
-- Assumes nothing.
use Rattle.std.specs.Prelude.{if◌then◌else◌}
use Prim.Native.Nat.{ℕ, zero, suc, ◌<◌, suc-le-suc}
use native.Mathlib.Nat.{le_of_suc-le-suc}
use native.Mathlib.Omega.{arith}
use mathlib.Core.Path.{◌≡◌, refl, ◌∙◌, sym}
use mathlib.Core.Logic.{◌↔◌}
use mathlib.Core.Bool.{Bool, true, false, false≢true}
use mathlib.Core.List.{List, [], ◌∷◌, ◌++◌}
use lib.ListN.{length, get_or}
use Rattle.meaning.specs.Tests.{Test}
use Rattle.meaning.specs.Tables as tables
use Rattle.meaning.specs.Tables.{decide, Passed}
use Rattle.meaning.specs.Membership.{is_in, IsOneOf, as_first, as_later, one_of}
use Rattle.promises.specs.Rows.{Row, ◌when◌, First, FirstOf, applies, passes, none_applies, in_case}

-- What holds of each way, when the test says that it is taken, holds of the choice.
pub choice : {A : Type 0} (P : A → Type 1) (t : Bool) {x y : A} → (t ≡ true → P x) → (t ≡ false → P y) → P (if t then x else y)
choice P true f g = f refl
choice P false f g = g refl

-- A check that finds a fact, or that it is not so.
abbrev pub finds : {fact : Type 0} (t : Bool) → (t ≡ true → fact) → (t ≡ false → ¬ fact) → Test
finds {fact} t found missed =
    record { holds = t; fact = fact; other = t ≡ false; is_fact = found; is_other = λ e. e; never_both = λ f e. missed e f }

-- ---- a table and its rows
module _ {A : Type 0} (number : A → ℕ) where
  -- A table's rows, each with its answer's number and its test's fact.
  abbrev pub numbered : List (tables.Row A) → List Row
  numbered [] = []
  numbered (tables.◌when◌ answer test ∷ rows) = number answer when test.fact ∷ numbered rows

  module _ {otherwise : ℕ → Type 0} where
    -- A row and the test that decides it.
    pub row : {rows : List Row} {x y : A} (t : Test) → (t.other → First otherwise rows (number y))
        → First otherwise (number x when t.fact ∷ rows) (number (if t.holds then x else y))
    row {rows} {x} {y} t later =
        choice (λ (given : A). First otherwise (number x when t.fact ∷ rows) (number given)) t.holds (λ e. applies (t.is_fact e))
        (λ e. passes (λ f. t.never_both f (t.is_other e)) (later (t.is_other e)))

    -- What a table decides has the number of the first row that applies; behind it stand the rows that decide its rest.
    pub first_then : (rows : List (tables.Row A)) (rest : A) (more : List Row) → (Passed rows → First otherwise more (number rest))
        → First otherwise (numbered rows ++ more) (number (decide rows rest))
    first_then [] rest more later = later tt
    first_then (tables.◌when◌ answer test ∷ rows) rest more later =
        row test (λ other. first_then rows rest more (λ facts. later (other, facts)))

    -- The same of a table with nothing behind it.
    pub first : (rows : List (tables.Row A)) (rest : A) → otherwise (number rest) → First otherwise (numbered rows) (number (decide rows rest))
    first [] rest o = none_applies o
    first (tables.◌when◌ answer test ∷ rows) rest o = row test (λ other. first rows rest o)

-- ---- rows together
-- The rows whose first has its fact told in other words.
abbrev pub headed : Type 0 → List Row → List Row
headed fact [] = []
headed fact (number when told ∷ rows) = number when fact ∷ rows

-- The fact of the first row.
abbrev pub FirstFact : List Row → Type 0
FirstFact [] = ⊥
FirstFact (number when fact ∷ rows) = fact

-- A fact told in other words that say the same gives the same number.
pub retold : {otherwise : ℕ → Type 0} {fact : Type 0} (rows : List Row) {given : ℕ} → FirstFact rows ↔ fact → First otherwise rows given
    → First otherwise (headed fact rows) given
retold [] same (none_applies o) = none_applies o
retold (number when told ∷ rows) same (applies f) = applies (same.0 f)
retold (number when told ∷ rows) same (passes n l) = passes (λ f. n (same.1 f)) l

-- Tables that say the same row by row; a row is compared where those before it do not apply.
pub data Alike : List Row → List Row → Type 1 where
  at_the_end : Alike [] []
  in_other_words : {number : ℕ} {fact told : Type 0} {rows more : List Row} → fact ↔ told → (¬ fact → Alike rows more)
      → Alike (number when fact ∷ rows) (number when told ∷ more)

-- A row that stays as it is.
pub as_it_is : {number : ℕ} {fact : Type 0} {rows more : List Row} → (¬ fact → Alike rows more)
    → Alike (number when fact ∷ rows) (number when fact ∷ more)
as_it_is later = in_other_words (λ f. f, λ f. f) later

-- They give the same number.
pub same_number : {otherwise : ℕ → Type 0} {rows more : List Row} {given : ℕ} → Alike rows more → First otherwise rows given
    → First otherwise more given
same_number at_the_end (none_applies o) = none_applies o
same_number (in_other_words same later) (applies f) = applies (same.0 f)
same_number (in_other_words same later) (passes n l) = passes (λ f. n (same.1 f)) (same_number (later n) l)

-- A row that stays, and what is behind it told otherwise; and a row that never applies.
module _ {otherwise : ℕ → Type 0} where
  pub behind : {number given : ℕ} {fact : Type 0} {rows more : List Row} → (First otherwise rows given → First otherwise more given)
      → First otherwise (number when fact ∷ rows) given
      → First otherwise (number when fact ∷ more) given
  behind later (applies f) = applies f
  behind later (passes n l) = passes n (later l)

  pub never_applies : {number given : ℕ} {fact : Type 0} {rows : List Row} → ¬ fact
      → First otherwise (number when fact ∷ rows) given → First otherwise rows given
  never_applies never (applies f) = absurd (never f)
  never_applies never (passes n l) = l

-- A check that decides some facts fails exactly when they do not hold.
pub fails_exactly_when : {facts : Type 0} (t : Bool) → facts ↔ (t ≡ true) → (t ≡ false) ↔ (¬ facts)
fails_exactly_when true decides = (λ e f. false≢true (sym e), λ n. absurd (n (decides.1 refl)))
fails_exactly_when false decides = (λ e f. false≢true (decides.0 f), λ n. refl)

-- Rows that apply only in some case, where it holds and where it fails.
module _ {otherwise : ℕ → Type 0} {case : Type 0} where
  pub case_holds : {rows : List Row} {given : ℕ} → case → First otherwise rows given → First otherwise (in_case case rows) given
  case_holds c (applies {fact = fact} f) = applies {fact = case × fact} (c, f)
  case_holds c (passes {fact = fact} n l) = passes {fact = case × fact} (λ p. n p.1) (case_holds c l)
  case_holds c (none_applies o) = none_applies o

  pub case_fails : (rows : List Row) {given : ℕ} → ¬ case → otherwise given → First otherwise (in_case case rows) given
  case_fails [] c o = none_applies o
  case_fails (number when fact ∷ rows) c o = passes {fact = case × fact} (λ p. c p.0) (case_fails rows c o)

-- The numbers of some rows are all in a list.
abbrev pub AllIn : List ℕ → List Row → Type 0
AllIn l [] = Unit {0}
AllIn l (number when fact ∷ rows) = (is_in number l ≡ true) × AllIn l rows

pub within : (l : List ℕ) {rows : List Row} {given : ℕ} → AllIn l rows → FirstOf rows given → IsOneOf given (0 ∷ l)
within l k (applies f) = as_later (one_of _ l k.0)
within l k (passes n f) = within l k.1 f
within l k (none_applies e) = as_first e

-- A table gives one number.
pub one_number : (rows : List Row) (a b : ℕ) → FirstOf rows a → FirstOf rows b → a ≡ b
one_number rows a b (applies f) (applies g) = refl
one_number rows a b (applies f) (passes n l) = absurd (n f)
one_number rows a b (passes n k) (applies g) = absurd (n g)
one_number rows a b (passes {rows = more} n k) (passes m l) = one_number more a b k l
one_number rows a b (none_applies e) (none_applies f) = e ∙ sym f

-- One of a list stands at a place of it.
pub stands_at : (x : ℕ) (l : List ℕ) → IsOneOf x l → (place : ℕ) × ((place < length l) × (get_or l place 0 ≡ x))
stands_at x [] i = elim i [ ]
stands_at x (k ∷ l) (as_first e) = (0, (omega arith, sym e))
stands_at x (k ∷ l) (as_later i) = let (place, (h, e)) = stands_at x l i in (suc place, (suc-le-suc h, e))

pub standing_is_one : (x : ℕ) (l : List ℕ) (place : ℕ) → place < length l → get_or l place 0 ≡ x → IsOneOf x l
standing_is_one x [] place h e = absurd (omega arith)
standing_is_one x (k ∷ l) zero h e = as_first (sym e)
standing_is_one x (k ∷ l) (suc place) h e = as_later (standing_is_one x l place (le_of_suc-le-suc h) e)
