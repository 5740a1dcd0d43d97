-- How often a span is halved until one number is left (document 02, 2026-02).
-- Assumes nothing.
use Rattle.std.specs.Prelude.{if◌then◌else◌, ℕ, ◌+◌, ◌*◌, ◌<◌, ◌≤◌, ◌≡◌, refl, List, [], ◌∷◌, leb}
use Rattle.std.proofs.Common.{arith, leb-true, le-leb}
use Rattle.std.proofs.lemmas.Bool.{lt-leb}
use Rattle.meaning.specs.Choice.{either}

-- How many of these numbers are at most another.
abbrev pub reached : List ℕ → ℕ → ℕ
reached [] width = 0
reached (power ∷ powers) width = (if leb power width then 1 else 0) + reached powers width

-- A span of so many numbers behind its first: each round leaves at most half of them.
abbrev pub rounds : (width : ℕ) → ℕ
rounds width = reached (1 ∷ 2 ∷ 4 ∷ 8 ∷ 16 ∷ 32 ∷ 64 ∷ []) width

-- The percents 0 to 100 take seven rounds.
pub seven_rounds : rounds 100 ≡ 7
seven_rounds = refl

-- What a half reaches, the whole reaches doubled.
doubled : (power half whole : ℕ) → 2 * half ≤ whole
    → (if leb power half then 1 else 0) ≤ (if leb (2 * power) whole then 1 else 0)
doubled power half whole h =
    either (λ (k : ℕ). k ≤ (if leb (2 * power) whole then 1 else 0)) (leb power half)
    (λ e. rw (le-leb (2 * power) whole (omega (arith, leb-true power half e))) (omega arith))
    (λ e. omega arith)

pub fewer_rounds : (half whole : ℕ) → 0 < whole → whole < 128 → 2 * half ≤ whole → rounds half < rounds whole
fewer_rounds half whole some most h =
    rw (le-leb 1 whole some, lt-leb 64 half (omega arith))
    (omega (
      arith,
      doubled 1 half whole h,
      doubled 2 half whole h,
      doubled 4 half whole h,
      doubled 8 half whole h,
      doubled 16 half whole h,
      doubled 32 half whole h,
    ))
