-- A bundle is a frame exactly when reading refuses nothing, and any other is refused by a number from 1 to 6.
-- Assumes nothing.
use Prim.Native.Nat.{ℕ, ◌≤◌}
use native.Mathlib.Omega.{arith}
use mathlib.Core.Path.{◌≡◌, refl, ap}
use mathlib.Core.Logic.{◌↔◌, ◌⊎◌, inl, inr, ⊎_elim}
use mathlib.Core.List.{List}
use Rattle.meaning.specs.Tables.{no_row_applies, passed_or_answered}
use Rattle.refusal.specs.Number.{number_of}
use Rattle.refusal.specs.declared.Refusal.{Refusal}
use Rattle.frame.specs.Layout.{header_of, data_count}
use Rattle.frame.specs.Reading.{bundle_table, reading_of, IsFrame, refused_by, Reading}
use Rattle.std.specs.Prelude.{Ok, Err}

-- Read, a frame gives its header and its count of DATA.
pub frame_is_read : (b : List ℕ) → IsFrame b → reading_of b ≡ Ok (header_of b, data_count b)
unfolding reading_of
frame_is_read b f = no_row_applies (bundle_table b) (Ok (header_of b, data_count b)) (search arith)

-- What is refused, by one of six numbers.
abbrev pub Numbered : Reading → Type 0
Numbered r = (q : Refusal) × (r ≡ Err q) × (1 ≤ number_of q) × (number_of q ≤ 6)

numbered : (r : Reading) → (1 ≤ refused_by r) × (refused_by r ≤ 6) → Numbered r
numbered (Ok (h, n)) l = absurd (omega arith)
numbered (Err q) l = (q, refl, l.0, l.1)

-- One or the other: each row of the table has such a number, and where none applies the rules hold.
by_number : (b : List ℕ) → IsFrame b ⊎ ((1 ≤ refused_by (reading_of b)) × (refused_by (reading_of b) ≤ 6))
unfolding reading_of
by_number b =
    ⊎_elim (λ facts. inl (search arith)) inr
    (passed_or_answered (λ (r : Reading). (1 ≤ refused_by r) × (refused_by r ≤ 6)) (bundle_table b) (Ok (header_of b, data_count b)) (search arith))

pub frame_or_refused : (b : List ℕ) → IsFrame b ⊎ Numbered (reading_of b)
frame_or_refused b = ⊎_elim inl (λ l. inr (numbered (reading_of b) l)) (by_number b)

pub frame_exactly_when : (b : List ℕ) → IsFrame b ↔ (refused_by (reading_of b) ≡ 0)
frame_exactly_when b = (λ f. ap refused_by (frame_is_read b f), λ e. ⊎_elim (λ f. f) (λ l. absurd (omega arith)) (by_number b))

pub refused_otherwise : (b : List ℕ) → ¬ IsFrame b → Numbered (reading_of b)
refused_otherwise b n = ⊎_elim (λ f. absurd (n f)) (numbered (reading_of b)) (by_number b)
