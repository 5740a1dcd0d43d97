-- That demand 3 speaks of something. Whatever was sent, and whatever befell it, there is a recording of it; and every list of entries
-- is a recording of its bundles, so that `Pieces` leaves out no silence and no byte.
-- Assumes nothing.
use Prim.Native.Nat.{ℕ, zero-le}
use native.Mathlib.Omega.{arith}
use native.Mathlib.Nat.{le_refl}
use mathlib.Core.Path.{◌≡◌, refl}
use mathlib.Core.Bool.{Bool, true, false}
use mathlib.Core.List.{List, [], ◌∷◌}
use lib.Dec.{leb}
use borrow.Author.Tests.{leb-true, leb-false}
use Rattle.line.specs.Telling.{Entry, after}
use Rattle.line.specs.Bundles.{join, bundles}
use Rattle.line.specs.Damage.{Sent, heard, Pieces, none, empty, begin, Rest, over, within, Recording}

-- with 30 before the first byte of a piece, and nothing before any other
abbrev rest_of : (p : List ℕ) {ps : List (List ℕ)} {es : List Entry} → Pieces 30 ps es → (fs : List Entry) × Rest p ps fs
rest_of [] r = (_, over r)
rest_of (b ∷ p) r = let t = rest_of p r in (after 0 b ∷ t.0, within {s = 0} (omega arith) t.1)

abbrev pieces_of : (m : ℕ) (ps : List (List ℕ)) → (es : List Entry) × Pieces m ps es
pieces_of m [] = ([], none)
pieces_of m ([] ∷ ps) = let t = pieces_of m ps in (t.0, empty t.1)
pieces_of m ((b ∷ p) ∷ ps) = let t = rest_of p (pieces_of 30 ps).1 in (after m b ∷ t.0, begin (le_refl m) t.1)

unfoldable pub recorded : (ss : List Sent) → (es : List Entry) × Recording ss es
recorded ss = pieces_of 0 (heard ss)

first_of : (s b : ℕ) (es : List Entry) → (p : List ℕ) × (ps : List (List ℕ)) × (bundles (after s b ∷ es) ≡ (b ∷ p) ∷ ps) × Rest p ps es
first_of s b [] = ([], [], refl, over none)
first_of s b (after t c ∷ es) =
    let (p, ps, e, r) = first_of t c es in
    go (leb 30 t) refl p ps e r
  where
    go : (k : Bool) → leb 30 t ≡ k → (p : List ℕ) (ps : List (List ℕ)) → bundles (after t c ∷ es) ≡ (c ∷ p) ∷ ps → Rest p ps es
        → (q : List ℕ) × (qs : List (List ℕ)) × (join b k (bundles (after t c ∷ es)) ≡ (b ∷ q) ∷ qs) × Rest q qs (after t c ∷ es)
    go true h p ps e r = ([], (c ∷ p) ∷ ps, rw e, over (begin (leb-true 30 t h) r))
    go false h p ps e r = (c ∷ p, ps, rw e, within (leb-false 30 t h) r)

pub every : (es : List Entry) → Pieces 0 (bundles es) es
every [] = none
every (after s b ∷ es) = let (p, ps, e, r) = first_of s b es in rw e (begin zero-le r)
