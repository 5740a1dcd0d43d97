-- Two ways to show that two bundles are not both frames: by the length that each states, and by the sum that each states.
-- Assumes nothing.
use Prim.Native.Nat.{ℕ, ◌+◌, ◌*◌, ◌%◌, ◌<◌}
use native.Mathlib.Omega.{arith}
use mathlib.Core.Path.{◌≡◌, refl, sym, ap, ◌∙◌}
use mathlib.Core.Logic.{◌≢◌}
use mathlib.Core.List.{List, [], ◌∷◌, ◌++◌, append_assoc}
use lib.ListN.{length, get_or}
use Rattle.frame.specs.Layout.{inverted, len, sum_of}
use Rattle.frame.specs.Reading.{IsFrame}
use Rattle.frame.proofs.Sums.{summed_ending, stated_ending}

-- Two frames of which the second byte is the same are equally long.
pub by_len : (w p : List ℕ) → length p ≢ length w → (1 < length p → get_or p 1 0 ≡ get_or w 1 0) → IsFrame w → IsFrame p → ⊥
by_len w p ne same e d =
    let h : get_or p 1 0 ≡ get_or w 1 0 = same (omega arith) in
    let l : len p ≡ len w = ap (λ (x : ℕ). inverted x % 32) h in
    ne (sym d.states_its_length ∙ l ∙ e.states_its_length)

-- The stated sum of what ends in two bytes.
pub states : (p : List ℕ) (h l : ℕ) → IsFrame (p ++ h ∷ l ∷ []) → sum_of p ≡ h * 256 + l
states p h l e = sym (summed_ending p h l) ∙ e.states_its_sum ∙ stated_ending p h l

-- a list of two or more, with its last two apart
pub last_two : (t : List ℕ) → 1 < length t → (p : List ℕ) × (h : ℕ) × (l : ℕ) × (t ≡ p ++ h ∷ l ∷ [])
last_two [] g = absurd (omega arith)
last_two (x ∷ []) g = absurd (omega arith)
last_two (x ∷ y ∷ []) g = ([], x, y, refl)
last_two (x ∷ y ∷ z ∷ t) g =
    let r = last_two (y ∷ z ∷ t) (omega arith) in
    (x ∷ r.0, r.1, r.2, ap (λ (q : List ℕ). x ∷ q) r.3)

pub last_one : (t : List ℕ) → 0 < length t → (p : List ℕ) × (l : ℕ) × (t ≡ p ++ l ∷ [])
last_one [] g = absurd (omega arith)
last_one (x ∷ []) g = ([], x, refl)
last_one (x ∷ y ∷ t) g =
    let r = last_one (y ∷ t) (omega arith) in
    (x ∷ r.0, r.1, ap (λ (q : List ℕ). x ∷ q) r.2)

pub sum-append : (p q : List ℕ) → sum_of (p ++ q) ≡ sum_of p + sum_of q
sum-append [] q = omega arith
sum-append (x ∷ p) q = omega (arith, sum-append p q)

-- Two frames that end in the same two bytes or more have before those the same sum.
pub by_sum : (a c t : List ℕ) → 1 < length t → sum_of a ≢ sum_of c → IsFrame (a ++ t) → IsFrame (c ++ t) → ⊥
by_sum a c t g ne e d =
    let (q, h, l, s) = last_two t g in
    let e' : IsFrame ((a ++ q) ++ h ∷ l ∷ []) = rw (append_assoc a q (h ∷ l ∷ []), ← s) e in
    let d' : IsFrame ((c ++ q) ++ h ∷ l ∷ []) = rw (append_assoc c q (h ∷ l ∷ []), ← s) d in
    ne (omega (arith, states (a ++ q) h l e', states (c ++ q) h l d', sum-append a q, sum-append c q))
