-- The sum of one byte more; what a sealed list states is its sum; and a frame's sum never wraps.
-- Assumes nothing.
use Prim.Native.Nat.{ℕ, zero, suc, ◌+◌, ◌-◌, ◌*◌, ◌/◌, ◌%◌, ◌^◌, ◌≤◌, ◌<◌}
use native.Mathlib.Omega.{arith}
use native.Mathlib.Numerals.{add-one}
use native.Mathlib.Nat.{le_of_suc-le-suc}
use mathlib.Core.Path.{◌≡◌, ◌∙◌, sym, ap}
use mathlib.Core.List.{List, [], ◌∷◌, ◌++◌}
use lib.ListN.{length, get_or, take, length-append}
use lib.Seq.{take_at, get_or_at, get_or-append-add}
use Rattle.meaning.specs.Bytes.{Bytes, tail_bytes}
use Rattle.frame.specs.Layout.{sum_of, summed, stated}
use Rattle.frame.specs.Writing.{sealed}

sum_suc : (b : List ℕ) (i : ℕ) → i < length b → sum_of (take (suc i) b) ≡ sum_of (take i b) + get_or b i 0
sum_suc [] i h = absurd (omega arith)
sum_suc (x ∷ b) zero h = omega arith
sum_suc (x ∷ b) (suc i) h = omega (arith, sum_suc b i (le_of_suc-le-suc h))

pub sum_more : (b : List ℕ) (i : ℕ) → i < length b → sum_of (take (i + 1) b) ≡ sum_of (take i b) + get_or b i 0
sum_more b i h = rw add-one (sum_suc b i h)

-- A bundle that ends in the two bytes h and l states them, and sums what is before them.
module _ (p : List ℕ) (h l : ℕ) where
  length_ending : length (p ++ h ∷ l ∷ []) ≡ length p + 2
  length_ending = length-append p (h ∷ l ∷ [])

  pub summed_ending : summed (p ++ h ∷ l ∷ []) ≡ sum_of p
  summed_ending = ap sum_of (take_at p (h ∷ l ∷ []) (length (p ++ h ∷ l ∷ []) - 2) (omega (arith, length_ending)))

  high_ending : get_or (p ++ h ∷ l ∷ []) (length (p ++ h ∷ l ∷ []) - 2) 0 ≡ h
  high_ending = get_or_at p h (l ∷ []) 0 (length (p ++ h ∷ l ∷ []) - 2) (omega (arith, length_ending))

  low_ending : get_or (p ++ h ∷ l ∷ []) (length (p ++ h ∷ l ∷ []) - 1) 0 ≡ l
  low_ending =
      let e : length (p ++ h ∷ l ∷ []) - 1 ≡ length p + 1 = omega (arith, length_ending) in
      rw e (get_or-append-add p (h ∷ l ∷ []) 1 0)

  pub stated_ending : stated (p ++ h ∷ l ∷ []) ≡ h * 256 + l
  stated_ending = omega (arith, high_ending, low_ending)

-- What a sealed list states is its sum.
pub sealed_right : (w : List ℕ) → summed (sealed w) ≡ stated (sealed w)
sealed_right w =
    summed_ending w (sum_of w / 256) (sum_of w % 256) ∙ sym (stated_ending w (sum_of w / 256) (sum_of w % 256) ∙ div-add-mod' (sum_of w))
  where
    div-add-mod' : (n : ℕ) → n / 256 * 256 + n % 256 ≡ n
    div-add-mod' n = omega arith

-- Bytes before a checksum are at most 29, and their sum fits two bytes with room to spare.
sum_bounded : (w : List ℕ) → Bytes w → sum_of w ≤ 255 * length w
sum_bounded [] b = omega arith
sum_bounded (x ∷ w) b = omega (arith, sum_bounded w (tail_bytes x w b), b 0 (omega arith))

pub checksum_never_wraps : (w : List ℕ) → Bytes w → length w ≤ 29 → sum_of w < 2 ^ 16
checksum_never_wraps w b h = omega (arith, sum_bounded w b)
