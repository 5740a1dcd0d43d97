-- Zeros to the end of a list, byte by byte and eight by eight.
-- Assumes nothing.
use Prim.Native.Nat.{ℕ, zero, suc, ◌+◌, ◌-◌, ◌*◌, ◌/◌, ◌≤◌, ◌<◌, min}
use native.Mathlib.Omega.{arith}
use mathlib.Core.Path.{◌≡◌, refl, ◌∙◌, sym, ap}
use Rattle.std.specs.Prelude.{if◌then◌else◌}
use mathlib.Core.Bool.{Bool, true, false, ◌&&◌}
use mathlib.Core.List.{List, [], ◌∷◌, ◌++◌}
use borrow.Author.Tests.{ne_eqb, eqb-true, leb-true, leb-false}
use lib.Dec.{eqb, leb}
use lib.ListN.{length, get_or, take, drop, replicate, drop_of_length-le, take-append-drop, length-take}
use Rattle.std.proofs.lemmas.Nat.{le_bytes_8}
use lib.Seq.{take-add, drop-append-le}
use Rattle.std.specs.List.{list_all}
use Rattle.std.specs.Int.{w64, from_le_bytes}
use Rattle.std.specs.Simd.{first_chunks}
use Rattle.meaning.specs.Choice.{false_is_not_true}
use Rattle.line.specs.Reader.{all_zeros}

pub zeros_end : (l : List ℕ) (i : ℕ) → length l ≤ i → all_zeros (drop i l) ≡ true
unfolding all_zeros
zeros_end l i h = rw (drop_of_length-le l h)

pub both : (s t : Bool) → (if s then t else false) ≡ true → (s ≡ true) × (t ≡ true)
both true t e = (refl, e)
both false t e = absurd (false_is_not_true e)

pub zero_first : (x : ℕ) (l : List ℕ) → all_zeros (x ∷ l) ≡ true → (x ≡ 0) × (all_zeros l ≡ true)
unfolding all_zeros
zero_first x l e = let (z, t) = both (eqb x 0) (all_zeros l) e in (eqb-true x 0 z, t)

pub zeros_are : (l : List ℕ) → all_zeros l ≡ true → l ≡ replicate (length l) 0
zeros_are [] e = refl
zeros_are (x ∷ l) e = let (z, t) = zero_first x l e in cc (zeros_are l t)

-- Each byte is zero.
pub each_zero : (l : List ℕ) → list_all (λ (byte : ℕ). eqb byte 0) l ≡ all_zeros l
unfolding all_zeros
each_zero [] = refl
each_zero (x ∷ l) = go (eqb x 0) (list_all (λ (byte : ℕ). eqb byte 0) l) (all_zeros l) (each_zero l)
  where
    go : (s t u : Bool) → t ≡ u → (s && t) ≡ (if s then u else false)
    go true t u e = e
    go false t u e = refl

-- Past the end there is none.
pub from_within : (l : List ℕ) (i : ℕ) → all_zeros (drop (min i (length l)) l) ≡ all_zeros (drop i l)
from_within l i = go (leb i (length l)) refl
  where
    go : (t : Bool) → leb i (length l) ≡ t → all_zeros (drop (min i (length l)) l) ≡ all_zeros (drop i l)
    go true t =
        let h : i ≤ length l = leb-true i (length l) t in
        let e : min i (length l) ≡ i = omega arith in
        rw e
    go false t =
        let h : length l < i = leb-false i (length l) t in
        zeros_end l (min i (length l)) (omega arith) ∙ sym (zeros_end l i (omega arith))

zeros_append : (a b : List ℕ) → all_zeros (a ++ b) ≡ (all_zeros a && all_zeros b)
unfolding all_zeros
zeros_append [] b = refl
zeros_append (x ∷ a) b = go (eqb x 0) (all_zeros a) (all_zeros b) (all_zeros (a ++ b)) (zeros_append a b)
  where
    go : (s t u w : Bool) → w ≡ (t && u) → (if s then w else false) ≡ ((if s then t else false) && u)
    go true t u w e = e
    go false t u w e = refl

-- Eight bytes as one number.
pub eight_zero : (l : List ℕ) → length l ≡ 8 → ((i : ℕ) → get_or l i 0 < 256) → eqb (from_le_bytes w64 l) 0 ≡ all_zeros l
unfolding all_zeros
eight_zero l h bytes = go (all_zeros l) refl
  where
    go : (t : Bool) → all_zeros l ≡ t → eqb (from_le_bytes w64 l) 0 ≡ t
    go true t = ap (λ (k : List ℕ). eqb (from_le_bytes w64 k) 0) (zeros_are l t ∙ ap (λ (n : ℕ). replicate n 0) h)
    go false t =
        ne_eqb (from_le_bytes w64 l) 0 (λ none. false_is_not_true (sym t ∙ ap all_zeros (sym (le_bytes_8 l 0 h bytes (sym none)))))

-- Whole eights, which the last one may overlap.
eights_zero : (k : ℕ) (l : List ℕ) → list_all all_zeros (first_chunks 8 k l) ≡ all_zeros (take (k * 8) l)
unfolding all_zeros
eights_zero zero l = refl
eights_zero (suc k) l =
    let e : suc k * 8 ≡ 8 + k * 8 = omega arith in
    rw (e, take-add 8 (k * 8) l, zeros_append (take 8 l) (take (k * 8) (drop 8 l)), eights_zero k (drop 8 l))

overlap : (a b : List ℕ) (m : ℕ) → m ≤ length a → (all_zeros a && all_zeros (drop m (a ++ b))) ≡ all_zeros (a ++ b)
overlap a b m h =
    rw (drop-append-le m a b h, zeros_append (drop m a) b, zeros_append a b)
    (go (all_zeros (take m a)) (all_zeros (drop m a)) (all_zeros b) (all_zeros a)
    (ap all_zeros (sym (take-append-drop m a)) ∙ zeros_append (take m a) (drop m a)))
  where
    go : (s t u w : Bool) → w ≡ (s && t) → (w && (t && u)) ≡ (w && u)
    go true true u w e = refl
    go true false u w e = rw e
    go false t u w e = rw e

pub eights_and_last : (l : List ℕ) → 8 ≤ length l
    → (list_all all_zeros (first_chunks 8 (length l / 8) l) && all_zeros (drop (length l - 8) l)) ≡ all_zeros l
eights_and_last l h =
    let n = length l / 8 * 8 in
    rw (eights_zero (length l / 8) l)
    (rw (take-append-drop n l) at (overlap (take n l) (drop n l) (length l - 8) (simp length-take (omega arith))))
