-- The first bytes of a list: how many they are, each of them, and all of a list that has no more.
-- Assumes nothing.
use Prim.Native.Nat.{ℕ, zero, suc, ◌+◌, ◌≤◌, ◌<◌}
use native.Mathlib.Nat.{eq-or-lt_of_le, le_of_suc-le-suc}
use native.Mathlib.Numerals.{add-one}
use native.Mathlib.Omega.{arith}
use mathlib.Core.Path.{◌≡◌, refl, sym, ap, ◌∙◌, subst}
use mathlib.Core.Logic.{⊎_elim}
use mathlib.Core.List.{List, [], ◌∷◌, ◌++◌}
use lib.ListN.{length, get_or, take, set, length-append}
use lib.Seq.{take-suc, take-suc-set, take_all, get_or_at}
use Rattle.meaning.specs.Bytes.{Bytes}
use Rattle.meaning.specs.Lists.{get_d_front}
use Rattle.messages.specs.Fields.{byte_at}
use Rattle.messages.specs.Identity.{first_of}

pub so_many : (count : ℕ) (l : List ℕ) → length (first_of count l) ≡ count
unfolding first_of
so_many zero l = refl
so_many (suc count) l =
    let e = so_many count l in
    length-append (first_of count l) (byte_at l count ∷ []) ∙ omega arith

module _ (count : ℕ) (l : List ℕ) (i : ℕ) where
  last_of_them : i ≡ count → get_or (first_of (suc count) l) i 0 ≡ byte_at l i
  unfolding first_of
  last_of_them e = rw e (get_or_at (first_of count l) (byte_at l count) [] 0 count (so_many count l))

  one_before : i < count → get_or (first_of (suc count) l) i 0 ≡ get_or (first_of count l) i 0
  unfolding first_of
  one_before h = get_d_front (first_of count l) (byte_at l count ∷ []) i 0 (omega (arith, so_many count l))

pub each_of_them : (count : ℕ) (l : List ℕ) (i : ℕ) → i < count → get_or (first_of count l) i 0 ≡ byte_at l i
each_of_them zero l i h = absurd (omega arith)
each_of_them (suc count) l i h =
    ⊎_elim (last_of_them count l i) (λ k. one_before count l i k ∙ each_of_them count l i k) (eq-or-lt_of_le (le_of_suc-le-suc h))

pub bytes_of_bytes : (count : ℕ) (l : List ℕ) → ((i : ℕ) → i < count → byte_at l i < 256) → Bytes (first_of count l)
bytes_of_bytes count l b i h =
    let k : i < count = omega (arith, so_many count l) in
    subst (λ (x : ℕ). x < 256) (sym (each_of_them count l i k)) (b i k)

pub front : (count : ℕ) (l : List ℕ) → count ≤ length l → first_of count l ≡ take count l
unfolding first_of
front zero l h = refl
front (suc count) l h = ap (λ (x : List ℕ). x ++ (byte_at l count ∷ [])) (front count l (omega arith)) ∙ sym (take-suc l count 0 h)

pub the_whole : (count : ℕ) (l : List ℕ) → length l ≡ count → first_of count l ≡ l
the_whole count l e = front count l (omega arith) ∙ take_all count l (omega arith)

-- A loop that lays them one by one.
pub one_more : (l laid : List ℕ) (count x : ℕ) → count < length laid → x ≡ byte_at l count → take count laid ≡ first_of count l
    → take (count + 1) (set laid count x) ≡ first_of (count + 1) l
unfolding first_of
one_more l laid count x h e t = rw (add-one, take-suc-set laid count x h, t, e)
