-- Where a silence of 30 or more first stands, eight at a time.
-- Assumes nothing.
use Prim.Native.Nat.{ℕ, zero, suc, ◌+◌, ◌-◌, ◌*◌, ◌/◌, ◌≤◌, ◌<◌}
use native.Mathlib.Omega.{arith}
use mathlib.Core.Path.{◌≡◌, refl, ◌∙◌, sym}
use mathlib.Core.Logic.{◌⊎◌, inl, inr}
use mathlib.Core.List.{List, []}
use lib.ListN.{length, get_or, take, drop, length-drop, length-take}
use lib.Seq.{take_all, drop-drop, get_or-take, get_or-drop}
use borrow.Author.Tests.{leb-true, leb-false, ltb-false}
use lib.Dec.{leb, ltb}
use mathlib.Core.Bool.{Bool, true, false, cond}
use Rattle.std.proofs.Common.{Some, None, rules}
use Rattle.std.specs.List.{position, position_or_len}
use Rattle.std.proofs.lemmas.List.Sums.{fails_before_first}
use Rattle.std.proofs.lemmas.List.Quantifiers.{position-Some}
use Rattle.std.specs.Simd.{first_chunks}
use Rattle.std.proofs.lemmas.Bool.{cases_lt}

-- A chunk lies so many chunks on.
chunk_at : (n k : ℕ) (xs : List ℕ) (i : ℕ) → i < k → get_or (first_chunks n k xs) i [] ≡ take n (drop (i * n) xs)
chunk_at n zero xs i h = absurd (omega arith)
chunk_at n (suc k) xs zero h = let e : 0 * n ≡ 0 = grind arith in rw e
chunk_at n (suc k) xs (suc i) h =
    let e : suc i * n ≡ n + i * n = grind arith in
    rw (e, ← drop-drop (i * n) n xs) (chunk_at n k (drop n xs) i (omega arith))

-- Where the first is, and that there is none.
module _ (part : List ℕ) where
  some_is : (found : ℕ) → Some found ≡ position (leb 30) part → (found < length part) × ((k : ℕ) → k < found → get_or part k 0 < 30) × (30 ≤ get_or part found 0)
  some_is found e =
      let (within, loud, before) = position-Some (leb 30) part found 0 (sym e) in
      (within, λ k h. leb-false 30 (get_or part k 0) (before k h), leb-true 30 (get_or part found 0) loud)

  none_is : None ≡ position (leb 30) part → (k : ℕ) → k < length part → get_or part k 0 < 30
  none_is e k h = leb-false 30 (get_or part k 0) (fails_before_first (leb 30) part k 0 (go (ltb (position_or_len (leb 30) part) (length part)) refl e))
    where
      go : (t : Bool) → ltb (position_or_len (leb 30) part) (length part) ≡ t → None ≡ cond t (Some (position_or_len (leb 30) part)) None
          → k < position_or_len (leb 30) part
      go true t n = absurd (search rules)
      go false t n = omega (arith, ltb-false (position_or_len (leb 30) part) (length part) t)

abbrev Quiet : List ℕ → (from end : ℕ) → Type 0
Quiet silences from end = (k : ℕ) → from ≤ k → k < end → get_or silences k 0 < 30

-- What the answer says of the silences from a place on.
pub record Ends (silences : List ℕ) (from end : ℕ) : Type 0 where
  pub forward : from ≤ end
  pub within : end ≤ length silences
  pub quiet : Quiet silences from end
  pub loud : end < length silences → 30 ≤ get_or silences end 0

module _ (silences : List ℕ) (from : ℕ) where
  abbrev rest : List ℕ
  rest = take (length silences - from) (drop from silences)

  rest_is : rest ≡ drop from silences
  rest_is = take_all (length silences - from) (drop from silences) (simp length-drop (omega arith))

  length_rest : length rest ≡ length silences - from
  length_rest = simp (length-take, length-drop) (omega arith)

  on : (passed k : ℕ) → get_or (drop passed rest) k 0 ≡ get_or silences (from + passed + k) 0
  on passed k =
      let e : from + (passed + k) ≡ from + passed + k = omega arith in
      rw (rest_is, get_or-drop passed (drop from silences) k 0, get_or-drop from silences (passed + k) 0, e)

  -- A part of them that begins behind those passed.
  module _ (part : List ℕ) (passed : ℕ) (same : (k : ℕ) → k < length part → get_or part k 0 ≡ get_or silences (from + passed + k) 0)
      (quiet : Quiet silences from (from + passed)) where
    quiet_on : (n : ℕ) → n ≤ length part → ((k : ℕ) → k < n → get_or part k 0 < 30) → Quiet silences from (from + passed + n)
    quiet_on n within before k h l = go (cases_lt k (from + passed))
      where
        go : (k < from + passed) ⊎ (from + passed ≤ k) → get_or silences k 0 < 30
        go (inl b) = quiet k h b
        go (inr b) =
            let i = k - (from + passed) in
            let e : from + passed + i ≡ k = omega arith in
            let low : get_or silences (from + passed + i) 0 < 30 = rw (← same i (omega arith)) (before i (omega arith)) in
            rw e at low

    ends_at : (found : ℕ) → from + passed + length part ≤ length silences → Some found ≡ position (leb 30) part
        → Ends silences from (from + passed + found)
    ends_at found fits e =
        let (within, before, loud) = some_is part found e in
        record {
          forward = omega arith;
          within = omega arith;
          quiet = quiet_on found (omega arith) before;
          loud = λ h. rw (← same found within) loud;
        }

  -- Eight of them, behind the eights passed.
  module _ (eights : List (List ℕ)) (passed : ℕ) (cut : eights ≡ first_chunks 8 (length rest / 8) rest) (more : passed < length rest / 8)
      (quiet : Quiet silences from (from + passed * 8)) where
    eight_is : get_or eights passed [] ≡ take 8 (drop (passed * 8) rest)
    eight_is = rw cut (chunk_at 8 (length rest / 8) rest passed more)

    length_eight : length (get_or eights passed []) ≡ 8
    length_eight = rw eight_is (omega (arith, length-take 8 (drop (passed * 8) rest), length-drop (passed * 8) rest, more))

    same_eight : (k : ℕ) → k < length (get_or eights passed []) → get_or (get_or eights passed []) k 0 ≡ get_or silences (from + passed * 8 + k) 0
    same_eight k h = rw eight_is (get_or-take 8 (drop (passed * 8) rest) k 0 (omega (arith, length_eight)) ∙ on (passed * 8) k)

    pub ends_in_eight : (found : ℕ) → Some found ≡ position (leb 30) (get_or eights passed []) → Ends silences from (from + passed * 8 + found)
    ends_in_eight found = ends_at (get_or eights passed []) (passed * 8) same_eight quiet found (omega (arith, length_eight, length_rest))

    pub none_in_eight : None ≡ position (leb 30) (get_or eights passed []) → Quiet silences from (from + (passed + 1) * 8)
    none_in_eight e k b l = quiet_on (get_or eights passed []) (passed * 8) same_eight quiet 8 (omega (arith, length_eight))
        (λ i h. none_is (get_or eights passed []) e i (omega (arith, length_eight))) k b (omega arith)

  -- Those behind the last eight.
  module _ (last : List ℕ) (turns passed : ℕ) (place : from ≤ length silences) (whole : turns ≡ length rest / 8) (behind : last ≡ drop (length rest / 8 * 8) rest)
      (done : turns ≤ passed) (most : passed ≤ turns) (quiet : Quiet silences from (from + passed * 8)) where
    last_is : last ≡ drop (turns * 8) rest
    last_is = rw whole behind

    length_last : length last ≡ length rest - turns * 8
    length_last = rw last_is (length-drop (turns * 8) rest)

    quiet_before : Quiet silences from (from + turns * 8)
    quiet_before = let all : passed ≡ turns = omega arith in rw all at quiet

    pub ends_behind : (found : ℕ) → Some found ≡ position (leb 30) last → Ends silences from (from + turns * 8 + found)
    ends_behind found = ends_at last (turns * 8) (λ k h. rw last_is (on (turns * 8) k)) quiet_before found (omega (arith, length_last, length_rest))

    pub none_behind : None ≡ position (leb 30) last → Ends silences from (length silences)
    none_behind e =
        let end : from + turns * 8 + length last ≡ length silences = omega (arith, length_last, length_rest) in
        let all = quiet_on last (turns * 8) (λ k h. rw last_is (on (turns * 8) k)) quiet_before (length last) (omega arith) (none_is last e) in
        record { forward = place; within = omega arith; quiet = rw end at all; loud = λ h. absurd (omega arith) }
