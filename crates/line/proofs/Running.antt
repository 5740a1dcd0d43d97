-- A run is single steps: one step more, the step that ends it, its end.
-- Assumes nothing.
use Prim.Native.Nat.{ℕ, zero, suc, ◌+◌, ◌-◌, ◌≤◌, ◌<◌}
use native.Mathlib.Omega.{arith}
use native.Mathlib.Numerals.{add-one}
use mathlib.Core.Path.{◌≡◌, refl, ◌∙◌}
use mathlib.Core.Logic.{◌≢◌, ◌⊎◌, inl, inr}
use mathlib.Core.Bool.{Bool, true, false}
use mathlib.Core.List.{List, ◌∷◌, foldl}
use borrow.Author.Tests.{ltb-true, ltb-false}
use lib.Dec.{ltb}
use lib.ListN.{length, get_or, take, drop, drop_of_length-le}
use lib.Seq.{drop-cons}
use Rattle.frame.specs.Reading.{reading_of, Reading}
use Rattle.line.specs.Reader.{joined, stepped, ran, goes_on, answered_by, ended_with, step_of, run_of, no_bytes}
use Rattle.line.specs.declared.reader.Reader.{Reader}
use Rattle.line.specs.declared.reader.Stepped.{Stepped}
use Rattle.line.proofs.Joining.{joined_open, stays_open}
use Rattle.line.proofs.Sound.{Sound, goes_on_lem, sound_joined}
use Rattle.line.proofs.Steps.{ended_too_long, ended_read}
use Rattle.std.specs.Prelude.{Ok, Err, None}

-- A bundle that is not empty is answered when it ends.
answered : (q : Reading) (kept : List ℕ) (next : Reader) → goes_on (answered_by q kept next).answer ≡ false
answered (Ok (h, n)) kept next = refl
answered (Err r) kept next = refl

pub ended_stops : (r next : Reader) → r.count ≢ 0 → goes_on (ended_with r next).answer ≡ false
ended_stops r next n = go (ltb 31 r.count) refl
  where
    go : (t : Bool) → ltb 31 r.count ≡ t → goes_on (ended_with r next).answer ≡ false
    go true t = rw (ended_too_long r next n (ltb-true 31 r.count t))
    go false t = rw (ended_read r next n (ltb-false 31 r.count t)) (answered (reading_of (take r.count r.kept)) r.kept next)

module _ (r : Reader) (bytes silences : List ℕ) (i : ℕ) where
  pub one_more : (next : Reader) → i < length bytes → length bytes ≡ length silences
      → step_of r (get_or bytes i 0) (get_or silences i 0) ≡ stepped next (Ok None) no_bytes
      → run_of r (drop i bytes) (drop i silences) i ≡ run_of next (drop (i + 1) bytes) (drop (i + 1) silences) (i + 1)
  unfolding run_of
  one_more next h n e = rw (drop-cons bytes i 0 h, drop-cons silences i 0 (omega arith), add-one, e)

  pub last_one : (s : Stepped) → i < length bytes → length bytes ≡ length silences
      → step_of r (get_or bytes i 0) (get_or silences i 0) ≡ s → goes_on s.answer ≡ false
      → run_of r (drop i bytes) (drop i silences) i ≡ ran s (i + 1)
  unfolding run_of
  last_one s h n e g = rw (drop-cons bytes i 0 h, drop-cons silences i 0 (omega arith), add-one, e, g)

  pub at-end : length bytes ≤ i → run_of r (drop i bytes) (drop i silences) i ≡ ran (stepped r (Ok None) no_bytes) i
  unfolding run_of
  at-end h = rw (drop_of_length-le bytes h)

-- Bytes behind silences below 30 all join; so does the first of a bundle, behind any silence.
module _ (bytes silences : List ℕ) (alike : length bytes ≡ length silences) where
  joins : (r : Reader) (i : ℕ) → Sound r → i < length bytes → (r.count ≡ 0) ⊎ (get_or silences i 0 < 30)
      → run_of r (drop i bytes) (drop i silences) i ≡ run_of (joined r (get_or bytes i 0)) (drop (i + 1) bytes) (drop (i + 1) silences) (i + 1)
  joins r i s h w = one_more r bytes silences i (joined r (get_or bytes i 0)) h alike (goes_on_lem r (get_or bytes i 0) (get_or silences i 0) s w)

  pub all_join : (n : ℕ) (r : Reader) (i : ℕ) → Sound r → i + n ≤ length bytes → ((k : ℕ) → i ≤ k → k < i + n → get_or silences k 0 < 30)
      → run_of r (drop i bytes) (drop i silences) i
      ≡ run_of (foldl joined r (take n (drop i bytes))) (drop (i + n) bytes) (drop (i + n) silences) (i + n)
  all_join zero r i s h q = let e : i + 0 ≡ i = omega arith in rw e
  all_join (suc n) r i s h q =
      let byte = get_or bytes i 0 in
      let e : i + suc n ≡ i + 1 + n = omega arith in
      joins r i s (omega arith) (inr (q i (omega arith) (omega arith)))
      ∙ all_join n (joined r byte) (i + 1) (sound_joined r byte s) (omega arith) (λ k a b. q k (omega arith) (omega arith))
      ∙ rw (e, drop-cons bytes i 0 (omega arith), ← add-one i)

  -- The first byte that can end the bundle is the one here, or the next where no bundle is open.
  abbrev pub First : Reader → ℕ → ℕ → Type 0
  First r i from = ((from ≡ i) × ((r.count ≢ 0) ⊎ (i ≡ length silences))) ⊎ ((from ≡ i + 1) × (r.count ≡ 0))

  first_apart : (i j : ℕ) → i < j → j ≤ length bytes → take (j - i) (drop i bytes) ≡ get_or bytes i 0 ∷ take (j - (i + 1)) (drop (i + 1) bytes)
  first_apart i j h k = let e : j - i ≡ suc (j - (i + 1)) = omega arith in rw (e, drop-cons bytes i 0 (omega arith), ← add-one i)

  module _ (r : Reader) (i from j : ℕ) (back : from ≤ j) (within : j ≤ length bytes) where
    pub to_end : Sound r → First r i from → ((k : ℕ) → from ≤ k → k < j → get_or silences k 0 < 30)
        → run_of r (drop i bytes) (drop i silences) i ≡ run_of (foldl joined r (take (j - i) (drop i bytes))) (drop j bytes) (drop j silences) j
    to_end s (inl (e, w)) q =
        let f : i + (j - i) ≡ j = omega arith in
        rw f at (all_join (j - i) r i s (omega arith) (λ k a b. q k (omega arith) (omega arith)))
    to_end s (inr (e, z)) q =
        let byte = get_or bytes i 0 in
        let f : i + 1 + (j - (i + 1)) ≡ j = omega arith in
        joins r i s (omega arith) (inl z)
        ∙ rw f at (all_join (j - (i + 1)) (joined r byte) (i + 1) (sound_joined r byte s) (omega arith) (λ k a b. q k (omega arith) (omega arith)))
        ∙ rw (first_apart i j (omega arith) within)

    pub open_there : First r i from → j < length bytes → (foldl joined r (take (j - i) (drop i bytes))).count ≢ 0
    open_there (inl (e, inl n)) h = stays_open r (take (j - i) (drop i bytes)) n
    open_there (inl (e, inr m)) h = absurd (omega arith)
    open_there (inr (e, z)) h =
        let byte = get_or bytes i 0 in
        rw (first_apart i j (omega arith) within) (stays_open (joined r byte) (take (j - (i + 1)) (drop (i + 1) bytes)) (joined_open r byte))
