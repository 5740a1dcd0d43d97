-- A sound reader stays sound, and with no bundle open it is the fresh one.
-- Assumes nothing.
use Rattle.std.specs.Prelude.{if◌then◌else◌, Ok, None}
use Prim.Native.Nat.{ℕ, ◌+◌, ◌≤◌, ◌<◌}
use native.Mathlib.Omega.{arith}
use native.Mathlib.Numerals.{add-one}
use mathlib.Core.Path.{◌≡◌, refl, ◌∙◌}
use mathlib.Core.Logic.{◌⊎◌, inl, inr}
use mathlib.Core.Bool.{Bool, true, false}
use mathlib.Core.List.{List, [], ◌∷◌, foldl}
use borrow.Author.Tests.{leb-true, leb-false, le-leb, ltb-true}
use lib.Dec.{leb, ltb}
use lib.ListN.{length, drop, set, length-set}
use lib.Seq.{drop-cons, drop-set-lt}
use Rattle.line.specs.Telling.{Entry, after, reader_after}
use Rattle.line.specs.Reader.{fresh, reader, begun, no_bytes, all_zeros, is_sound, joined, stepped, step_of}
use Rattle.line.specs.declared.reader.Reader.{Reader}
use Rattle.line.proofs.Zeros.{zeros_end, both, zero_first, zeros_are}
use Rattle.line.proofs.Steps.{ended_empty, goes_on_as, step-ends, step_joins}

-- Row 9 as facts, and the length of the kept bytes, which the type says.
pub record Sound (r : Reader) : Type 0 where
  pub counted : r.count ≤ 32
  pub zeros : all_zeros (drop r.count r.kept) ≡ true
  pub kept_31 : length r.kept ≡ 31

pub sound_facts : (r : Reader) → length r.kept ≡ 31 → is_sound r ≡ true → Sound r
sound_facts r n e =
    let (c, z) = both (leb r.count 32) (all_zeros (drop r.count r.kept)) e in
    record { counted = leb-true r.count 32 c; zeros = z; kept_31 = n }

pub is_sound_lem : (r : Reader) → Sound r → is_sound r ≡ true
is_sound_lem r s = rw (le-leb r.count 32 s.counted) s.zeros

-- A list of zeros is so many zeros, and its rest is a list of zeros.
zeros_later : (l : List ℕ) (i : ℕ) → i < length l → all_zeros (drop i l) ≡ true → all_zeros (drop (i + 1) l) ≡ true
zeros_later l i h e = rw add-one (zero_first _ _ (rw (drop-cons l i 0 h) at e)).1

-- A byte joins.
pub sound_joined : (r : Reader) (byte : ℕ) → Sound r → Sound (joined r byte)
sound_joined r byte s = go (ltb r.count 31) refl
  where
    go : (t : Bool) → ltb r.count 31 ≡ t → Sound (reader (if t then set r.kept r.count byte else r.kept) (if t then r.count + 1 else 32))
    go true t =
        let h : r.count < 31 = ltb-true r.count 31 t in
        let n = s.kept_31 in
        record {
          counted = omega arith;
          zeros = rw (drop-set-lt (r.count + 1) r.kept r.count byte (omega arith)) (zeros_later r.kept r.count (omega arith) s.zeros);
          kept_31 = simp length-set n;
        }
    go false t = let n = s.kept_31 in record { counted = omega arith; zeros = zeros_end r.kept 32 (omega arith); kept_31 = n }

pub sound_all : (r : Reader) (part : List ℕ) → Sound r → Sound (foldl joined r part)
sound_all r [] s = s
sound_all r (byte ∷ part) s = sound_all (joined r byte) part (sound_joined r byte s)

-- With no bundle open a byte begins one, whatever the silence before it.
first_joins : (r : Reader) (byte : ℕ) → Sound r → r.count ≡ 0 → joined r byte ≡ begun byte
first_joins r byte s e =
    let z : r.kept ≡ no_bytes = zeros_are r.kept (rw e at s.zeros) ∙ rw s.kept_31 in
    rw (e, z)

pub goes_on_lem : (r : Reader) (byte silence : ℕ) → Sound r → (r.count ≡ 0) ⊎ (silence < 30)
    → step_of r byte silence ≡ stepped (joined r byte) (Ok None) no_bytes
goes_on_lem r byte silence s (inr h) = step_joins r byte silence (is_sound_lem r s) h
goes_on_lem r byte silence s (inl e) = go (leb 30 silence) refl
  where
    go : (t : Bool) → leb 30 silence ≡ t → step_of r byte silence ≡ stepped (joined r byte) (Ok None) no_bytes
    go true t = step-ends r byte silence (is_sound_lem r s) (leb-true 30 silence t) ∙ ended_empty r (begun byte) e ∙ rw (first_joins r byte s e)
    go false t = step_joins r byte silence (is_sound_lem r s) (leb-false 30 silence t)

begun_sound : (byte : ℕ) → Sound (begun byte)
unfolding all_zeros
begun_sound byte = record { counted = omega arith; zeros = refl; kept_31 = refl }

pub fresh_sound : Sound fresh
unfolding all_zeros
fresh_sound = record { counted = omega arith; zeros = refl; kept_31 = refl }

-- After any step, and after any recording, a sound reader is sound: it never refuses its own state.
pub sound_step : (r : Reader) (byte silence : ℕ) → Sound r → Sound (step_of r byte silence).reader
sound_step r byte silence s = go (leb 30 silence) refl
  where
    go : (t : Bool) → leb 30 silence ≡ t → Sound (step_of r byte silence).reader
    go true t = rw (step-ends r byte silence (is_sound_lem r s) (leb-true 30 silence t), goes_on_as r (begun byte)) (begun_sound byte)
    go false t = rw (step_joins r byte silence (is_sound_lem r s) (leb-false 30 silence t)) (sound_joined r byte s)

pub sound_after : (r : Reader) (es : List Entry) → Sound r → Sound (reader_after r es)
sound_after r [] s = s
sound_after r (after silence byte ∷ es) s = sound_after (step_of r byte silence).reader es (sound_step r byte silence s)

pub never_broken : (es : List Entry) → is_sound (reader_after fresh es) ≡ true
never_broken es = is_sound_lem (reader_after fresh es) (sound_after fresh es fresh_sound)
