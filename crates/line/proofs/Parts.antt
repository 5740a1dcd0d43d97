-- A recording cut anywhere and continued tells what the whole tells; a silence of 30 or more makes the reader as good as fresh.
-- Assumes nothing.
use Prim.Native.Nat.{ℕ, ◌≤◌}
use mathlib.Core.Path.{◌≡◌, refl, ◌∙◌, sym, ap}
use mathlib.Core.List.{List, [], ◌∷◌, ◌++◌, append_assoc, append-nil}
use Rattle.line.specs.Reader.{fresh, begun, step_of, close_of}
use Rattle.line.specs.Telling.{Entry, after, Told, said, telling, reader_after, wholly}
use Rattle.line.specs.declared.reader.Reader.{Reader}
use Rattle.line.proofs.Sound.{Sound, is_sound_lem, fresh_sound, sound_after}
use Rattle.line.proofs.Steps.{ended_empty, goes_on_as, told_alike, step-ends, close_ends}

pub reader_continued : (r : Reader) (es fs : List Entry) → reader_after r (es ++ fs) ≡ reader_after (reader_after r es) fs
reader_continued r [] fs = refl
reader_continued r (after s b ∷ es) fs = reader_continued (step_of r b s).reader es fs

pub telling_continued : (r : Reader) (es fs : List Entry) → telling r (es ++ fs) ≡ telling r es ++ telling (reader_after r es) fs
telling_continued r [] fs = refl
telling_continued r (after s b ∷ es) fs =
    let t = step_of r b s in
    ap (λ (xs : List Told). said t ++ xs) (telling_continued t.reader es fs) ∙ sym
    (append_assoc (said t) (telling t.reader es) (telling (reader_after t.reader es) fs))

pub wholly_continued : (r : Reader) (es fs : List Entry) → wholly r (es ++ fs) ≡ telling r es ++ wholly (reader_after r es) fs
wholly_continued r [] fs = refl
wholly_continued r (after s b ∷ es) fs =
    let t = step_of r b s in
    ap (λ (xs : List Told). said t ++ xs) (wholly_continued t.reader es fs) ∙ sym
    (append_assoc (said t) (telling t.reader es) (wholly (reader_after t.reader es) fs))

-- All that is told of a whole recording is what its steps tell, and then the close.
pub steps_and_close : (r : Reader) (es : List Entry) → wholly r es ≡ telling r es ++ said (close_of (reader_after r es))
steps_and_close r es = rw append-nil at (wholly_continued r es [])

-- Whatever the reader has heard: at a silence of 30 or more it tells of what was open as a close would, and of what follows as a fresh reader.
pub recovers : (r : Reader) → Sound r → (s b : ℕ) (fs : List Entry) → 30 ≤ s
    → wholly r (after s b ∷ fs) ≡ said (close_of r) ++ wholly fresh (after s b ∷ fs)
recovers r o s b fs h =
    rw (
      step-ends r b s (is_sound_lem r o) h,
      goes_on_as r (begun b),
      told_alike r (begun b) fresh,
      close_ends r (is_sound_lem r o),
      step-ends fresh b s (is_sound_lem fresh fresh_sound) h,
      ended_empty fresh (begun b) refl,
    )

pub recovered_by_a_silence : (es : List Entry) (s b : ℕ) (fs : List Entry) → 30 ≤ s
    → wholly fresh (es ++ after s b ∷ fs) ≡ wholly fresh es ++ wholly fresh (after s b ∷ fs)
recovered_by_a_silence es s b fs h =
    let r = reader_after fresh es in
    let gs = after s b ∷ fs in
    wholly_continued fresh es gs
    ∙ ap (λ (xs : List Told). telling fresh es ++ xs) (recovers r (sound_after fresh es fresh_sound) s b fs h)
    ∙ sym (append_assoc (telling fresh es) (said (close_of r)) (wholly fresh gs))
    ∙ ap (λ (xs : List Told). xs ++ wholly fresh gs) (sym (steps_and_close fresh es))
