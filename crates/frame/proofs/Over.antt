-- Bytes written over the first of a run, and over its rest.
-- Assumes nothing.
use Prim.Native.Nat.{ℕ, ◌+◌, ◌-◌, ◌≤◌, ◌<◌}
use native.Mathlib.Omega.{arith}
use native.Mathlib.Numerals.{add-one}
use mathlib.Core.Path.{◌≡◌, ◌∙◌}
use mathlib.Core.List.{List, [], ◌∷◌, ◌++◌, map, append-nil, append_assoc, map-append}
use lib.ListN.{length, get_or, take, drop, set, length-append, length-drop, length-map, length-take, drop_of_length-le}
use lib.Seq.{take-suc, length-take-le, take_all, take-append_seam, drop-append_seam, drop-cons, drop-drop, set-append_seam}
use Rattle.frame.specs.Writing.{over}

module _ (w run : List ℕ) where
  -- one byte more
  pub over_more : (v n : ℕ) → length w ≡ n → n < length run → set (over w run) n v ≡ over (w ++ v ∷ []) run
  over_more v n e h =
      rw (← e, drop-cons run (length w) 0 (omega arith), set-append_seam, length-append, append_assoc, add-one)

  -- a part of what is lent on, from the end of what is written
  pub over_on : (v : List ℕ) → length w ≤ length run → take (length w) (over w run) ++ over v (drop (length w) (over w run)) ≡ over (w ++ v) run
  over_on v h = rw (take-append_seam, drop-append_seam, length-append, append_assoc, drop-drop)

  pub length_over_at : (at : ℕ) → at + length w ≤ length run → length (take at run ++ over w (drop at run)) ≡ length run
  length_over_at at h = simp (length-append, length-take, length-drop) (omega arith)

-- A part from `at` to the end, of which the callee says what a call on a whole says.
pub lent_on : (run w part : List ℕ) (at : ℕ) → part ≡ over w (take (length run - at) (drop at run))
    → take at run ++ (part ++ drop (length run - at) (drop at run)) ≡ take at run ++ over w (drop at run)
lent_on run w part at e =
    let h : length (drop at run) ≤ length run - at = simp length-drop (omega arith) in
    rw (e, take_all (length run - at) (drop at run) h, drop_of_length-le (drop at run) h, append-nil)

-- What is written over the rest of a run that was written over already.
pub on_top : (run w v whole part : List ℕ) (at : ℕ) → length w ≡ at → at ≤ length run → whole ≡ over w run
    → part ≡ over v (take (length whole - at) (drop at whole))
    → take at whole ++ (part ++ drop (length whole - at) (drop at whole)) ≡ over (w ++ v) run
on_top run w v whole part at n h e p = lent_on whole v part at p ∙ rw (e, ← n) (over_on w run v (omega arith))

-- One byte more of the bytes that go through `f`.
pub mapped_more : (f : ℕ → ℕ) (raw run : List ℕ) (i : ℕ) → i < length raw → length raw ≤ length run
    → set (over (map f (take i raw)) run) i (f (get_or raw i 0)) ≡ over (map f (take (i + 1) raw)) run
mapped_more f raw run i h l =
    rw (add-one i, take-suc raw i 0 h, map-append f (take i raw) (get_or raw i 0 ∷ []))
    (over_more (map f (take i raw)) run (f (get_or raw i 0)) i (simp length-map (length-take-le i raw (omega arith))) (omega arith))
