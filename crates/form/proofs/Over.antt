-- Bytes written over those from a place on: how long it leaves the buffer, behind a part, in front of one, and behind what is written.
-- Assumes nothing.
use Prim.Native.Nat.{ℕ, ◌+◌, ◌≤◌}
use native.Mathlib.Omega.{arith}
use mathlib.Core.Path.{◌≡◌}
use mathlib.Core.List.{List, ◌++◌, append_assoc}
use lib.ListN.{length, take, drop, length-drop}
use lib.Seq.{take_all, take-append-le, drop-append-le, take-append-add, drop-append-add, drop-drop, paste}
use Rattle.frame.specs.Writing.{over}
use Rattle.frame.proofs.Over.{over_on, length_over_at}
use Rattle.form.specs.Writing.{over_from}

-- A copy that is through.
pub pasted_all : (buffer : List ℕ) (at : ℕ) (bytes : List ℕ) (n : ℕ) → n ≤ length bytes → length bytes ≤ n
    → paste buffer at bytes n ≡ over_from at bytes buffer
pasted_all buffer at bytes n h h' =
    let e : n ≡ length bytes = omega arith in
    rw (take_all n bytes h', e, append_assoc, drop-drop (length bytes) at buffer)

pub length_kept : (at : ℕ) (w buffer : List ℕ) → at + length w ≤ length buffer → length (over_from at w buffer) ≡ length buffer
length_kept at w buffer h = length_over_at w buffer at h

-- Behind a part.
pub over_behind : (p d w : List ℕ) (at : ℕ) → over_from (length p + at) w (p ++ d) ≡ p ++ over_from at w d
over_behind p d w at = rw (take-append-add p d at, drop-append-add p d at) (append_assoc p (take at d) (over w (drop at d)))

-- In front of a part.
pub over_before : (c d w : List ℕ) (at : ℕ) → at + length w ≤ length c → over_from at w (c ++ d) ≡ over_from at w c ++ d
over_before c d w at h =
    let room : length w ≤ length (drop at c) = simp length-drop (omega arith) in
    rw (take-append-le at c d (omega arith), drop-append-le at c d (omega arith), drop-append-le (length w) (drop at c) d room)
    (simp append_assoc)

-- Behind what is written already.
pub over_next : (w v run : List ℕ) (at : ℕ) → length w ≡ at → at ≤ length run → over_from at v (over w run) ≡ over (w ++ v) run
over_next w v run at e h = rw (← e) (over_on w run v (omega arith))
