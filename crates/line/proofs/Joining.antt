-- Many bytes join the open bundle: one by one while there is room, and then none is kept.
-- Assumes nothing.
use Rattle.std.specs.Prelude.{if◌then◌else◌}
use Prim.Native.Nat.{ℕ, zero, suc, ◌+◌, ◌-◌, ◌≤◌, ◌<◌, min}
use native.Mathlib.Omega.{arith}
use native.Mathlib.Numerals.{add-one}
use native.Mathlib.Nat.{add-zero}
use mathlib.Core.Path.{◌≡◌, refl, ◌∙◌, sym, ap}
use mathlib.Core.Logic.{◌≢◌}
use mathlib.Core.Bool.{Bool, true, false}
use mathlib.Core.List.{List, [], ◌∷◌, append_assoc, foldl, foldl-append}
use borrow.Author.Tests.{lt-ltb, le-ltb}
use lib.Dec.{ltb}
use lib.ListN.{length, get_or, take, drop, set, length-drop, take-append-drop}
use borrow.Rule.Slice.PartMut.{put_mid}
use lib.Seq.{take-suc, drop-drop, paste, paste-zero, paste-suc}
use Rattle.line.specs.Reader.{reader, joined}
use Rattle.line.specs.declared.reader.Reader.{Reader}

-- The next byte of a part is laid behind those before it.
pub one_laid : (r : Reader) (part kept : List ℕ) (at i : ℕ) → i < length part → at + i < 31 → reader kept (at + i) ≡ foldl joined r (take i part)
    → reader (set kept (at + i) (get_or part i 0)) (at + (i + 1)) ≡ foldl joined r (take (i + 1) part)
one_laid r part kept at i h room e =
    let byte = get_or part i 0 in
    let further : at + (i + 1) ≡ at + i + 1 = omega arith in
    let laid : joined (reader kept (at + i)) byte ≡ reader (set kept (at + i) byte) (at + i + 1) = rw (lt-ltb (at + i) 31 room) in
    rw (further, add-one i, take-suc part i 0 h, foldl-append joined r (take i part) (byte ∷ []), ← e) (sym laid)

-- So many of a part's first bytes, for which there is room.
pub laid_so_far : (kept part : List ℕ) (count n : ℕ) → length kept ≡ 31 → n ≤ length part → n ≤ 31 - min count 31
    → reader (paste kept (min count 31) part n) (count + n) ≡ foldl joined (reader kept count) (take n part)
laid_so_far kept part count zero l h r = rw (← paste-zero kept (min count 31) part, add-zero)
laid_so_far kept part count (suc n) l h r =
    let e : min count 31 ≡ count = omega arith in
    rw (e, ← paste-suc kept count part n 0 (omega arith) (omega arith), ← add-one n)
    (one_laid (reader kept count) part (paste kept count part n) count n (omega arith) (omega arith)
    (rw e at (laid_so_far kept part count n l (omega arith) (omega arith))))

pub laid_over : (kept part new : List ℕ) (count place n k : ℕ) → length kept ≡ 31 → place ≡ min count 31 → k ≡ n → n ≤ length part → n ≤ 31 - place
    → new ≡ take n part → reader (put_mid place k kept new) (count + n) ≡ foldl joined (reader kept count) (take n part)
laid_over kept part new count place n k l p s h r e =
    rw (e, s, p, drop-drop n (min count 31) kept, ← append_assoc (take (min count 31) kept) (take n part) (drop (min count 31 + n) kept)) (laid_so_far kept part count n l h (omega arith))

-- From 31 bytes on the bundle is too long, and stays so.
full : (kept part : List ℕ) → foldl joined (reader kept 32) part ≡ reader kept 32
full kept [] = refl
full kept (byte ∷ part) = full kept part

too_long : (r : Reader) (part : List ℕ) → 31 ≤ r.count → 0 < length part → foldl joined r part ≡ reader r.kept 32
too_long r [] h k = absurd (omega arith)
too_long r (byte ∷ part) h k = let e : joined r byte ≡ reader r.kept 32 = rw (le-ltb r.count 31 h) in rw e (full r.kept part)

pub more_than_room : (r : Reader) (part kept : List ℕ) (at n : ℕ) → 31 ≤ at → n < length part → reader kept at ≡ foldl joined r (take n part)
    → reader kept 32 ≡ foldl joined r part
more_than_room r part kept at n h k e =
    sym (too_long (reader kept at) (drop n part) h (simp length-drop (omega arith)))
    ∙ ap (λ (q : Reader). foldl joined q (drop n part)) e
    ∙ sym (foldl-append joined r (take n part) (drop n part))
    ∙ ap (foldl joined r) (take-append-drop n part)

-- A bundle that a byte has joined is open, and an open one stays so.
pub joined_open : (r : Reader) (byte : ℕ) → (joined r byte).count ≢ 0
joined_open r byte = go (ltb r.count 31)
  where
    go : (t : Bool) → (if t then r.count + 1 else 32) ≢ 0
    go true = λ e. omega arith
    go false = λ e. omega arith

pub stays_open : (r : Reader) (part : List ℕ) → r.count ≢ 0 → (foldl joined r part).count ≢ 0
stays_open r [] n = n
stays_open r (byte ∷ part) n = stays_open (joined r byte) part (joined_open r byte)
