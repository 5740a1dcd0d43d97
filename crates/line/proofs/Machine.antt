-- The reader, which keeps 31 bytes and a count, tells what splitting the recording into whole bundles tells.
-- Assumes nothing.
use Rattle.std.specs.Prelude.{if◌then◌else◌}
use Prim.Native.Nat.{ℕ, zero, suc, ◌+◌, ◌-◌, ◌≤◌, ◌<◌, min}
use native.Mathlib.Omega.{arith}
use mathlib.Core.Path.{◌≡◌, refl, ap, ap₂}
use mathlib.Core.Logic.{◌≢◌, ◌⊎◌, inl, inr}
use mathlib.Core.Bool.{Bool, true, false}
use mathlib.Core.List.{List, [], ◌∷◌, ◌++◌, map, append_assoc}
use borrow.Author.Tests.{ltb-true, ltb-false, leb-true, leb-false}
use lib.Dec.{leb, ltb}
use lib.ListN.{length, take, drop, set, replicate, length-append, length-take, length-replicate}
use lib.Seq.{take_all, take-append_seam, drop-append_seam, take-append-le, set-append_seam, append_snoc}
use Rattle.frame.specs.Layout.{header_of, data_count}
use Rattle.frame.specs.Reading.{IsFrame, reading_of}
use Rattle.frame.proofs.Frames.{Numbered, frame_or_refused, frame_is_read}
use Rattle.frame.proofs.Rows.{read_by}
use Rattle.line.specs.Reader.{is_sound, reader, fresh, begun, joined, ended_with, answered_by, step_of, close_of, all_zeros}
use Rattle.line.specs.Telling.{Entry, after, Told, frame, said, wholly}
use Rattle.line.specs.Bundles.{ends, join, bundles, bundle_told}
use Rattle.line.specs.declared.reader.Reader.{Reader}
use Rattle.line.proofs.Zeros.{zeros_end}
use Rattle.line.proofs.Sound.{Sound, is_sound_lem}
use Rattle.line.proofs.Steps.{ended_empty, ended_too_long, ended_read, goes_on_as, step-ends, step_joins, close_ends}

-- The kept bytes of an open bundle b: its first 31, then zeros.
abbrev padded : List ℕ → List ℕ
padded b = take 31 b ++ replicate (31 - length b) 0

-- The reader in which the open bundle is b.
abbrev holds : List ℕ → Reader
holds b = reader (padded b) (min (length b) 32)

-- What a bundle tells that is not empty.
abbrev ended : List ℕ → List Told
ended [] = []
ended (c ∷ b) = bundle_told (c ∷ b) ∷ []

length-padded : (b : List ℕ) → length (padded b) ≡ 31
length-padded b = simp (length-append, length-take, length-replicate) (omega arith)

take_padded : (b : List ℕ) → length b ≤ 31 → take (length b) (padded b) ≡ b
take_padded b h = rw (take_all 31 b h, take-append_seam)

zeros_all : (n : ℕ) → all_zeros (replicate n 0) ≡ true
unfolding all_zeros
zeros_all zero = refl
zeros_all (suc n) = zeros_all n

holds_sound : (b : List ℕ) → Sound (holds b)
holds_sound b = record { counted = omega arith; zeros = go (leb (length b) 31) refl; kept_31 = length-padded b }
  where
    go : (t : Bool) → leb (length b) 31 ≡ t → all_zeros (drop (min (length b) 32) (padded b)) ≡ true
    go true t =
        let h : length b ≤ 31 = leb-true (length b) 31 t in
        let n : min (length b) 32 ≡ length b = omega arith in
        rw (n, take_all 31 b h, drop-append_seam) (zeros_all (31 - length b))
    go false t = zeros_end (padded b) (min (length b) 32) (omega (arith, length-padded b, leb-false (length b) 31 t))

-- One byte more, while there is room for it and when there is none.
padded_more : (b : List ℕ) (c : ℕ) → length b < 31 → set (padded b) (length b) c ≡ padded (b ++ c ∷ [])
padded_more b c h =
    let n : length (b ++ c ∷ []) ≡ length b + 1 = length-append b (c ∷ []) in
    let k : 31 - length b ≡ suc (30 - length b) = omega arith in
    let m : 31 - length (b ++ c ∷ []) ≡ 30 - length b = omega arith in
    rw (take_all 31 b (omega arith), k, take_all 31 (b ++ c ∷ []) (omega arith), m, append_snoc)
    (set-append_seam b 0 (replicate (30 - length b) 0) c)

padded_full : (b : List ℕ) (c : ℕ) → 31 ≤ length b → padded b ≡ padded (b ++ c ∷ [])
padded_full b c h =
    let n : length (b ++ c ∷ []) ≡ length b + 1 = length-append b (c ∷ []) in
    let k : 31 - length (b ++ c ∷ []) ≡ 31 - length b = omega arith in
    rw (take-append-le 31 b (c ∷ []) h, k)

joined_is : (b : List ℕ) (c : ℕ) → joined (holds b) c ≡ holds (b ++ c ∷ [])
joined_is b c = go (ltb (min (length b) 32) 31) refl
  where
    n : length (b ++ c ∷ []) ≡ length b + 1
    n = length-append b (c ∷ [])

    go : (t : Bool) → ltb (min (length b) 32) 31 ≡ t
        → reader (if t then set (padded b) (min (length b) 32) c else padded b) (if t then min (length b) 32 + 1 else 32) ≡ holds (b ++ c ∷ [])
    go true t =
        let h : min (length b) 32 < 31 = ltb-true (min (length b) 32) 31 t in
        let m : min (length b) 32 ≡ length b = omega arith in
        ap₂ reader (rw m (padded_more b c (omega arith))) (omega (arith, n))
    go false t =
        let h : 31 ≤ min (length b) 32 = ltb-false (min (length b) 32) 31 t in
        ap₂ reader (padded_full b c (omega arith)) (omega (arith, n))

-- The bundle that ends is told as it is told by itself.
told_same : (b : List ℕ) (next : Reader) → length b ≤ 31 → said (answered_by (reading_of b) (padded b) next) ≡ bundle_told b ∷ []
told_same b next h = go (frame_or_refused b)
  where
    go : IsFrame b ⊎ Numbered (reading_of b) → said (answered_by (reading_of b) (padded b) next) ≡ bundle_told b ∷ []
    go (inl f) =
        let n : 11 + data_count b ≡ length b = omega (arith, f.from_11_bytes) in
        rw (frame_is_read b f) (ap (λ (w : List ℕ). frame (header_of b) (data_count b) w ∷ []) (rw n (take_padded b h)))
    go (inr (q, e, l, u)) = rw e

ended_is : (b : List ℕ) (next : Reader) → said (ended_with (holds b) next) ≡ ended b
ended_is [] next = rw (ended_empty (holds []) next refl)
ended_is (c ∷ b) next = go (ltb 31 (min (length (c ∷ b)) 32)) refl
  where
    some : min (length (c ∷ b)) 32 ≢ 0
    some = omega arith

    go : (t : Bool) → ltb 31 (min (length (c ∷ b)) 32) ≡ t → said (ended_with (holds (c ∷ b)) next) ≡ bundle_told (c ∷ b) ∷ []
    go true t =
        let h : 31 < min (length (c ∷ b)) 32 = ltb-true 31 (min (length (c ∷ b)) 32) t in
        rw (ended_too_long (holds (c ∷ b)) next some h, ← read_by (c ∷ b) 1 (omega arith, omega arith))
    go false t =
        let h : min (length (c ∷ b)) 32 ≤ 31 = ltb-false 31 (min (length (c ∷ b)) 32) t in
        let m : min (length (c ∷ b)) 32 ≡ length (c ∷ b) = omega arith in
        rw (ended_read (holds (c ∷ b)) next some h, m, take_padded (c ∷ b) (omega arith)) (told_same (c ∷ b) next (omega arith))

-- The bundles of what is open and what follows.
abbrev glue : List ℕ → Bool → List (List ℕ) → List (List ℕ)
glue [] t bs = bs
glue (c ∷ b) true bs = (c ∷ b) ∷ bs
glue (c ∷ b) false [] = (c ∷ b) ∷ []
glue (c ∷ b) false (a ∷ bs) = ((c ∷ b) ++ a) ∷ bs

glue_one : (c : ℕ) (t : Bool) (bs : List (List ℕ)) → glue (c ∷ []) t bs ≡ join c t bs
glue_one c true bs = refl
glue_one c false [] = refl
glue_one c false (a ∷ bs) = refl

glue_more : (b : List ℕ) (c : ℕ) (t : Bool) (bs : List (List ℕ)) → glue (b ++ c ∷ []) t bs ≡ glue b false (join c t bs)
glue_more [] c t bs = glue_one c t bs
glue_more (a ∷ b) c true bs = refl
glue_more (a ∷ b) c false [] = refl
glue_more (a ∷ b) c false (x ∷ bs) = ap (λ (r : List ℕ). (a ∷ r) ∷ bs) (append_assoc b (c ∷ []) x)

glue_new : (b : List ℕ) (bs : List (List ℕ)) → ended b ++ map bundle_told bs ≡ map bundle_told (glue b true bs)
glue_new [] bs = refl
glue_new (a ∷ b) bs = refl

closed_is : (b : List ℕ) → said (close_of (holds b)) ≡ ended b
closed_is b = rw (close_ends (holds b) (is_sound_lem (holds b) (holds_sound b))) (ended_is b fresh)

from : (b : List ℕ) (es : List Entry) → wholly (holds b) es ≡ map bundle_told (glue b (ends es) (bundles es))
from [] [] = closed_is []
from (a ∷ b) [] = closed_is (a ∷ b)
from b (after s c ∷ es) = go (leb 30 s) refl (from (c ∷ []) es) (from (b ++ c ∷ []) es)
  where
    sound : is_sound (holds b) ≡ true
    sound = is_sound_lem (holds b) (holds_sound b)

    go : (t : Bool) → leb 30 s ≡ t → wholly (holds (c ∷ [])) es ≡ map bundle_told (glue (c ∷ []) (ends es) (bundles es))
        → wholly (holds (b ++ c ∷ [])) es ≡ map bundle_told (glue (b ++ c ∷ []) (ends es) (bundles es))
        → said (step_of (holds b) c s) ++ wholly (step_of (holds b) c s).reader es ≡ map bundle_told (glue b t (join c (ends es) (bundles es)))
    go true t p q =
        rw (
          step-ends (holds b) c s sound (leb-true 30 s t),
          ended_is b (begun c),
          goes_on_as (holds b) (begun c),
          p,
          glue_one c (ends es)
              (bundles es),
        )
        (glue_new b (join c (ends es) (bundles es)))
    go false t p q = rw (step_joins (holds b) c s sound (leb-false 30 s t), joined_is b c, q, glue_more b c (ends es) (bundles es))

pub agrees : (es : List Entry) → wholly fresh es ≡ map bundle_told (bundles es)
agrees es = from [] es
