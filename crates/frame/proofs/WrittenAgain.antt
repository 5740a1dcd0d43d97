-- A frame written again gives its own bytes.
-- Assumes nothing.
use Prim.Native.Nat.{ℕ, zero, suc, ◌+◌, ◌-◌, ◌*◌, ◌/◌, ◌%◌, ◌≤◌, ◌<◌}
use native.Mathlib.Omega.{arith}
use native.Mathlib.Nat.{add-zero, add-suc, suc-add}
use mathlib.Core.Path.{◌≡◌, refl, ◌∙◌, ap, ap₂}
use mathlib.Core.Bool.{Bool, true, false}
use mathlib.Core.List.{List, [], ◌∷◌, ◌++◌, map}
use borrow.Author.Tests.{leb-true, leb-false}
use lib.Dec.{leb}
use lib.ListN.{length, get_or, take, drop, take-append-drop, drop_of_length-le}
use lib.Seq.{drop-cons, take_at, take-add}
use Rattle.meaning.specs.Bytes.{Bytes, take_bytes, drop_bytes}
use Rattle.frame.specs.Layout.{inverted, raw_at, summed, header_of, data_of, data_count}
use Rattle.frame.specs.Reading.{IsFrame}
use Rattle.frame.specs.Writing.{raw_header, ack_length, frame_of, sealed}
use Rattle.frame.proofs.Addresses.{low_byte, middle_byte, high_byte}
use Rattle.frame.proofs.Content.{length_data}
use Rattle.frame.proofs.ReadBack.{twice_inverted, twice_inverted_all}

-- The elements of a list from a place on, one by one.
abbrev each : List ℕ → ℕ → ℕ → List ℕ
each l i zero = []
each l i (suc n) = get_or l i 0 ∷ each l (suc i) n

one_by_one : (l : List ℕ) (i n : ℕ) → i + n ≤ length l → drop i l ≡ each l i n ++ drop (i + n) l
one_by_one l i zero h = rw add-zero
one_by_one l i (suc n) h =
    drop-cons l i 0 (omega arith) ∙ ap (λ (r : List ℕ). get_or l i 0 ∷ r) (rw (add-suc, ← suc-add) (one_by_one l (suc i) n (omega arith)))

-- The second byte is ACK and the length, since EXT is 0.
second_again : (x n : ℕ) → x < 256 → x / 32 % 4 ≡ 0 → x % 32 ≡ 11 + n → ack_length (leb 128 x) n ≡ x
second_again x n h e l = go (leb 128 x) refl
  where
    go : (t : Bool) → leb 128 x ≡ t → ack_length t n ≡ x
    go true t = omega (arith, leb-true 128 x t)
    go false t = omega (arith, leb-false 128 x t)

types_again : (x : ℕ) → x / 16 * 16 + x % 16 ≡ x
types_again x = omega arith

module _ (b : List ℕ) (f : IsFrame b) (y : Bytes b) where
  raw_byte : (i : ℕ) → raw_at b i < 256
  raw_byte i = omega arith

  byte_again : (i : ℕ) → i < length b → inverted (raw_at b i) ≡ get_or b i 0
  byte_again i h = twice_inverted (get_or b i 0) (y i h)

  header_again : map inverted (raw_header (header_of b) (data_count b)) ≡ each b 0 9
  header_again =
      rw (
        second_again (raw_at b 1) (data_count b) (omega arith) f.no_extension (f.states_its_length ∙ omega arith),
        types_again (raw_at b 2),
        low_byte (raw_at b 3) (raw_at b 4) (raw_at b 5) (omega arith) (omega arith) (omega arith),
        middle_byte (raw_at b 3) (raw_at b 4) (raw_at b 5) (omega arith) (omega arith) (omega arith),
        high_byte (raw_at b 3) (raw_at b 4) (raw_at b 5) (omega arith) (omega arith) (omega arith),
        low_byte (raw_at b 6) (raw_at b 7) (raw_at b 8) (omega arith) (omega arith) (omega arith),
        middle_byte (raw_at b 6) (raw_at b 7) (raw_at b 8) (omega arith) (omega arith) (omega arith),
        high_byte (raw_at b 6) (raw_at b 7) (raw_at b 8) (omega arith) (omega arith) (omega arith),
        byte_again 0 (omega arith),
        byte_again 1 (omega arith),
        byte_again 2 (omega arith),
        byte_again 3 (omega arith),
        byte_again 4 (omega arith),
        byte_again 5 (omega arith),
        byte_again 6 (omega arith),
        byte_again 7 (omega arith),
        byte_again 8 (omega arith),
      )

  data_again : map inverted (data_of b) ≡ take (data_count b) (drop 9 b)
  data_again = twice_inverted_all (take (data_count b) (drop 9 b)) (take_bytes (data_count b) (drop 9 b) (drop_bytes 9 b y))

  first_nine : take 9 b ≡ each b 0 9
  first_nine = ap (take 9) (one_by_one b 0 9 (omega arith)) ∙ take_at (each b 0 9) (drop 9 b) 9 refl

  -- the bytes before the checksum are the header's and DATA's
  body_again : map inverted (raw_header (header_of b) (length (data_of b)) ++ data_of b) ≡ take (length b - 2) b
  body_again =
      let n : length b - 2 ≡ 9 + data_count b = omega arith in
      ap₂ (λ (h d : List ℕ). h ++ d) (ap (λ (k : ℕ). map inverted (raw_header (header_of b) k)) (length_data b) ∙ header_again) data_again
      ∙ rw (n, take-add, first_nine)

  high_again : summed b / 256 ≡ get_or b (length b - 2) 0
  high_again = omega (arith, f.states_its_sum, y (length b - 1) (omega arith))

  low_again : summed b % 256 ≡ get_or b (length b - 1) 0
  low_again = omega (arith, f.states_its_sum, y (length b - 1) (omega arith))

  last_two : drop (length b - 2) b ≡ get_or b (length b - 2) 0 ∷ get_or b (length b - 1) 0 ∷ []
  last_two =
      let n : suc (length b - 2) ≡ length b - 1 = omega arith in
      one_by_one b (length b - 2) 2 (omega arith) ∙ rw (n, drop_of_length-le b {i = length b - 2 + 2} (omega arith))

  pub written_again : frame_of (header_of b) (data_of b) ≡ b
  written_again =
      ap sealed body_again
      ∙ rw (high_again, low_again, ← last_two) (take-append-drop (length b - 2) b)
