-- What was written is read back: the frame's bytes say what the writer was given.
-- Assumes nothing.
use Prim.Native.Nat.{ℕ, ◌+◌, ◌-◌, ◌*◌, ◌/◌, ◌%◌, ◌≤◌, ◌<◌}
use native.Mathlib.Omega.{arith}
use mathlib.Core.Path.{◌≡◌, refl, ◌∙◌, sym, ap₂}
use mathlib.Core.Bool.{Bool, true, false}
use mathlib.Core.List.{List, [], ◌∷◌, ◌++◌, map}
use borrow.Author.Tests.{le-leb, lt-leb}
use lib.Dec.{leb}
use lib.ListN.{length, length-append, length-map}
use lib.Seq.{take_at}
use Rattle.meaning.specs.Bytes.{Bytes, tail_bytes}
use Rattle.frame.specs.Address.{address_of}
use Rattle.frame.specs.Layout.{inverted, sum_of, header_of, data_of}
use Rattle.frame.specs.Reading.{IsFrame}
use Rattle.frame.specs.Writing.{raw_header, ack_length, frame_of, Writable}
use Rattle.frame.specs.declared.address.Address.{Address}
use Rattle.frame.specs.declared.header.Header.{Header}
use Rattle.frame.proofs.Addresses.{address_of_its_bytes}
use Rattle.frame.proofs.Sums.{sealed_right}

-- Inverting twice gives a byte back, and a list of bytes.
pub twice_inverted : (n : ℕ) → n < 256 → inverted (inverted n) ≡ n
twice_inverted n h = omega arith

pub twice_inverted_all : (l : List ℕ) → Bytes l → map inverted (map inverted l) ≡ l
twice_inverted_all [] b = refl
twice_inverted_all (x ∷ l) b = ap₂ (λ (y : ℕ) (r : List ℕ). y ∷ r) (twice_inverted x (b 0 (omega arith))) (twice_inverted_all l (tail_bytes x l b))

-- The second byte says ACK, no EXT and the length.
second_byte : (ack : Bool) (count : ℕ) → count ≤ 20 → ack_length ack count < 256
second_byte true count h = omega arith
second_byte false count h = omega arith

ack_back : (ack : Bool) (count : ℕ) → count ≤ 20 → leb 128 (ack_length ack count) ≡ ack
ack_back true count h = le-leb 128 (128 + (11 + count)) (omega arith)
ack_back false count h = lt-leb 128 (11 + count) (omega arith)

no_ext : (ack : Bool) (count : ℕ) → count ≤ 20 → ack_length ack count / 32 % 4 ≡ 0
no_ext true count h = omega arith
no_ext false count h = omega arith

length_back : (ack : Bool) (count : ℕ) → count ≤ 20 → ack_length ack count % 32 ≡ 11 + count
length_back true count h = omega arith
length_back false count h = omega arith

-- An address whose bytes go out inverted.
address_back : (a : Address) → a.0 ≤ 0xFFFFFF
    → address_of (inverted (inverted (a.0 % 256))) (inverted (inverted (a.0 / 256 % 256))) (inverted (inverted (a.0 / 65536 % 256))) ≡ a
address_back a h =
    rw
    (twice_inverted (a.0 % 256) (omega arith), twice_inverted (a.0 / 256 % 256) (omega arith), twice_inverted (a.0 / 65536 % 256) (omega arith))
    (address_of_its_bytes a h)

module _ (h : Header) (d : List ℕ) where
  abbrev body : List ℕ
  body = map inverted (raw_header h (length d) ++ d)

  length_body : length body ≡ 9 + length d
  length_body = simp length-map (omega arith)

  pub length_frame : length (frame_of h d) ≡ 11 + length d
  length_frame = simp (length-append, length-map) (omega arith)

module _ {room place : ℕ} (h : Header) (d : List ℕ) (w : Writable room place h d) (m : h.message < 256) (b : Bytes d) where
  second : inverted (inverted (ack_length h.ack (length d))) ≡ ack_length h.ack (length d)
  second = twice_inverted (ack_length h.ack (length d)) (second_byte h.ack (length d) w.to_20_bytes)

  types_high : (h.sender * 16 + h.receiver) / 16 ≡ h.sender
  types_high = omega arith

  types_low : (h.sender * 16 + h.receiver) % 16 ≡ h.receiver
  types_low = omega arith

  pub written_is_a_frame : IsFrame (frame_of h d)
  written_is_a_frame =
      record {
        from_11_bytes = omega (arith, length_frame h d);
        to_31_bytes = omega (arith, length_frame h d);
        no_extension = rw second (no_ext h.ack (length d) w.to_20_bytes);
        states_its_length = rw (second, length_frame h d) (length_back h.ack (length d) w.to_20_bytes);
        states_its_sum = sealed_right (body h d);
        has_a_message = λ e. w.has_a_message (sym (twice_inverted h.message m) ∙ e);
      }

  pub header_read_back : header_of (frame_of h d) ≡ h
  header_read_back =
      rw (
        twice_inverted h.message m,
        second,
        ack_back h.ack (length d) w.to_20_bytes,
        twice_inverted (h.sender * 16 + h.receiver) (omega arith),
        types_high,
        types_low,
        address_back h.source w.source_is_an_address,
        address_back h.destination w.destination_is_an_address,
      )

  pub data_read_back : data_of (frame_of h d) ≡ d
  data_read_back =
      rw (
        length_frame h d,
        take_at (map inverted d) (sum_of (body h d) / 256 ∷ sum_of (body h d) % 256 ∷ []) (11 + length d - 11)
            (simp length-map (omega arith)),
      )
      (twice_inverted_all d b)
