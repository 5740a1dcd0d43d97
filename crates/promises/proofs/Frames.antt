-- Frames: the crate's laws in the words of the promises, and the bytes of a frame that is written, one by one.
-- Assumes nothing.
use Prim.Native.Nat.{ℕ, ◌+◌, ◌/◌, ◌%◌, ◌≤◌, ◌<◌}
use native.Mathlib.Omega.{arith}
use mathlib.Core.Path.{◌≡◌, refl, ◌∙◌, sym, ap}
use mathlib.Core.Logic.{◌↔◌}
use mathlib.Core.List.{List, [], ◌∷◌, ◌++◌, map}
use borrow.Author.Tests.{leb-true, le-leb}
use lib.ListN.{length, get_or, take, drop, length-map, get_or-append, get_or-map}
use lib.Seq.{get_or-take, get_or-drop, get_or-append_seam, get_or-append-add, take_at, take-take}
use Rattle.meaning.specs.Lists.{get_d_any}
use Rattle.frame.specs.{
  Layout.{header_of, data_count},
  Reading.{Reading, IsFrame, reading_of},
  Writing.{raw_header, Writable, writing_of, buffer_after},
  declared.{header.Header.{Header}},
}
use Rattle.frame.proofs.Frames.{frame_is_read, frame_exactly_when}
use Rattle.frame.proofs.Content.{length_data, data_at}
use Rattle.frame.proofs.Buffers.{
  written_exactly_when,
  writable_is_written,
  stands_there,
  untouched_before,
  untouched_behind,
  length_kept,
  read_of_written,
  written_of_read,
}
use Rattle.promises.specs.Wire.{Bytes, inverted, raw, data_of, sum, FrameRules}
use Rattle.promises.specs.Numbers.{read_number, write_number}
use Rattle.promises.specs.Demand2.Frames.{FrameSays, CanBeWritten, AddressAt, FrameAt, Frames}
use Rattle.std.specs.Prelude.{Ok}
use Rattle.std.specs.Result.{result_unwrap_or}

-- ---- what is read
pub to_rules : {b : List ℕ} → IsFrame b → FrameRules b
to_rules f =
    record {
      from_11_bytes = f.from_11_bytes;
      to_31_bytes = f.to_31_bytes;
      ext_is_0 = f.no_extension;
      len_is_the_count_of_bytes = f.states_its_length;
      the_sum_is_as_stated = f.states_its_sum;
      msg_is_not_ffh = f.has_a_message;
    }

pub from_rules : {b : List ℕ} → FrameRules b → IsFrame b
from_rules f =
    record {
      from_11_bytes = f.from_11_bytes;
      to_31_bytes = f.to_31_bytes;
      no_extension = f.ext_is_0;
      states_its_length = f.len_is_the_count_of_bytes;
      states_its_sum = f.the_sum_is_as_stated;
      has_a_message = f.msg_is_not_ffh;
    }

pub rules_exactly_when : (b : List ℕ) → FrameRules b ↔ (read_number (reading_of b) ≡ 0)
rules_exactly_when b = (λ f. (frame_exactly_when b).0 (from_rules f), λ e. to_rules ((frame_exactly_when b).1 e))

says : (b : List ℕ) → FrameSays b (header_of b) (data_count b)
says b =
    record {
      its_msg = refl;
      its_ack_bit = (leb-true 128 (raw b 1), le-leb 128 (raw b 1));
      its_type_of_the_sender = refl;
      its_type_of_the_receiver = refl;
      its_source = refl;
      its_dest = refl;
      its_count_of_data = refl;
    }

written_again : (b : List ℕ) → Bytes b → (h : Header) (count : ℕ) → reading_of b ≡ Ok (h, count)
    → (buffer : List ℕ) (place : ℕ) → place + length b ≤ length buffer
    → take (length b) (drop place (buffer_after buffer place h (data_of b))) ≡ b
written_again b bytes h count e buffer place room =
    let f : IsFrame b = (frame_exactly_when b).1 (ap read_number e) in
    let same : header_of b ≡ h = ap (λ (r : Reading). (result_unwrap_or r (h, count)).0) (sym (frame_is_read b f) ∙ e) in
    rw (← same) (written_of_read b f (λ i within. bytes i) buffer place room)

-- ---- what is written
pub to_writable : {room place : ℕ} {h : Header} {d : List ℕ} → CanBeWritten room place h d → Writable room place h d
to_writable w =
    record {
      source_is_an_address = w.source_to_ffffffh;
      destination_is_an_address = w.dest_to_ffffffh;
      sender_is_a_type = w.type_of_the_sender_to_15;
      receiver_is_a_type = w.type_of_the_receiver_to_15;
      to_20_bytes = w.to_20_bytes_of_data;
      has_a_message = w.msg_other_than_ffh;
      has_room = w.room_for_the_frame;
    }

from_writable : {room place : ℕ} {h : Header} {d : List ℕ} → Writable room place h d → CanBeWritten room place h d
from_writable w =
    record {
      source_to_ffffffh = w.source_is_an_address;
      dest_to_ffffffh = w.destination_is_an_address;
      type_of_the_sender_to_15 = w.sender_is_a_type;
      type_of_the_receiver_to_15 = w.receiver_is_a_type;
      to_20_bytes_of_data = w.to_20_bytes;
      msg_other_than_ffh = w.has_a_message;
      room_for_the_frame = w.has_room;
    }

-- The high byte of an address is all that is left of it.
as_address : (buffer : List ℕ) (place number : ℕ) → number ≤ 0xFFFFFF
    → get_or buffer place 0 ≡ inverted (number % 256) → get_or buffer (place + 1) 0 ≡ inverted (number / 256 % 256)
    → get_or buffer (place + 2) 0 ≡ inverted (number / 65536 % 256) → AddressAt buffer place number
as_address buffer place number three low middle high =
    record {
      low_byte_first = low;
      then_the_middle_byte = middle;
      then_the_high_byte = high ∙ ap inverted (omega arith);
    }

module _ (buffer : List ℕ) (place : ℕ) (h : Header) (d : List ℕ) (w : CanBeWritten (length buffer) place h d) where
  abbrev after : List ℕ
  after = buffer_after buffer place h d

  -- The frame's bytes before its checksum, and its checksum.
  abbrev body : List ℕ
  body = map inverted (raw_header h (length d) ++ d)

  abbrev checksum : List ℕ
  checksum = sum body / 256 ∷ sum body % 256 ∷ []

  length_body : length body ≡ 9 + length d
  length_body = simp length-map (omega arith)

  stands : take (11 + length d) (drop place after) ≡ body ++ checksum
  stands = stands_there buffer place h d (to_writable w)

  body_stands : take (9 + length d) (drop place after) ≡ body
  body_stands =
      sym (take-take (9 + length d) (11 + length d) (drop place after) (omega arith))
      ∙ rw stands (take_at body checksum (9 + length d) length_body)

  -- A byte of the frame stands at its place in the buffer.
  byte : (at i : ℕ) → at ≡ place + i → i < 11 + length d → get_or after at 0 ≡ get_or (body ++ checksum) i 0
  byte at i e within =
      rw e
      (sym (get_or-drop place after i 0) ∙ sym (get_or-take (11 + length d) (drop place after) i 0 within)
      ∙ ap (λ (l : List ℕ). get_or l i 0) stands)

  source_bytes : AddressAt after (place + 3) h.source.0
  source_bytes =
      as_address after (place + 3) h.source.0 w.source_to_ffffffh (byte (place + 3) 3 (omega arith) (omega arith))
      (byte (place + 3 + 1) 4 (omega arith) (omega arith)) (byte (place + 3 + 2) 5 (omega arith) (omega arith))

  destination_bytes : AddressAt after (place + 6) h.destination.0
  destination_bytes =
      as_address after (place + 6) h.destination.0 w.dest_to_ffffffh (byte (place + 6) 6 (omega arith) (omega arith))
      (byte (place + 6 + 1) 7 (omega arith) (omega arith)) (byte (place + 6 + 2) 8 (omega arith) (omega arith))

  data_byte : (i : ℕ) → i < length d → get_or after (place + (9 + i)) 0 ≡ inverted (get_or d i 0)
  data_byte i within =
      byte (place + (9 + i)) (9 + i) refl (omega arith)
      ∙ get_or-append-add (map inverted (raw_header h (length d))) (map inverted d ++ checksum) i 0
      ∙ get_or-append (map inverted d) checksum 0 i (rw length-map within)
      ∙ get_or-map inverted d i 255
      ∙ ap inverted (get_d_any d i 255 0 within)

  high_byte : get_or after (place + (9 + length d)) 0 ≡ sum (take (9 + length d) (drop place after)) / 256
  high_byte =
      byte (place + (9 + length d)) (length body) (omega (arith, length_body)) (omega (arith, length_body))
      ∙ get_or-append_seam body (sum body / 256) (sum body % 256 ∷ []) 0 ∙ rw body_stands

  low_byte : get_or after (place + (10 + length d)) 0 ≡ sum (take (9 + length d) (drop place after)) % 256
  low_byte =
      byte (place + (10 + length d)) (length body + 1) (omega (arith, length_body)) (omega (arith, length_body))
      ∙ get_or-append-add body checksum 1 0 ∙ rw body_stands

  written : FrameAt after place h d
  written =
      record {
        first_msg = byte place 0 (omega arith) (omega arith);
        then_len_with_ack = λ asks. byte (place + 1) 1 (omega arith) (omega arith) ∙ rw asks;
        then_len_without_ack = λ asks. byte (place + 1) 1 (omega arith) (omega arith) ∙ rw asks;
        then_the_node_types = byte (place + 2) 2 (omega arith) (omega arith) ∙ ap inverted (omega arith);
        then_source = source_bytes;
        then_dest = destination_bytes;
        then_data = data_byte;
        then_the_sum_high_byte_first = high_byte;
        then_its_low_byte = low_byte;
      }

in_range_exactly_when : (buffer : List ℕ) (place : ℕ) (h : Header) (d : List ℕ)
    → CanBeWritten (length buffer) place h d ↔ (write_number (writing_of (length buffer) place h d) ≡ 0)
in_range_exactly_when buffer place h d =
    let exactly = written_exactly_when (length buffer) place h d in
    (λ w. exactly.0 (to_writable w), λ e. from_writable (exactly.1 e))

pub frames : Frames
frames =
    record {
      frame_exactly_when_the_rules_hold = rules_exactly_when;
      a_frame_is_read_as_it_says = λ b f. (header_of b, (data_count b, (frame_is_read b (from_rules f), says b)));
      data_is_all_but_11_bytes = length_data;
      each_byte_of_data_is_inverted = data_at;
      a_frame_in_other_words = λ b. (to_rules, from_rules);
      a_header_in_other_words = says;
      data_in_other_words = λ b. refl;
      written_again_it_gives_its_own_bytes = written_again;
      written_exactly_when_in_range = in_range_exactly_when;
      each_byte_is_written_as_header_and_data_say = written;
      frame_written_is_read = λ buffer place h d w m bytes. read_of_written buffer place h d (to_writable w) m (λ i within. bytes i);
      the_answer_is_the_place_after_the_frame = λ buffer place h d w. writable_is_written (length buffer) place h d (to_writable w);
      no_byte_before_the_frame_is_changed = λ buffer place h d w. untouched_before buffer place h d (to_writable w);
      no_byte_behind_the_frame_is_changed = λ buffer place h d w. untouched_behind buffer place h d (to_writable w);
      the_buffer_keeps_its_length = λ buffer place h d w. length_kept buffer place h d (to_writable w);
    }
