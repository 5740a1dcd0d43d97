-- Demand 2, frames: a bundle is a frame exactly when the SDN rules hold, and is read as its bytes say; each byte
-- written is as header and DATA say; a frame written again gives its own bytes.
-- Assumes nothing.
use Rattle.std.specs.Prelude.{ℕ, ◌+◌, ◌-◌, ◌*◌, ◌/◌, ◌%◌, ◌≤◌, ◌<◌, ◌≡◌, ◌≢◌, ◌↔◌, true, false, List, length, get_or, take, drop, Ok}
use Rattle.frame.specs.{
  Layout.{header_of, data_count as count_handed_out, data_of as data_handed_out},
  Reading.{IsFrame, reading_of},
  Writing.{writing_of, buffer_after},
  declared.{header.Header.{Header}},
}
use Rattle.promises.specs.Wire.{
  Bytes,
  inverted,
  message,
  AsksForAnAnswer,
  sender,
  receiver,
  source,
  destination,
  data_count,
  data_of,
  sum,
  FrameRules,
}
use Rattle.promises.specs.Numbers.{read_number, write_number}

-- What a bundle says: a header, and how many bytes of DATA.
pub record FrameSays (b : List ℕ) (h : Header) (count : ℕ) : Type 0 where
  pub its_msg : h.message ≡ message b
  pub its_ack_bit : (h.ack ≡ true) ↔ AsksForAnAnswer b
  pub its_type_of_the_sender : h.sender ≡ sender b
  pub its_type_of_the_receiver : h.receiver ≡ receiver b
  pub its_source : h.source.0 ≡ source b
  pub its_dest : h.destination.0 ≡ destination b
  pub its_count_of_data : count ≡ data_count b

-- What the writer asks: rows 10 to 14.
pub record CanBeWritten (room place : ℕ) (h : Header) (d : List ℕ) : Type 0 where
  pub source_to_ffffffh : h.source.0 ≤ 0xFFFFFF
  pub dest_to_ffffffh : h.destination.0 ≤ 0xFFFFFF
  pub type_of_the_sender_to_15 : h.sender ≤ 15
  pub type_of_the_receiver_to_15 : h.receiver ≤ 15
  pub to_20_bytes_of_data : length d ≤ 20
  pub msg_other_than_ffh : h.message ≢ 0xFF
  pub room_for_the_frame : place + (11 + length d) ≤ room

-- The three bytes of an address, as sent from a place on.
pub record AddressAt (buffer : List ℕ) (place number : ℕ) : Type 0 where
  pub low_byte_first : get_or buffer place 0 ≡ inverted (number % 256)
  pub then_the_middle_byte : get_or buffer (place + 1) 0 ≡ inverted (number / 256 % 256)
  pub then_the_high_byte : get_or buffer (place + 2) 0 ≡ inverted (number / 65536)

-- The frame of a header and DATA, as sent from a place on.
pub record FrameAt (buffer : List ℕ) (place : ℕ) (h : Header) (d : List ℕ) : Type 0 where
  pub first_msg : get_or buffer place 0 ≡ inverted h.message
  pub then_len_with_ack : h.ack ≡ true → get_or buffer (place + 1) 0 ≡ inverted (128 + (11 + length d))
  pub then_len_without_ack : h.ack ≡ false → get_or buffer (place + 1) 0 ≡ inverted (11 + length d)
  pub then_the_node_types : get_or buffer (place + 2) 0 ≡ inverted (16 * h.sender + h.receiver)
  pub then_source : AddressAt buffer (place + 3) h.source.0
  pub then_dest : AddressAt buffer (place + 6) h.destination.0
  pub then_data : (i : ℕ) → i < length d → get_or buffer (place + (9 + i)) 0 ≡ inverted (get_or d i 0)
  pub then_the_sum_high_byte_first :
      get_or buffer (place + (9 + length d)) 0 ≡ sum (take (9 + length d) (drop place buffer)) / 256
  pub then_its_low_byte : get_or buffer (place + (10 + length d)) 0 ≡ sum (take (9 + length d) (drop place buffer)) % 256

pub record Frames : Type 0 where
  pub frame_exactly_when_the_rules_hold : (b : List ℕ) → FrameRules b ↔ (read_number (reading_of b) ≡ 0)
  pub a_frame_is_read_as_it_says :
      (b : List ℕ) → FrameRules b
      → (h : Header) × ((count : ℕ) × ((reading_of b ≡ Ok (h, count)) × FrameSays b h count))
  pub data_is_all_but_11_bytes : (b : List ℕ) → length (data_of b) ≡ length b - 11
  pub each_byte_of_data_is_inverted : (b : List ℕ) (i : ℕ) → i < length b - 11
      → get_or (data_of b) i 0 ≡ 255 - get_or b (9 + i) 0
  -- the crates' own words for a frame, its header and its DATA mean the same
  pub a_frame_in_other_words : (b : List ℕ) → IsFrame b ↔ FrameRules b
  pub a_header_in_other_words : (b : List ℕ) → FrameSays b (header_of b) (count_handed_out b)
  pub data_in_other_words : (b : List ℕ) → data_handed_out b ≡ data_of b
  pub written_again_it_gives_its_own_bytes :
      (b : List ℕ) → Bytes b → (h : Header) (count : ℕ) → reading_of b ≡ Ok (h, count)
      → (buffer : List ℕ) (place : ℕ) → place + length b ≤ length buffer
      → take (length b) (drop place (buffer_after buffer place h (data_of b))) ≡ b
  pub written_exactly_when_in_range :
      (buffer : List ℕ) (place : ℕ) (h : Header) (d : List ℕ)
      → CanBeWritten (length buffer) place h d ↔ (write_number (writing_of (length buffer) place h d) ≡ 0)
  pub each_byte_is_written_as_header_and_data_say :
      (buffer : List ℕ) (place : ℕ) (h : Header) (d : List ℕ) → CanBeWritten (length buffer) place h d
      → FrameAt (buffer_after buffer place h d) place h d
  pub frame_written_is_read :
      (buffer : List ℕ) (place : ℕ) (h : Header) (d : List ℕ) → CanBeWritten (length buffer) place h d
      → h.message < 256 → Bytes d
      → (reading_of (take (11 + length d) (drop place (buffer_after buffer place h d))) ≡ Ok (h, length d))
      × (data_of (take (11 + length d) (drop place (buffer_after buffer place h d))) ≡ d)
  pub the_answer_is_the_place_after_the_frame :
      (buffer : List ℕ) (place : ℕ) (h : Header) (d : List ℕ) → CanBeWritten (length buffer) place h d
      → writing_of (length buffer) place h d ≡ Ok (place + (11 + length d))
  pub no_byte_before_the_frame_is_changed :
      (buffer : List ℕ) (place : ℕ) (h : Header) (d : List ℕ) → CanBeWritten (length buffer) place h d
      → take place (buffer_after buffer place h d) ≡ take place buffer
  pub no_byte_behind_the_frame_is_changed :
      (buffer : List ℕ) (place : ℕ) (h : Header) (d : List ℕ) → CanBeWritten (length buffer) place h d
      → drop (place + (11 + length d)) (buffer_after buffer place h d) ≡ drop (place + (11 + length d)) buffer
  pub the_buffer_keeps_its_length :
      (buffer : List ℕ) (place : ℕ) (h : Header) (d : List ℕ) → CanBeWritten (length buffer) place h d
      → length (buffer_after buffer place h d) ≡ length buffer
