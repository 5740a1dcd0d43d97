-- Writing a frame (document 01, rows 10 to 14): its wire bytes, the answer, and what then stands in the lent buffer.
-- Assumes nothing.
use Rattle.std.specs.Prelude.{if◌then◌else◌, ℕ, ◌+◌, ◌-◌, ◌*◌, ◌/◌, ◌%◌, ◌≤◌, ◌≢◌, Bool, List, [], ◌∷◌, ◌++◌, map, eqb, length, take, drop, Result, Ok, Err}
use Rattle.meaning.specs.Tests.{◌below◌, ◌above◌, ◌is◌, ◌or◌}
use Rattle.meaning.specs.Tables.{Row, ◌when◌, decide}
use Rattle.refusal.specs.Number.{number_of}
use Rattle.refusal.specs.declared.Refusal.{Refusal}
use Rattle.frame.specs.Address.{bytes_of}
use Rattle.frame.specs.Layout.{inverted, sum_of}
use Rattle.frame.specs.declared.header.Header.{Header}

-- The second byte: ACK in the top bit, EXT 0, and the length of the whole frame.
abbrev pub ack_length : Bool → ℕ → ℕ
ack_length ack count = if ack then 128 + (11 + count) else 11 + count

-- The nine raw bytes before DATA.
abbrev pub raw_header : Header → ℕ → List ℕ
raw_header h count =
    h.message ∷ ack_length h.ack count ∷ (h.sender * 16 + h.receiver) ∷ (bytes_of h.source ++ bytes_of h.destination)

-- Raw bytes go out inverted, and their checksum behind them, high byte first.
abbrev pub sealed : List ℕ → List ℕ
sealed w = w ++ (sum_of w / 256 ∷ sum_of w % 256 ∷ [])

abbrev pub wire_of : List ℕ → List ℕ
wire_of raw = sealed (map inverted raw)

abbrev pub frame_of : Header → List ℕ → List ℕ
frame_of h d = wire_of (raw_header h (length d) ++ d)

-- What the writer answers: the place behind the frame, or a refusal.
abbrev pub Writing : Type 0
Writing = Result ℕ Refusal

-- Why header and DATA make no frame: rows 10 to 13.
abbrev pub frame_table : Header → List ℕ → List (Row Writing)
frame_table h d =
    Err Refusal.AddressTooLarge when h.source.0 above 0xFFFFFF or h.destination.0 above 0xFFFFFF
    ∷ Err Refusal.TypeTooLarge when h.sender above 15 or h.receiver above 15
    ∷ Err Refusal.TooMuchData when length d above 20
    ∷ Err Refusal.ReservedToWrite when h.message is 255
    ∷ []

-- Why the frame does not fit: row 14.
abbrev pub room_table : (room place : ℕ) → List ℕ → List (Row Writing)
room_table room place d = Err Refusal.NoRoom when room below place or (room - place) below (11 + length d) ∷ []

-- Why a frame is not written: rows 10 to 14.
abbrev pub writer_table : (room place : ℕ) → Header → List ℕ → List (Row Writing)
writer_table room place h d = frame_table h d ++ room_table room place d

-- The first reason that applies, or the place after the frame.
unfoldable pub writing_of : (room place : ℕ) → Header → List ℕ → Writing
writing_of room place h d = decide (writer_table room place h d) (Ok (place + (11 + length d)))

-- The writer of who has a reason of his own to refuse: it comes before the row on room.
unfoldable pub writing_with : Row Writing → (room place : ℕ) → Header → List ℕ → Writing
writing_with reason room place h d =
    decide (frame_table h d ++ reason ∷ room_table room place d) (Ok (place + (11 + length d)))

-- An answer of the writer to whom no room was lent, with another refusal in the place of row 14.
abbrev pub in_place_of_room : Refusal → Writing → Writing
in_place_of_room other (Ok n) = Err other
in_place_of_room other (Err r) = Err (if eqb (number_of r) 14 then other else r)

-- What the writer asks, as facts.
pub record Writable (room place : ℕ) (h : Header) (d : List ℕ) : Type 0 where
  pub source_is_an_address : h.source.0 ≤ 0xFFFFFF
  pub destination_is_an_address : h.destination.0 ≤ 0xFFFFFF
  pub sender_is_a_type : h.sender ≤ 15
  pub receiver_is_a_type : h.receiver ≤ 15
  pub to_20_bytes : length d ≤ 20
  pub has_a_message : h.message ≢ 255
  pub has_room : place + (11 + length d) ≤ room

-- Bytes written over the first of a run.
abbrev pub over : List ℕ → List ℕ → List ℕ
over w run = w ++ drop (length w) run

-- The buffer at the end: the frame's own bytes from the place on, and nothing else changed; a refusal changes no byte.
abbrev pub laid : Writing → List ℕ → ℕ → List ℕ → List ℕ
laid (Ok n) buffer place w = take place buffer ++ over w (drop place buffer)
laid (Err r) buffer place w = buffer

abbrev pub buffer_after : List ℕ → ℕ → Header → List ℕ → List ℕ
buffer_after buffer place h d = laid (writing_of (length buffer) place h d) buffer place (frame_of h d)

-- The paper's number of an answer, 0 where nothing is refused.
abbrev pub refused_by : Writing → ℕ
refused_by (Ok n) = 0
refused_by (Err r) = number_of r
