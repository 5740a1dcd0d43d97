-- A bundle read as a typed message (document 02, 2026-04): rows 1 to 6, then 18, 16 and 15.
-- Assumes nothing.
use Rattle.std.specs.Prelude.{ℕ, ◌≡◌, true, List, [], ◌∷◌, length, Some, None, Result, Ok, Err}
use Rattle.meaning.specs.Tests.{◌is_not◌, opposite}
use Rattle.meaning.specs.Tables.{Row, ◌when◌, decide}
use Rattle.refusal.specs.declared.Refusal.{Refusal}
use Rattle.frame.specs.Layout as frame
use Rattle.frame.specs.Reading.{IsFrame, reading_of, Reading}
use Rattle.frame.specs.declared.header.Header.{Header}
use Rattle.rts.specs.Envelope.{envelope_of}
use Rattle.rts.specs.Spelling.{spelled_by, Spelled}
use Rattle.rts.specs.Fields.{four_of}
use Rattle.rts.specs.Table.{number_of, data_of, in_range}
use Rattle.rts.specs.declared.envelope.Envelope.{Envelope}
use Rattle.rts.specs.declared.message.Message.{Message}

-- What a bundle is read as: a message in its envelope, or a refusal.
abbrev pub Received : Type 0
Received = Result (Envelope × Message) Refusal

-- Rows 16 and 15.
abbrev pub check_table : (count : ℕ) → Message → List (Row Received)
check_table count m =
    Err Refusal.WrongDataCount when count is_not length (data_of m)
    ∷ Err Refusal.FieldOutOfRange when opposite (in_range m)
    ∷ []

abbrev pub checked_by : Envelope → (count : ℕ) → Message → Received
checked_by e count m = decide (check_table count m) (Ok (e, m))

-- Row 18.
abbrev pub listed : Envelope → (count : ℕ) → Spelled → Received
listed e count (Some m) = checked_by e count m
listed e count None = Err Refusal.UnlistedMessage

abbrev pub taken_from : Header → (count : ℕ) → List ℕ → Received
taken_from h count d = listed (envelope_of h) count (spelled_by h.message (four_of d))

-- Rows 1 to 6.
abbrev pub received_by : List ℕ → Reading → Received
received_by b (Ok (h, count)) = taken_from h count (frame.data_of b)
received_by b (Err refusal) = Err refusal

unfoldable pub received_of : List ℕ → Received
received_of b = received_by b (reading_of b)

-- A bundle carries a message in an envelope: it is a frame, and says so.
pub record Carries (b : List ℕ) (e : Envelope) (m : Message) : Type 0 where
  pub is_a_frame : IsFrame b
  pub says_its_number : number_of m ≡ frame.message b
  pub says_its_data : data_of m ≡ frame.data_of b
  pub in_range_lem : (in_range m).holds ≡ true
  pub says_its_envelope : e ≡ envelope_of (frame.header_of b)
