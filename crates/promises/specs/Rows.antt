-- Document 01's table "Numbers given back", group by group: which number each entry point gives, and when.
-- Assumes nothing.
use Rattle.std.specs.Prelude.{ℕ, ◌+◌, ◌-◌, ◌*◌, ◌≤◌, ◌<◌, ◌≡◌, ◌≢◌, ◌↔◌, ◌⊎◌, true, false, List, [], ◌∷◌, ◌++◌, length, get_or, take}
use Rattle.std.proofs.Math.Option.{none}
use Rattle.frame.specs.Reading.{reading_of}
use Rattle.frame.specs.Writing.{writing_of}
use Rattle.frame.specs.declared.header.Header.{Header}
use Rattle.line.specs.Reader.{step_of, close_of, ran_of}
use Rattle.line.specs.declared.reader.Reader.{Reader}
use Rattle.travel.specs.declared.Pulse.{Pulse}
use Rattle.board.specs.Events.{set_up, after_pulse, after_blocked, after_cleared, after_power_up}
use Rattle.board.specs.declared.settings.Settings.{Settings}
use Rattle.board.specs.declared.whole.Node.{Node}
use Rattle.node.specs.Frames.{turn_of}
use Rattle.meaning.specs.Membership.{IsOneOf}
use Rattle.motors.specs.Register.{found}
use Rattle.motors.specs.Filing.{filed_of, struck_of}
use Rattle.motors.specs.declared.motor.Motor.{Motor}
use Rattle.form.specs.Reading.{read_of}
use Rattle.form.specs.Writing.{written_of}
use Rattle.rts.specs.{
  Table.{number_of as message_number, data_of as content_of, in_range},
  Reading.{received_of},
  Writing.{written_of as message_written},
  declared.{envelope.Envelope.{Envelope}, message.Message.{Message}},
}
use Rattle.promises.specs.Wire.{raw, message, ext, len, summed, stated, source, destination, data_count, data_of}
use Rattle.promises.specs.ReaderInRange.{ReaderInRange}
use Rattle.promises.specs.BoardInRange.{SettingsInRange, BoardInRange}
use Rattle.promises.specs.Groups.{Groups}
use Rattle.promises.specs.RegisterInRange.{RegisterInRange}
use Rattle.promises.specs.StoredBytes.{stored_count, EntryRight, BodyRight}
use Rattle.promises.specs.Numbers.{
  read_number,
  write_number,
  line_number,
  event_number,
  turn_number,
  register_number,
  form_number,
  received_number,
  no_frame,
}

-- A row: its number, and when it applies.
pub data Row : Type 1 where
  ◌when◌ : ℕ → Type 0 → Row

infixr 68 ◌when◌
-- The number given is that of the first row that applies; where none does, `otherwise` says what it is.
pub data First (otherwise : ℕ → Type 0) : List Row → ℕ → Type 1 where
  applies : {number : ℕ} {fact : Type 0} {rows : List Row} → fact → First otherwise (number when fact ∷ rows) number
  passes : {number given : ℕ} {fact : Type 0} {rows : List Row} → ¬ fact → First otherwise rows given
      → First otherwise (number when fact ∷ rows) given
  none_applies : {given : ℕ} → otherwise given → First otherwise [] given

-- The usual case: 0 where no row applies.
abbrev pub FirstOf : List Row → ℕ → Type 1
FirstOf rows number = First (λ given. given ≡ 0) rows number

-- Rows that apply only in some case.
abbrev pub in_case : Type 0 → List Row → List Row
in_case case [] = []
in_case case (number when fact ∷ rows) = number when (case × fact) ∷ in_case case rows

-- ---- frames
abbrev pub bundle_rows : List ℕ → List Row
bundle_rows b =
    1 when (length b ≤ 10)
    ∷ 2 when (32 ≤ length b)
    ∷ 3 when (ext b ≢ 0)
    ∷ 4 when (len b ≢ length b)
    ∷ 5 when (summed b ≢ stated b)
    ∷ 6 when (message b ≡ 0xFF)
    ∷ []

abbrev pub writer_rows : (room place : ℕ) → Header → List ℕ → List Row
writer_rows room place h d =
    10 when ((0xFFFFFF < h.source.0) ⊎ (0xFFFFFF < h.destination.0))
    ∷ 11 when ((15 < h.sender) ⊎ (15 < h.receiver))
    ∷ 12 when (20 < length d)
    ∷ 13 when (h.message ≡ 0xFF)
    ∷ 14 when ((room < place) ⊎ (room - place < 11 + length d))
    ∷ []

-- ---- the line reader
-- The open bundle when it ends: counted beyond 31 it is too long, and an empty one is never reported.
abbrev pub open_rows : Reader → List Row
open_rows r = 2 when (31 < r.count) ∷ in_case (r.count ≢ 0) (bundle_rows (take r.count r.kept))

-- ---- the register
-- No percent, or no IP: percent 0 to 100, IP 1 to 16 or FFh.
abbrev pub BadReading : (percent ip : ℕ) → Type 0
BadReading percent ip = (100 < percent) ⊎ ((ip ≢ 0xFF) × ((ip < 1) ⊎ (16 < ip)))

-- A frame from a line.
abbrev pub report_rows : List Motor → (count line : ℕ) → List ℕ → List Row
report_rows run count line b =
    20 when (3 < line)
    ∷ 21 when (((source b < 0x000001) ⊎ (0xFFFEFF < source b)) ⊎ (destination b ≡ 0x000000))
    ∷ 22 when ((message b ≢ 0x60) × (message b ≢ 0x0D))
    ∷ 23 when ((message b ≡ 0x0D) × ((data_count b < 5) ⊎ BadReading (raw b 11) (raw b 13)))
    ∷ 24 when ((found run count line (source b) ≡ none) × (count ≡ 256))
    ∷ []

abbrev pub file_rows : List Motor → (count line : ℕ) → List ℕ → List Row
file_rows run count line b = 19 when (¬ RegisterInRange run count) ∷ bundle_rows b ++ report_rows run count line b

-- ---- stored form 1
abbrev pub read_form_rows : List Motor → List ℕ → List Row
read_form_rows run b =
    19 when (length run ≢ 256)
    ∷ 40 when ((length b < 3) ⊎ (get_or b 0 0 ≢ 1))
    ∷ 41 when (256 < stored_count b)
    ∷ 42 when (length b ≢ 3 + 11 * stored_count b)
    ∷ 43 when (¬ ((i : ℕ) → i < stored_count b → EntryRight b (stored_count b) i))
    ∷ 44 when (¬ ((i : ℕ) → i < stored_count b → BodyRight b (stored_count b) i))
    ∷ []

-- ---- the transmitter's messages
-- A bundle read: no message has its MSG; none of that MSG has so many bytes of DATA; none of that MSG and DATA is in
-- range.
abbrev pub typed_rows : List ℕ → List Row
typed_rows b =
    18 when (¬ ((m : Message) × (message_number m ≡ message b)))
    ∷ 16 when (¬ ((m : Message) × ((message_number m ≡ message b) × (length (content_of m) ≡ data_count b))))
    ∷ 15 when (¬ ((m : Message) × ((message_number m ≡ message b) × ((content_of m ≡ data_of b) × ((in_range m).holds ≡ true)))))
    ∷ []

abbrev pub receive_rows : List ℕ → List Row
receive_rows b = bundle_rows b ++ typed_rows b

-- A message to be written: rows 12 and 13 cannot apply.
abbrev pub send_rows : (room place : ℕ) → Envelope → Message → List Row
send_rows room place e m =
    10 when ((0xFFFFFF < e.source.0) ⊎ (0xFFFFFF < e.destination.0))
    ∷ 11 when ((15 < e.sender) ⊎ (15 < e.receiver))
    ∷ 15 when ((in_range m).holds ≡ false)
    ∷ 14 when ((room < place) ⊎ (room - place < 11 + length (content_of m)))
    ∷ []

pub record Rows : Type 1 where
  -- one of a list is what stands at a place of it
  pub one_of_a_list : (x : ℕ) (l : List ℕ) → IsOneOf x l ↔ ((place : ℕ) × ((place < length l) × (get_or l place 0 ≡ x)))
  -- a table of rows gives one number
  pub one_number : (rows : List Row) (a b : ℕ) → FirstOf rows a → FirstOf rows b → a ≡ b
  -- frames
  pub read : (b : List ℕ) → FirstOf (bundle_rows b) (read_number (reading_of b))
  pub write :
      (buffer : List ℕ) (place : ℕ) (h : Header) (d : List ℕ)
      → FirstOf (writer_rows (length buffer) place h d) (write_number (writing_of (length buffer) place h d))
  -- the line reader
  pub step :
      (r : Reader) (byte silence : ℕ)
      → FirstOf (9 when (¬ ReaderInRange r) ∷ in_case (30 ≤ silence) (open_rows r))
      (line_number (step_of r byte silence).answer)
  pub close : (r : Reader) → FirstOf (9 when (¬ ReaderInRange r) ∷ open_rows r) (line_number (close_of r).answer)
  -- a run: behind rows 9, 7 and 8 as its single steps, 0 or one of rows 1 to 6
  pub run :
      (r : Reader) (bytes silences : List ℕ) (place : ℕ)
      → First (λ given. IsOneOf given (0 ∷ no_frame))
      (9 when (¬ ReaderInRange r) ∷ 7 when (length bytes ≢ length silences) ∷ 8 when (length bytes < place) ∷ [])
      (line_number (ran_of r bytes silences place).stepped.answer)
  -- the board
  pub set_up_lem : (s : Settings) → FirstOf (32 when (¬ SettingsInRange s) ∷ []) (event_number (set_up s).verdict)
  pub at_pulse_lem :
      (n : Node) (p : Pulse)
      → FirstOf (33 when (¬ BoardInRange n) ∷ 30 when (n.settings.travel.0 < p.0) ∷ [])
      (event_number (after_pulse n p).verdict)
  pub blocked :
      (n : Node) (cause : ℕ)
      → FirstOf (33 when (¬ BoardInRange n) ∷ 31 when ((cause ≢ 0x20) × ((cause ≢ 0x21) × (cause ≢ 0x22))) ∷ [])
      (event_number (after_blocked n cause).verdict)
  pub cleared : (n : Node) → FirstOf (33 when (¬ BoardInRange n) ∷ []) (event_number (after_cleared n).verdict)
  pub power_up : (n : Node) → FirstOf (33 when (¬ BoardInRange n) ∷ []) (event_number (after_power_up n).verdict)
  pub on_frame : (n : Node) (g : Groups) (b : List ℕ)
      → FirstOf (33 when (¬ BoardInRange n) ∷ bundle_rows b) (turn_number (turn_of n g b).answer)
  -- the register and its stored form
  pub file : (run : List Motor) (count line : ℕ) (b : List ℕ)
      → FirstOf (file_rows run count line b) (register_number (filed_of run count line b).answer)
  pub strike_out :
      (run : List Motor) (count line node : ℕ)
      → FirstOf (19 when (¬ RegisterInRange run count) ∷ 20 when (3 < line) ∷ 25 when (found run count line node ≡ none) ∷ [])
      (register_number (struck_of run count line node).answer)
  pub read_form : (run : List Motor) (b : List ℕ) → FirstOf (read_form_rows run b) (register_number (read_of run b).answer)
  pub write_form :
      (run : List Motor) (count : ℕ) (buffer : List ℕ)
      → FirstOf (19 when (¬ RegisterInRange run count) ∷ 45 when (length buffer < 3 + 11 * count) ∷ [])
      (form_number (written_of run count (length buffer)))
  -- the transmitter's messages
  pub read_message : (b : List ℕ) → FirstOf (receive_rows b) (received_number (received_of b))
  pub write_message :
      (buffer : List ℕ) (place : ℕ) (e : Envelope) (m : Message)
      → FirstOf (send_rows (length buffer) place e m) (write_number (message_written (length buffer) place e m))
