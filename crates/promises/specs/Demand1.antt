-- Demand 1: whatever arrives, every entry point answers, ends, and does its work or gives the numbered refusal; a
-- refusal changes no state, record
-- or lent byte, save that a refused bundle is dropped and the reader goes on. That each answers and ends is what its
-- contract says, with no `requires`.
-- Which number is given, and when, is said by `Rows`; what a number that is not 0 leaves is said here, a line for each
-- entry point.
-- Assumes nothing.
use Rattle.std.specs.Prelude.{ℕ, ◌-◌, ◌<◌, ◌≡◌, ◌≢◌, List, length, get_or}
use Rattle.refusal.specs.declared.Refusal.{Refusal}
use Rattle.frame.specs.Writing.{writing_of, buffer_after as buffer_written}
use Rattle.frame.specs.declared.header.Header.{Header}
use Rattle.line.specs.Reader.{step_of, close_of, ran_of}
use Rattle.line.specs.declared.reader.Reader.{Reader}
use Rattle.travel.specs.declared.Pulse.{Pulse}
use Rattle.board.specs.Events.{set_up, after_pulse, after_blocked, after_cleared, after_power_up}
use Rattle.board.specs.declared.settings.Settings.{Settings}
use Rattle.board.specs.declared.whole.Node.{Node}
use Rattle.node.specs.Frames.{turn_of}
use Rattle.meaning.specs.Membership.{IsOneOf}
use Rattle.motors.specs.Filing.{filed_of, struck_of}
use Rattle.motors.specs.declared.motor.Motor.{Motor}
use Rattle.form.specs.Reading.{read_of}
use Rattle.form.specs.Writing.{written_of, buffer_after as form_written}
use Rattle.rts.specs.{
  Writing.{written_of as message_written, buffer_after},
  declared.{envelope.Envelope.{Envelope}, message.Message.{Message}},
}
use Rattle.promises.specs.Numbers.{
  write_number,
  line_number,
  event_number,
  turn_number,
  register_number,
  form_number,
  no_frame,
}
use Rattle.promises.specs.ReaderInRange.{ReaderInRange, zeros31, none_open, begun_with, with_refusal}
use Rattle.promises.specs.BoardInRange.{BoardInRange}
use Rattle.promises.specs.Groups.{Groups}
use Rattle.promises.specs.Reply.{Untouched}
use Rattle.promises.specs.Rows.{Rows}

pub record Demand1 : Type 1 where
  -- every entry point gives the number of the first row that applies
  pub rows : Rows
  -- the frame writer: no byte of the buffer
  pub write :
      (buffer : List ℕ) (place : ℕ) (h : Header) (d : List ℕ) → write_number (writing_of (length buffer) place h d) ≢ 0
      → buffer_written buffer place h d ≡ buffer
  -- the line reader, rows 9, 7 and 8: the very reader, and nothing read
  pub step_9 : (r : Reader) (byte silence : ℕ) → ¬ ReaderInRange r
      → step_of r byte silence ≡ with_refusal r Refusal.BrokenReader
  pub close_9 : (r : Reader) → ¬ ReaderInRange r → close_of r ≡ with_refusal r Refusal.BrokenReader
  pub run_9 : (r : Reader) (bytes silences : List ℕ) (place : ℕ) → ¬ ReaderInRange r
      → ran_of r bytes silences place ≡ record { stepped = with_refusal r Refusal.BrokenReader; place = place }
  pub run_7 :
      (r : Reader) (bytes silences : List ℕ) (place : ℕ) → ReaderInRange r → length bytes ≢ length silences
      → ran_of r bytes silences place ≡ record { stepped = with_refusal r Refusal.UnequalRuns; place = place }
  pub run_8 :
      (r : Reader) (bytes silences : List ℕ) (place : ℕ) → ReaderInRange r → length bytes ≡ length silences
      → length bytes < place
      → ran_of r bytes silences place ≡ record { stepped = with_refusal r Refusal.PlacePastEnd; place = place }
  -- rows 1 to 6: the bundle is dropped, none of it is handed out, and the reader goes on with the byte that ended it;
  -- at the close none is open
  pub step_drops :
      (r : Reader) (byte silence : ℕ) → IsOneOf (line_number (step_of r byte silence).answer) no_frame
      → ((step_of r byte silence).reader ≡ begun_with byte) × ((step_of r byte silence).bundle ≡ zeros31)
  pub close_drops :
      (r : Reader) → IsOneOf (line_number (close_of r).answer) no_frame
      → ((close_of r).reader ≡ none_open) × ((close_of r).bundle ≡ zeros31)
  pub run_drops :
      (r : Reader) (bytes silences : List ℕ) (place : ℕ)
      → IsOneOf (line_number (ran_of r bytes silences place).stepped.answer) no_frame
      → ((ran_of r bytes silences place).stepped.reader
      ≡ begun_with (get_or bytes ((ran_of r bytes silences place).place - 1) 0))
      × ((ran_of r bytes silences place).stepped.bundle ≡ zeros31)
  -- the board: no node that any later call accepts is made, or the very node is kept, the group table too, and there is
  -- no reply
  pub set_up_lem : (s : Settings) → event_number (set_up s).verdict ≢ 0 → ¬ BoardInRange (set_up s).node
  pub at_pulse_lem : (n : Node) (p : Pulse) → event_number (after_pulse n p).verdict ≢ 0 → (after_pulse n p).node ≡ n
  pub blocked : (n : Node) (cause : ℕ) → event_number (after_blocked n cause).verdict ≢ 0
      → (after_blocked n cause).node ≡ n
  pub cleared : (n : Node) → event_number (after_cleared n).verdict ≢ 0 → (after_cleared n).node ≡ n
  pub power_up : (n : Node) → event_number (after_power_up n).verdict ≢ 0 → (after_power_up n).node ≡ n
  pub on_frame : (n : Node) (g : Groups) (b : List ℕ) → turn_number (turn_of n g b).answer ≢ 0
      → Untouched n (turn_of n g b)
  -- the register: every place; its stored form: every place, and every byte of the buffer
  pub file :
      (run : List Motor) (count line : ℕ) (b : List ℕ) → register_number (filed_of run count line b).answer ≢ 0
      → (filed_of run count line b).motors ≡ run
  pub strike_out :
      (run : List Motor) (count line node : ℕ) → register_number (struck_of run count line node).answer ≢ 0
      → (struck_of run count line node).motors ≡ run
  pub read_form : (run : List Motor) (b : List ℕ) → register_number (read_of run b).answer ≢ 0
      → (read_of run b).motors ≡ run
  pub write_form :
      (run : List Motor) (count : ℕ) (buffer : List ℕ) → form_number (written_of run count (length buffer)) ≢ 0
      → form_written run count buffer ≡ buffer
  -- the transmitter's messages: no byte of the buffer
  pub write_message :
      (buffer : List ℕ) (place : ℕ) (e : Envelope) (m : Message)
      → write_number (message_written (length buffer) place e m) ≢ 0 → buffer_after buffer place e m ≡ buffer
