-- Demand 1 is kept.
-- Assumes nothing.
use Prim.Native.Nat.{ℕ, suc, ◌+◌, ◌-◌}
use native.Mathlib.Omega.{arith}
use mathlib.Core.Path.{◌≡◌, refl, ◌∙◌, sym, ap}
use mathlib.Core.Logic.{◌≢◌}
use mathlib.Core.Bool.{false, not, false≢true}
use mathlib.Core.List.{List, [], ◌∷◌}
use lib.Dec.{eqb, leb, ltb}
use lib.ListN.{length, get_or, take, drop}
use lib.Seq.{get_or-drop}
use borrow.Author.Tests.{not-true}
use Rattle.meaning.specs.Choice.{either}
use Rattle.refusal.specs.declared.Refusal.{Refusal}
use Rattle.frame.specs.Reading.{reading_of, Reading}
use Rattle.frame.specs.Writing.{writing_of, frame_of, laid, buffer_after as buffer_written, Writing}
use Rattle.frame.specs.declared.header.Header.{Header}
use Rattle.frame.proofs.Buffers.{refused_writes_nothing}
use Rattle.line.specs.Reader.{is_sound, ending_silence, ended_with, answered_by, step_of, close_of, goes_on, run_of, ran_of, begun, fresh, no_bytes}
use Rattle.line.specs.declared.reader.Reader.{Reader}
use Rattle.line.specs.declared.reader.Stepped.{Stepped}
use Rattle.line.specs.declared.reader.Ran.{Ran}
use Rattle.line.proofs.Steps.{step_broken, close_broken, run_broken, run_unequal, run_past_end}
use Rattle.board.specs.Settings.{in_range}
use Rattle.board.specs.Node.{fresh as fresh_node}
use Rattle.board.specs.Events.{set_up, after_pulse, after_blocked, after_cleared, after_power_up, refused_by, Verdict}
use Rattle.board.specs.declared.settings.Settings.{Settings}
use Rattle.board.specs.declared.whole.Node.{Node}
use Rattle.board.specs.declared.events.After.{After}
use Rattle.board.proofs.StateRows.{by_settings}
use Rattle.board.proofs.Refusals.{
  refused_pulse_changes_nothing,
  refused_blocking_changes_nothing,
  refused_clearing_changes_nothing,
  refused_power_up_changes_nothing,
}
use Rattle.node.specs.Turn.{Answer as Turning}
use Rattle.node.specs.Frames.{turn_of}
use Rattle.meaning.specs.Membership.{is_in, IsOneOf, is_in_lem}
use Rattle.meaning.specs.Cases.{zero_is_one}
use Rattle.node.proofs.Laws.{refused_by_a_number_changes_nothing}
use Rattle.motors.specs.Filing.{filed_of, struck_of}
use Rattle.motors.proofs.FilingLaws.{a_refused_frame_changes_no_record}
use Rattle.motors.proofs.StrikingLaws.{a_refused_striking_changes_no_record}
use Rattle.form.specs.Reading.{read_of}
use Rattle.form.specs.Writing.{written_of, Written}
use Rattle.form.proofs.FormLaws.{a_refused_form_leaves_the_run_as_it_was, a_refused_writing_changes_no_byte}
use Rattle.rts.specs.{
  Table.{data_of as content_of},
  Writing.{header_of, written_of as message_written, buffer_after as message_laid},
  declared.{envelope.Envelope.{Envelope}, message.Message.{Message}},
}
use Rattle.promises.specs.Numbers.{write_number, line_number, event_number, turn_number, register_number, form_number, no_frame}
use Rattle.promises.specs.BoardInRange.{BoardInRange}
use Rattle.promises.specs.Groups.{Groups}
use Rattle.promises.specs.Reply.{Untouched}
use Rattle.promises.specs.Demand1.{Demand1}
use Rattle.promises.proofs.ReaderInRange.{is_sound_lem, is_broken}
use Rattle.promises.proofs.BoardInRange as board
use Rattle.promises.proofs.Rows.{rows}
use Rattle.motors.specs.Answer.{Answer}
use Rattle.std.specs.Prelude.{Some, None, Ok, Err}

-- ---- a number that is not 0 is a refusal's
module _ {P : Type 0} where
  of_writing : (x : Writing) → write_number x ≢ 0 → ((q : Refusal) → x ≡ Err q → P) → P
  of_writing (Ok place) k f = absurd (k refl)
  of_writing (Err q) k f = f q refl

  of_event : (x : Verdict) → event_number x ≢ 0 → ((q : Refusal) → x ≡ Err q → P) → P
  of_event (Ok tt) k f = absurd (k refl)
  of_event (Err q) k f = f q refl

  of_turn : (x : Turning) → turn_number x ≢ 0 → ((q : Refusal) → x ≡ Err q → P) → P
  of_turn (Ok None) k f = absurd (k refl)
  of_turn (Ok (Some reply)) k f = absurd (k refl)
  of_turn (Err q) k f = f q refl

  of_register : (x : Answer) → register_number x ≢ 0 → ((q : Refusal) → x ≡ Err q → P) → P
  of_register (Ok n) k f = absurd (k refl)
  of_register (Err q) k f = f q refl

  of_form : (x : Written) → form_number x ≢ 0 → ((q : Refusal) → x ≡ Err q → P) → P
  of_form (Ok n) k f = absurd (k refl)
  of_form (Err q) k f = f q refl

  -- 0 and 7, 8 and 9 are no numbers of a bundle.
  no_bundle : (k : ℕ) → is_in k no_frame ≡ false → IsOneOf k no_frame → P
  no_bundle k e i = absurd (false≢true (sym e ∙ is_in_lem k no_frame i))

write : (buffer : List ℕ) (place : ℕ) (h : Header) (d : List ℕ) → write_number (writing_of (length buffer) place h d) ≢ 0
    → buffer_written buffer place h d ≡ buffer
write buffer place h d k = of_writing (writing_of (length buffer) place h d) k (refused_writes_nothing buffer place h d)

-- A buffer in which nothing was written is as it was.
laid_by : (a : Writing) (buffer : List ℕ) (place : ℕ) (w : List ℕ) → write_number a ≢ 0 → laid a buffer place w ≡ buffer
laid_by (Ok next) buffer place w k = absurd (k refl)
laid_by (Err q) buffer place w k = refl

write_message : (buffer : List ℕ) (place : ℕ) (e : Envelope) (m : Message) → write_number (message_written (length buffer) place e m) ≢ 0
    → message_laid buffer place e m ≡ buffer
write_message buffer place e m =
    laid_by (message_written (length buffer) place e m) buffer place (frame_of (header_of e m) (content_of m))

-- ---- a refused bundle is dropped
abbrev Dropped : Reader → Stepped → Type 0
Dropped next s = IsOneOf (line_number s.answer) no_frame → (s.reader ≡ next) × (s.bundle ≡ no_bytes)

answered_drops : (x : Reading) (kept : List ℕ) (next : Reader) → Dropped next (answered_by x kept next)
answered_drops (Ok (h, count)) kept next i = no_bundle 0 refl i
answered_drops (Err q) kept next i = (refl, refl)

ended_drops : (r next : Reader) → Dropped next (ended_with r next)
unfolding ended_with
ended_drops r next =
    either (Dropped next) (eqb r.count 0) (λ t. no_bundle 0 refl) λ some.
    either (Dropped next) (ltb 31 r.count) (λ t i. (refl, refl)) λ few.
    answered_drops (reading_of (take r.count r.kept)) r.kept next

step_drops : (r : Reader) (byte silence : ℕ) → Dropped (begun byte) (step_of r byte silence)
unfolding step_of
step_drops r byte silence =
    either (Dropped (begun byte)) (not (is_sound r)) (λ t. no_bundle 9 refl) λ fine.
    either (Dropped (begun byte)) (leb ending_silence silence) (λ t. ended_drops r (begun byte)) (λ t. no_bundle 0 refl)

close_drops : (r : Reader) → Dropped fresh (close_of r)
unfolding close_of
close_drops r = either (Dropped fresh) (not (is_sound r)) (λ t. no_bundle 9 refl) (λ t. ended_drops r fresh)

-- A run that a bundle's number ends: the byte that ended the bundle is the last that it read.
record Stopped (bytes : List ℕ) (place : ℕ) (x : Ran) : Type 0 where
  last : ℕ
  behind_it : x.place ≡ place + suc last
  begins_with_it : x.stepped.reader ≡ begun (get_or bytes last 0)
  nothing_handed : x.stepped.bundle ≡ no_bytes

abbrev Stops : List ℕ → ℕ → Ran → Type 0
Stops bytes place x = IsOneOf (line_number x.stepped.answer) no_frame → Stopped bytes place x

run_stops : (r : Reader) (bytes silences : List ℕ) (place : ℕ) → Stops bytes place (run_of r bytes silences place)
unfolding run_of
run_stops r [] silences place = no_bundle 0 refl
run_stops r (byte ∷ bytes) [] place = no_bundle 0 refl
run_stops r (byte ∷ bytes) (silence ∷ silences) place =
    either (Stops (byte ∷ bytes) place) (goes_on (step_of r byte silence).answer)
    (λ t i.
    let s = run_stops (step_of r byte silence).reader bytes silences (suc place) i in
    record { last = suc s.last; behind_it = omega (arith, s.behind_it); begins_with_it = s.begins_with_it; nothing_handed = s.nothing_handed })
    (λ t i.
    let s = step_drops r byte silence i in
    record { last = 0; behind_it = omega arith; begins_with_it = s.0; nothing_handed = s.1 })

abbrev RunDropped : List ℕ → Ran → Type 0
RunDropped bytes x =
    IsOneOf (line_number x.stepped.answer) no_frame
    → (x.stepped.reader ≡ begun (get_or bytes (x.place - 1) 0)) × (x.stepped.bundle ≡ no_bytes)

from_place : (bytes : List ℕ) (place : ℕ) (x : Ran) → Stops (drop place bytes) place x → RunDropped bytes x
from_place bytes place x stops i =
    let s = stops i in
    let last : x.place - 1 ≡ place + s.last = omega (arith, s.behind_it) in
    (s.begins_with_it ∙ ap begun (get_or-drop place bytes s.last 0 ∙ ap (λ (k : ℕ). get_or bytes k 0) (sym last)), s.nothing_handed)

run_drops : (r : Reader) (bytes silences : List ℕ) (place : ℕ) → RunDropped bytes (ran_of r bytes silences place)
unfolding ran_of
run_drops r bytes silences place =
    either (RunDropped bytes) (not (is_sound r)) (λ t. no_bundle 9 refl) λ fine.
    either (RunDropped bytes) (not (eqb (length bytes) (length silences))) (λ t. no_bundle 7 refl) λ same.
    either (RunDropped bytes) (ltb (length bytes) place) (λ t. no_bundle 8 refl) λ within.
    from_place bytes place (run_of r (drop place bytes) (drop place silences) place) (run_stops r (drop place bytes) (drop place silences) place)

-- ---- the board
set_up_lem : (s : Settings) → event_number (set_up s).verdict ≢ 0 → ¬ BoardInRange (set_up s).node
unfolding set_up
set_up_lem s =
    either (λ (a : After). event_number a.verdict ≢ 0 → ¬ BoardInRange a.node) (not (in_range s))
    (λ t k r. false≢true (sym (by_settings (fresh_node s) (not-true _ t)) ∙ board.is_sound_lem (fresh_node s) r))
    (λ t k. absurd (k refl))

node_of : (a : After) (n : Node) (q : Refusal) → a ≡ refused_by n q → a.node ≡ n
node_of a n q e = ap (λ (x : After). x.node) e

on_frame : (n : Node) (g : Groups) (b : List ℕ) → turn_number (turn_of n g b).answer ≢ 0 → Untouched n (turn_of n g b)
on_frame n g b k =
    of_turn (turn_of n g b).answer k λ q e.
    rw (refused_by_a_number_changes_nothing n g b q e)
    (record { node_kept = refl; table_kept = refl; not_answered = λ e. zero_is_one (cc); nothing_said = refl })

pub kept : Demand1
kept =
    record {
      rows = rows;
      write = write;
      step_9 = λ r byte silence n. step_broken r byte silence (is_broken r n);
      close_9 = λ r n. close_broken r (is_broken r n);
      run_9 = λ r bytes silences place n. run_broken r bytes silences place (is_broken r n);
      run_7 = λ r bytes silences place i. run_unequal r bytes silences place (is_sound_lem r i);
      run_8 = λ r bytes silences place i. run_past_end r bytes silences place (is_sound_lem r i);
      step_drops = step_drops;
      close_drops = close_drops;
      run_drops = run_drops;
      set_up_lem = set_up_lem;
      at_pulse_lem = λ n p k. of_event (after_pulse n p).verdict k (λ q e. node_of (after_pulse n p) n q (refused_pulse_changes_nothing n p q e));
      blocked = λ n c k. of_event (after_blocked n c).verdict k (λ q e. node_of (after_blocked n c) n q (refused_blocking_changes_nothing n c q e));
      cleared = λ n k. of_event (after_cleared n).verdict k (λ q e. node_of (after_cleared n) n q (refused_clearing_changes_nothing n q e));
      power_up = λ n k. of_event (after_power_up n).verdict k (λ q e. node_of (after_power_up n) n q (refused_power_up_changes_nothing n q e));
      on_frame = on_frame;
      file = λ run count line b k. of_register (filed_of run count line b).answer k (a_refused_frame_changes_no_record run count line b);
      strike_out = λ run count line node k. of_register (struck_of run count line node).answer k
          (a_refused_striking_changes_no_record run count line node);
      read_form = λ run b k. of_register (read_of run b).answer k (a_refused_form_leaves_the_run_as_it_was run b);
      write_form = λ run count buffer k. of_form (written_of run count (length buffer)) k (a_refused_writing_changes_no_byte run count buffer);
      write_message = write_message;
    }
