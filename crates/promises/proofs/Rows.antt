-- Every entry point gives the number of the first row that applies: its meaning tests the rows in their order.
-- Assumes nothing.
use Prim.Native.Nat.{ℕ, suc, ◌+◌, ◌*◌, ◌≤◌, ◌<◌}
use native.Mathlib.Omega.{arith}
use mathlib.Core.Path.{subst, ◌≡◌, refl, ◌∙◌, sym, ap₂}
use mathlib.Core.Logic.{◌≢◌, ◌↔◌}
use mathlib.Core.Bool.{Bool, true, false, not, ◌||◌, false≢true}
use mathlib.Core.List.{List, [], ◌∷◌, ◌++◌}
use mathlib.Core.Option.{none}
use lib.Dec.{eqb, leb, ltb}
use lib.ListN.{length, take, drop}
use borrow.Author.Tests.{leb-true, leb-false, ltb-true, ltb-false, eqb-true, eqb-false, ne_eqb, not-true, not-false}
use Rattle.meaning.specs.Choice.{either}
use Rattle.meaning.specs.Tests.{◌below◌, ◌is_not◌, unless}
use Rattle.frame.specs.Layout.{message, source, header_of, data_of, data_count}
use Rattle.frame.specs.Reading.{bundle_table, reading_of, Reading}
use Rattle.frame.specs.Writing.{writer_table, writing_of}
use Rattle.frame.specs.declared.header.Header.{Header}
use Rattle.line.specs.Reader.{is_sound, ending_silence, begun, fresh, answered_by, ended_with, step_of, close_of, goes_on, run_of, ran_of}
use Rattle.line.specs.declared.reader.Reader.{Reader}
use Rattle.line.specs.declared.reader.Stepped.{Stepped}
use Rattle.line.specs.declared.reader.Ran.{Ran}
use Rattle.line.proofs.Steps.{ended_empty, ended_too_long, ended_read, step-ends, step_joins}
use Rattle.travel.specs.declared.Pulse.{Pulse}
use Rattle.board.specs.Settings.{in_range}
use Rattle.board.specs.Node.{sound}
use Rattle.board.specs.Events.{set_up, after_pulse, after_blocked, after_cleared, after_power_up, blocks}
use Rattle.board.specs.declared.settings.Settings.{Settings}
use Rattle.board.specs.declared.whole.Node.{Node}
use Rattle.board.specs.declared.events.After.{After}
use Rattle.messages.specs.declared.outcome.Outcome.{Outcome}
use Rattle.node.specs.Replies.{is_said, answered}
use Rattle.node.specs.declared.turn.Turn.{Turn}
use Rattle.messages.specs.Table.{outcome_of}
use Rattle.node.specs.Frames.{turn_of, turn_by}
use Rattle.node.specs.Meant.{meant}
use Rattle.meaning.specs.Membership.{IsOneOf, as_first}
use Rattle.motors.specs.Register.{held, sound_of, found}
use Rattle.motors.specs.Report.{report_table, shown_by, reported, report_by, report_of, Report}
use Rattle.runs.specs.Ordered.{without}
use Rattle.motors.specs.Order.{by_line_and_node}
use Rattle.motors.specs.Filing.{keeping, entered, keep_table, kept_of, reported_by, file_table, filing_of, filed_of, strike_table, struck_of}
use Rattle.motors.specs.declared.motor.Motor.{Motor}
use Rattle.motors.specs.declared.answer.Next.{Next}
use Rattle.promises.specs.ReaderInRange.{ReaderInRange}
use Rattle.promises.proofs.ReaderInRange.{in_range_exactly_when, is_sound_lem, stays_in_range}
use Rattle.promises.specs.BoardInRange.{SettingsInRange, BoardInRange}
use Rattle.promises.specs.Groups.{Groups}
use Rattle.promises.specs.RegisterInRange.{RegisterInRange}
use Rattle.promises.proofs.BoardInRange.{settings_exactly_when}
use Rattle.promises.proofs.BoardInRange as board
use Rattle.promises.proofs.RegisterInRange.{sound_exactly_when}
use Rattle.promises.proofs.ReportBytes.{bad_by_its_bytes}
use Rattle.promises.proofs.StoredBytes.{contents_exactly_when, bodies_exactly_when}
use Rattle.motors.proofs.Full.{beyond_exactly_when}
use Rattle.form.specs.Layout.{form_length, count_in, contents_right, bodies_right}
use Rattle.form.specs.FormOne.{form_one}
use Rattle.form.specs.Reading.{checked, read_form_table, check_of, read_of}
use Rattle.form.proofs.InPlace.{the_check_is_the_answer}
use Rattle.form.specs.Writing.{write_form_table, written_of}
use Rattle.promises.specs.Numbers.{read_number, write_number, line_number, event_number, turn_number, register_number, form_number, no_frame}
use Rattle.promises.specs.Rows.{
  ◌when◌,
  First,
  FirstOf,
  applies,
  passes,
  none_applies,
  in_case,
  bundle_rows,
  writer_rows,
  open_rows,
  report_rows,
  file_rows,
  read_form_rows,
  Rows,
}
use Rattle.promises.proofs.MessageRows.{read_message, write_message}
use Rattle.promises.proofs.First.{
  choice,
  finds,
  numbered,
  row,
  first,
  first_then,
  retold,
  same_number,
  at_the_end,
  in_other_words,
  as_it_is,
  fails_exactly_when,
  case_holds,
  case_fails,
  within,
  one_number,
  stands_at,
  standing_is_one,
}
use Rattle.motors.specs.Answer.{Answer}
use Rattle.std.specs.Prelude.{Ok, Err}

-- ---- frames
read : (b : List ℕ) → FirstOf (bundle_rows b) (read_number (reading_of b))
unfolding reading_of
read b = first read_number (bundle_table b) (Ok (header_of b, data_count b)) refl

write : (buffer : List ℕ) (place : ℕ) (h : Header) (d : List ℕ)
    → FirstOf (writer_rows (length buffer) place h d) (write_number (writing_of (length buffer) place h d))
unfolding writing_of
write buffer place h d = first write_number (writer_table (length buffer) place h d) (Ok (place + (11 + length d))) refl

-- ---- the line reader
abbrev told : Stepped → ℕ
told s = line_number s.answer

abbrev told_by_run : Ran → ℕ
told_by_run x = told x.stepped

told_as_read : (x : Reading) (kept : List ℕ) (next : Reader) → told (answered_by x kept next) ≡ read_number x
told_as_read (Ok (h, count)) kept next = refl
told_as_read (Err q) kept next = refl

ended : (r next : Reader) → FirstOf (open_rows r) (told (ended_with r next))
ended r next = go (eqb r.count 0) refl (ltb 31 r.count) refl
  where
    go : (t : Bool) → eqb r.count 0 ≡ t → (u : Bool) → ltb 31 r.count ≡ u → FirstOf (open_rows r) (told (ended_with r next))
    go true t u v =
        let none = eqb-true r.count 0 t in
        rw (ended_empty r next none)
        (passes (λ (h : 31 < r.count). omega arith) (case_fails (bundle_rows (take r.count r.kept)) (λ (some : r.count ≢ 0). some none) refl))
    go false t true v =
        let h = ltb-true 31 r.count v in
        rw (ended_too_long r next (eqb-false r.count 0 t) h) (applies h)
    go false t false v =
        let few = ltb-false 31 r.count v in
        rw (ended_read r next (eqb-false r.count 0 t) few, told_as_read (reading_of (take r.count r.kept)) r.kept next)
        (passes (λ (h : 31 < r.count). omega arith) (case_holds (eqb-false r.count 0 t) (read (take r.count r.kept))))

step : (r : Reader) (byte silence : ℕ) → FirstOf (9 when (¬ ReaderInRange r) ∷ in_case (30 ≤ silence) (open_rows r)) (told (step_of r byte silence))
unfolding step_of
step r byte silence =
    row told (unless (is_sound r) (in_range_exactly_when r)) λ fine.
    choice (λ (s : Stepped). FirstOf (in_case (30 ≤ silence) (open_rows r)) (told s)) (leb ending_silence silence)
    (λ t. case_holds (leb-true 30 silence t) (ended r (begun byte)))
    (λ t. case_fails (open_rows r) (λ (h : 30 ≤ silence). omega (arith, leb-false 30 silence t)) refl)

close : (r : Reader) → FirstOf (9 when (¬ ReaderInRange r) ∷ open_rows r) (told (close_of r))
unfolding close_of
close r = row told (unless (is_sound r) (in_range_exactly_when r)) (λ fine. ended r fresh)

-- A step of a reader in range gives 0 or a number of a bundle, and so does its run.
step_number : (r : Reader) (byte silence : ℕ) → ReaderInRange r → IsOneOf (told (step_of r byte silence)) (0 ∷ no_frame)
step_number r byte silence i = go (leb 30 silence) refl
  where
    go : (t : Bool) → leb 30 silence ≡ t → IsOneOf (told (step_of r byte silence)) (0 ∷ no_frame)
    go true t =
        rw (step-ends r byte silence (is_sound_lem r i) (leb-true 30 silence t))
        (within no_frame (search) (ended r (begun byte)))
    go false t = rw (step_joins r byte silence (is_sound_lem r i) (leb-false 30 silence t)) (as_first refl)

run_number : (r : Reader) (bytes silences : List ℕ) (place : ℕ) → ReaderInRange r → IsOneOf (told_by_run (run_of r bytes silences place)) (0 ∷ no_frame)
unfolding run_of
run_number r [] silences place i = as_first refl
run_number r (byte ∷ bytes) [] place i = as_first refl
run_number r (byte ∷ bytes) (silence ∷ silences) place i =
    either (λ (x : Ran). IsOneOf (told_by_run x) (0 ∷ no_frame)) (goes_on (step_of r byte silence).answer)
    (λ t. run_number (step_of r byte silence).reader bytes silences (suc place) (stays_in_range r byte silence i))
    (λ t. step_number r byte silence i)

run : (r : Reader) (bytes silences : List ℕ) (place : ℕ)
    → First (λ given. IsOneOf given (0 ∷ no_frame))
    (9 when (¬ ReaderInRange r) ∷ 7 when (length bytes ≢ length silences) ∷ 8 when (length bytes < place) ∷ [])
    (told_by_run (ran_of r bytes silences place))
unfolding ran_of
run r bytes silences place =
    row told_by_run (unless (is_sound r) (in_range_exactly_when r)) λ fine.
    row told_by_run (length bytes is_not length silences) λ even.
    row told_by_run (length bytes below place) λ within.
    none_applies (run_number r (drop place bytes) (drop place silences) place fine)

-- ---- the board
abbrev decided : After → ℕ
decided a = event_number a.verdict

set_up_lem : (s : Settings) → FirstOf (32 when (¬ SettingsInRange s) ∷ []) (decided (set_up s))
unfolding set_up
set_up_lem s = row decided (unless (in_range s) (settings_exactly_when s)) (λ t. none_applies refl)

neither_of : (a b : Bool) → (a || b) ≡ false → (a ≡ false) × (b ≡ false)
neither_of true b e = absurd (false≢true (sym e))
neither_of false b e = (refl, e)

-- Row 31.
abbrev NoCause : ℕ → Type 0
NoCause cause = (cause ≢ 0x20) × ((cause ≢ 0x21) × (cause ≢ 0x22))

no_cause_is : (cause : ℕ) → blocks cause ≡ false → NoCause cause
no_cause_is cause e =
    let a = neither_of (eqb cause 0x20) (eqb cause 0x21 || eqb cause 0x22) e in
    let b = neither_of (eqb cause 0x21) (eqb cause 0x22) a.1 in
    (eqb-false cause 0x20 a.0, (eqb-false cause 0x21 b.0, eqb-false cause 0x22 b.1))

no_cause_so : (cause : ℕ) → NoCause cause → blocks cause ≡ false
no_cause_so cause (a, (b, c)) = rw (ne_eqb cause 0x20 a, ne_eqb cause 0x21 b, ne_eqb cause 0x22 c)

module _ (n : Node) where
  at_pulse_lem : (p : Pulse) → FirstOf (33 when (¬ BoardInRange n) ∷ 30 when (n.settings.travel.0 < p.0) ∷ []) (decided (after_pulse n p))
  unfolding after_pulse
  at_pulse_lem p = row decided (unless (sound n) (board.sound_exactly_when n))
      (λ t. row decided (n.settings.travel.0 below p.0) (λ u. none_applies refl))

  blocked : (cause : ℕ) → FirstOf (33 when (¬ BoardInRange n) ∷ 31 when (NoCause cause) ∷ []) (decided (after_blocked n cause))
  unfolding after_blocked
  blocked cause =
      row decided (unless (sound n) (board.sound_exactly_when n)) λ t.
      row decided (finds (not (blocks cause)) (λ u. no_cause_is cause (not-true _ u)) (λ u k. false≢true (sym (no_cause_so cause k) ∙ not-false _ u)))
      (λ u. none_applies refl)

  cleared : FirstOf (33 when (¬ BoardInRange n) ∷ []) (decided (after_cleared n))
  unfolding after_cleared
  cleared = row decided (unless (sound n) (board.sound_exactly_when n)) (λ t. none_applies refl)

  power_up : FirstOf (33 when (¬ BoardInRange n) ∷ []) (decided (after_power_up n))
  unfolding after_power_up
  power_up = row decided (unless (sound n) (board.sound_exactly_when n)) (λ t. none_applies refl)

  abbrev turned : Turn → ℕ
  turned t = turn_number t.answer

  answered_by_0 : (h : Header) (o : Outcome) → turned (answered n.settings h o) ≡ 0
  answered_by_0 h o = either (λ (t : Turn). turned t ≡ 0) (is_said o.say h.ack) (λ e. refl) (λ e. refl)

  turned_as_read : (g : Groups) (b : List ℕ) (x : Reading) → turned (turn_by n g b x) ≡ read_number x
  turned_as_read g b (Ok (h, count)) =
      either (λ (t : Turn). turned t ≡ 0) (meant n.settings g h) (λ e. answered_by_0 h (outcome_of n g h.source h.message (data_of b)))
      (λ e. refl)
  turned_as_read g b (Err q) = refl

  on_frame : (g : Groups) (b : List ℕ) → FirstOf (33 when (¬ BoardInRange n) ∷ bundle_rows b) (turned (turn_of n g b))
  unfolding turn_of
  on_frame g b =
      row turned (unless (sound n) (board.sound_exactly_when n)) (λ t. rw (turned_as_read g b (reading_of b)) (read b))

-- ---- the register
abbrev left : Next → ℕ
left x = register_number x.answer

-- Row 19 is told by the facts of a sound register.
unsound : (run : List Motor) (count : ℕ) → (sound_of run count ≡ false) ↔ (¬ RegisterInRange run count)
unsound run count = fails_exactly_when (sound_of run count) (sound_exactly_when run count)

strike_out : (run : List Motor) (count line node : ℕ)
    → FirstOf (19 when (¬ RegisterInRange run count) ∷ 20 when (3 < line) ∷ 25 when (found run count line node ≡ none) ∷ [])
    (left (struck_of run count line node))
unfolding struck_of
strike_out run count line node =
    let table = strike_table run count line node in
    retold (numbered left table) (unsound run count) (first left table (keeping (without by_line_and_node (held run count) (line, node))) refl)

module _ (run : List Motor) (count line : ℕ) (b : List ℕ) where
  abbrev report_number : Report → ℕ
  report_number x = left (reported_by entered run count x)

  abbrev shown : Motor
  shown = shown_by line (header_of b) (data_of b)

  of_the_sender : (shown.line ≡ line) × (shown.node ≡ (source b).0)
  of_the_sender = either (λ (m : Motor). (m.line ≡ line) × (m.node ≡ (source b).0)) (eqb (message b) 0x60) (λ t. (refl, refl)) (λ t. (refl, refl))

  abbrev FullRow : Type 0
  FullRow = (found run count line (source b).0 ≡ none) × (count ≡ 256)

  full : sound_of run count ≡ true → (256 < length (entered (held run count) shown)) ↔ FullRow
  full ok =
      let (l, k) = of_the_sender in
      let same : found run count shown.line shown.node ≡ found run count line (source b).0 = ap₂ (found run count) l k in
      let whole = beyond_exactly_when run count shown ok in
      (λ h. (sym same ∙ (whole.0 h).0, (whole.0 h).1), λ p. whole.1 (same ∙ p.0, p.1))

  entering : sound_of run count ≡ true → FirstOf (24 when FullRow ∷ []) (report_number (Ok shown))
  unfolding kept_of
  entering ok = retold (numbered left (keep_table run (entered (held run count) shown))) (full ok)
      (first left (keep_table run (entered (held run count) shown)) (keeping (entered (held run count) shown)) refl)

  -- Rows 20 to 24, of a frame; row 23 asks DATA, as the bundle's bytes have it.
  reporting : sound_of run count ≡ true
      → FirstOf (report_rows run count line b) (report_number (reported line (header_of b) (data_count b) (data_of b)))
  unfolding reported
  reporting ok =
      let table = report_table line (header_of b) (data_count b) (data_of b) in
      same_number (as_it_is λ p. as_it_is λ q. as_it_is λ r. in_other_words (bad_by_its_bytes b) λ s. as_it_is λ t. at_the_end)
      (first_then report_number table (Ok shown) (24 when FullRow ∷ []) (λ facts. entering ok))

  -- Rows 1 to 6 come first.
  reading : sound_of run count ≡ true → FirstOf (bundle_rows b ++ report_rows run count line b) (report_number (report_of line b))
  unfolding reading_of
  reading ok =
      first_then (λ (x : Reading). report_number (report_by line b x)) (bundle_table b) (Ok (header_of b, data_count b))
      (report_rows run count line b) (λ facts. reporting ok)

file : (run : List Motor) (count line : ℕ) (b : List ℕ) → FirstOf (file_rows run count line b) (left (filed_of run count line b))
unfolding filing_of
file run count line b =
    let more = bundle_rows b ++ report_rows run count line b in
    retold (numbered left (file_table run count) ++ more) (unsound run count)
    (first_then left (file_table run count) (reported_by entered run count (report_of line b)) more (λ facts. reading run count line b facts.0))

-- ---- stored form 1
-- Rows 43 and 44 are told by the bytes of each entry and body.
check_form : (run : List Motor) (b : List ℕ) → FirstOf (read_form_rows run b) (register_number (check_of (length run) b))
unfolding checked
check_form run b =
    let count = count_in b in
    let contents = fails_exactly_when (contents_right form_one count b) (contents_exactly_when b count) in
    let bodies = fails_exactly_when (bodies_right form_one count b) (bodies_exactly_when b count) in
    same_number (as_it_is λ p. as_it_is λ q. as_it_is λ r. as_it_is λ s. in_other_words contents λ t. in_other_words bodies λ u. at_the_end)
    (first register_number (read_form_table (length run) b) (Ok count) refl)

read_form : (run : List Motor) (b : List ℕ) → FirstOf (read_form_rows run b) (left (read_of run b))
read_form run b = subst (λ (a : Answer). FirstOf (read_form_rows run b) (register_number a)) (the_check_is_the_answer run b) (check_form run b)

write_form : (run : List Motor) (count : ℕ) (buffer : List ℕ)
    → FirstOf (19 when (¬ RegisterInRange run count) ∷ 45 when (length buffer < 3 + 11 * count) ∷ [])
    (form_number (written_of run count (length buffer)))
unfolding written_of
write_form run count buffer =
    let table = write_form_table run count (length buffer) in
    retold (numbered form_number table) (unsound run count) (first form_number table (Ok (form_length form_one count)) refl)

pub rows : Rows
rows =
    record {
      one_of_a_list = λ x l. (stands_at x l, λ (place, (h, e)). standing_is_one x l place h e);
      one_number = one_number;
      read = read;
      write = write;
      step = step;
      close = close;
      run = run;
      set_up_lem = set_up_lem;
      at_pulse_lem = at_pulse_lem;
      blocked = blocked;
      cleared = cleared;
      power_up = power_up;
      on_frame = on_frame;
      file = file;
      strike_out = strike_out;
      read_form = read_form;
      write_form = write_form;
      read_message = read_message;
      write_message = write_message;
    }
