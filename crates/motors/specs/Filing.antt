-- Filing a frame and striking a motor out: the answer and the places at the end (document 01, "The register", rows 19
-- to 25).
-- Assumes nothing.
use Rattle.std.specs.Prelude.{if◌then◌else◌, ℕ, ◌≡◌, refl, true, not, List, [], ◌∷◌, length, Ok, Err}
use Rattle.std.proofs.Common.{◌∙◌, sym, ap}
use Rattle.std.proofs.lemmas.Bool.{false≢true, not-false}
use Rattle.std.proofs.Math.Option.{Option, none, some}
use Rattle.meaning.specs.Tests.{Test, ◌above◌, fails}
use Rattle.meaning.specs.Tables.{Row, ◌when◌, decide}
use Rattle.refusal.specs.declared.Refusal.{Refusal}
use Rattle.runs.specs.Ordered.{is_some, holds, placed, without}
use Rattle.motors.specs.Motor.{marked}
use Rattle.motors.specs.Order.{by_line_and_node, key_of}
use Rattle.motors.specs.Register.{places, held, filled, sound_of, found}
use Rattle.motors.specs.Report.{report_of, Report}
use Rattle.motors.specs.declared.answer.Next.{Next}
use Rattle.motors.specs.declared.motor.Motor.{Motor}
use Rattle.motors.specs.Answer.{Answer}

-- Done, with these records held; or refused, with every place as it was.
abbrev pub keeping : List Motor → Next
keeping l = record { motors = filled l; answer = Ok (length l) }

abbrev pub refusing : List Motor → Refusal → Next
refusing run r = record { motors = run; answer = Err r }

-- A reading: it takes the place of the last one, or its motor gets its place in the order.
abbrev pub recorded : List Motor → Motor → List Motor
recorded l m = placed by_line_and_node l m

-- A motor that names itself: one that is held stays as it is.
unfoldable pub enrolled : List Motor → Motor → List Motor
enrolled l m = if holds by_line_and_node l (key_of m) then l else recorded l m

-- A report entered, by what it shows.
unfoldable pub entered : List Motor → Motor → List Motor
entered l m = if marked m then recorded l m else enrolled l m

-- Row 24: a new motor while 256 are held would be the 257th.
abbrev pub keep_table : List Motor → List Motor → List (Row Next)
keep_table run l = refusing run Refusal.RegisterFull when length l above places ∷ []

-- These records are held, or refused for want of a place.
unfoldable pub kept_of : List Motor → List Motor → Next
kept_of run l = decide (keep_table run l) (keeping l)

-- A report, entered in one of these ways.
abbrev pub reported_by : (List Motor → Motor → List Motor) → List Motor → ℕ → Report → Next
reported_by enter run count (Ok m) = kept_of run (enter (held run count) m)
reported_by enter run count (Err r) = refusing run r

-- Why no frame is looked at: row 19.
abbrev pub file_table : List Motor → ℕ → List (Row Next)
file_table run count = refusing run Refusal.BrokenRegister when fails (sound_of run count) ∷ []

-- Row 19, then what the frame reports.
unfoldable pub filing_of : (List Motor → Motor → List Motor) → List Motor → ℕ → Report → Next
filing_of enter run count r = decide (file_table run count) (reported_by enter run count r)

-- A frame from a line.
abbrev pub filed_of : List Motor → ℕ → ℕ → List ℕ → Next
filed_of run count line b = filing_of entered run count (report_of line b)

-- What is not found is none.
pub is_none : (f : Option Motor) → not (is_some f) ≡ true → f ≡ none
is_none none e = refl
is_none (some m) e = absurd (false≢true e)

-- No record is found.
abbrev pub nothing : Option Motor → Test
nothing f =
    record {
      holds = not (is_some f);
      fact = f ≡ none;
      other = is_some f ≡ true;
      is_fact = is_none f;
      is_other = not-false (is_some f);
      never_both = λ e s. false≢true (sym (ap is_some e) ∙ s);
    }

-- Why no motor is struck out: rows 19, 20 and 25.
abbrev pub strike_table : List Motor → ℕ → ℕ → ℕ → List (Row Next)
strike_table run count line node =
    refusing run Refusal.BrokenRegister when fails (sound_of run count)
    ∷ refusing run Refusal.NoSuchLine when line above 3
    ∷ refusing run Refusal.NotHeld when nothing (found run count line node)
    ∷ []

-- The first reason that applies, or the records without the motor: the gap is closed.
unfoldable pub struck_of : List Motor → ℕ → ℕ → ℕ → Next
struck_of run count line node =
    decide (strike_table run count line node) (keeping (without by_line_and_node (held run count) (line, node)))

-- The count after a call: the answer's, or the one before.
abbrev pub count_after : ℕ → Answer → ℕ
count_after count (Ok n) = n
count_after count (Err r) = count
