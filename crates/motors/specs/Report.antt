-- What a frame from a line reports (document 01, "The register", rows 1 to 6 and 20 to 23).
-- Assumes nothing.
use Rattle.std.specs.Prelude.{if◌then◌else◌, ℕ, Bool, false, List, [], ◌∷◌, eqb, get_or, Result, Ok, Err}
use Rattle.meaning.specs.Tests.{Test, ◌below◌, ◌above◌, opposite, ◌is◌, ◌is_not◌, ◌or◌, ◌and◌}
use Rattle.meaning.specs.Tables.{Row, ◌when◌, decide}
use Rattle.refusal.specs.declared.Refusal.{Refusal}
use Rattle.frame.specs.Address.{group}
use Rattle.frame.specs.Layout.{data_of}
use Rattle.frame.specs.Words.{word_at}
use Rattle.frame.specs.Reading.{reading_of, Reading}
use Rattle.frame.specs.declared.header.Header.{Header}
use Rattle.motors.specs.Motor.{unread, with_reading, zeros, marked, a_node, a_reading}
use Rattle.motors.specs.declared.motor.Motor.{Motor}

-- What a frame reports: the motor that it shows, or a refusal.
abbrev pub Report : Type 0
Report = Result Motor Refusal

-- DATA of a position report: pulse, low byte first; percent; reserved; IP.
abbrev pub pulse_in : List ℕ → ℕ
pulse_in d = word_at d 0

abbrev pub percent_in : List ℕ → ℕ
percent_in d = get_or d 2 0

abbrev pub ip_in : List ℕ → ℕ
ip_in d = get_or d 4 0

-- The percent and the IP as a reading.
abbrev pub reading_in : List ℕ → Test
reading_in d = a_reading (percent_in d) (ip_in d)

-- Why a frame shows no motor: rows 20 to 23.
abbrev pub report_table : ℕ → Header → ℕ → List ℕ → List (Row Report)
report_table line h count d =
    Err Refusal.NoSuchLine when line above 3
    ∷ Err Refusal.NoMotor when opposite (a_node h.source.0) or h.destination.0 is group.0
    ∷ Err Refusal.NotForRegister when h.message is_not 0x60 and h.message is_not 0x0D
    ∷ Err Refusal.BadReading when h.message is 0x0D and (count below 5 or opposite (reading_in d))
    ∷ []

-- 60h shows the motor alone, 0Dh its reading too.
abbrev pub shown_by : ℕ → Header → List ℕ → Motor
shown_by line h d =
    if eqb h.message 0x60 then unread line h.source.0 else
    with_reading line h.source.0 (pulse_in d) (percent_in d) (ip_in d)

-- The first reason that applies, or the motor.
unfoldable pub reported : ℕ → Header → ℕ → List ℕ → Report
reported line h count d = decide (report_table line h count d) (Ok (shown_by line h d))

-- Rows 1 to 6 come first.
abbrev pub report_by : ℕ → List ℕ → Reading → Report
report_by line b (Ok (h, count)) = reported line h count (data_of b)
report_by line b (Err r) = Err r

abbrev pub report_of : ℕ → List ℕ → Report
report_of line b = report_by line b (reading_of b)

-- The motor that a report is about, and whether it has a reading.
abbrev pub subject_of : Report → Motor
subject_of (Ok m) = m
subject_of (Err r) = zeros

abbrev pub shows_reading : Report → Bool
shows_reading (Ok m) = marked m
shows_reading (Err r) = false
