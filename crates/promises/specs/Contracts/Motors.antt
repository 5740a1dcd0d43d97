-- The contracts of `motors`: a record, what a frame reports, one pass over the places, and what a call does to them.
-- Assumes nothing.
use Rattle.std.specs.Prelude.{ℕ, ◌+◌, ◌*◌, Bool, false, ◌&&◌, ◌||◌, leb, eqb, Ok, Err}
use Rattle.motors.specs.{
  Motor.{follows_of},
  Report.{report_of, Report},
  Passing.{past},
  Found.{found_by, gathered},
  Edit.{to_enrol, to_file, to_strike},
  declared.{motor.Motor.{Motor}},
}
use Rattle.motors.proofs as motors
use Rattle.motors.proofs.passing.Passing as Passing
use Rattle.promises.specs.Contracts.Says.{Says}

-- A motor of which no reading exists.
abbrev pub without_reading : (line node : ℕ) → Motor
without_reading line node = record { node = node; line = line; mark = 0; pulse = 0; percent = 0; ip = 0 }

-- The motor that a report is about, and whether it has a reading; of a refusal none.
abbrev pub motor_seen : Report → Motor
motor_seen (Ok motor) = motor
motor_seen (Err r) = without_reading 0 0

abbrev pub reading_seen : Report → Bool
reading_seen (Ok motor) = eqb motor.mark 1
reading_seen (Err r) = false

pub record MotorsContracts : Type 0 where
  -- A motor without a reading; its line and NodeID as one number; row 23; a record that may stand behind another.
  pub unread_is :
      Says motors.unread.Kinds.ps motors.unread.Kinds.r motors.unread.Reads.Pre motors.unread.Reads.Post
      (λ κs (line, (node, _)). without_reading line node)
  pub key_is :
      Says motors.key.Kinds.ps motors.key.Kinds.r motors.key.Reads.Pre motors.key.Reads.Post
      (λ κs (motor, _). motor.node + 4294967296 * motor.line)
  pub is_reading_is :
      Says motors.is_reading.Kinds.ps motors.is_reading.Kinds.r motors.is_reading.Reads.Pre motors.is_reading.Reads.Post
      (λ κs (percent, (ip, _)). leb percent 100 && (eqb ip 0xFF || (leb 1 ip && leb ip 16)))
  pub follows_is :
      Says motors.follows.Kinds.ps motors.follows.Kinds.r motors.follows.Reads.Pre motors.follows.Reads.Post
      (λ κs (previous, (motor, _)). follows_of previous motor)
  -- What a frame from a line reports.
  pub read_report_is :
      Says motors.read_report.Kinds.ps motors.read_report.Kinds.r
      motors.read_report.Reads.Pre motors.read_report.Reads.Post
      (λ κs (line, (bundle, _)). report_of line bundle.now)
  pub subject_is :
      Says motors.subject.Kinds.ps motors.subject.Kinds.r motors.subject.Reads.Pre motors.subject.Reads.Post
      (λ κs (report, _). motor_seen report)
  pub shows_reading_is :
      Says motors.shows_reading.Kinds.ps motors.shows_reading.Kinds.r
      motors.shows_reading.Reads.Pre motors.shows_reading.Reads.Post
      (λ κs (report, _). reading_seen report)
  -- One pass over the places, from the last to the first. Line 4 would begin at 400000000h.
  pub begun_is :
      Says Passing.begun.Kinds.ps Passing.begun.Kinds.r Passing.begun.Reads.Pre Passing.begun.Reads.Post
      (λ κs (count, _). record { next = 0x400000000; place = count; there = 0 })
  pub past_is :
      Says Passing.past.Kinds.ps Passing.past.Kinds.r Passing.past.Reads.Pre Passing.past.Reads.Post
      (λ κs (passing, (wanted, (standing, (at, _)))). past passing wanted standing at)
  pub gather_is :
      Says motors.gather.Kinds.ps motors.gather.Kinds.r motors.gather.Reads.Pre motors.gather.Reads.Post
      (λ κs (bits, (motor, _)). gathered bits motor)
  pub found_by_is :
      Says motors.found_by.Kinds.ps motors.found_by.Kinds.r motors.found_by.Reads.Pre motors.found_by.Reads.Post
      (λ κs (places, (count, (wanted, (passing, (bits, _))))). found_by places count wanted passing bits)
  -- What a call does to the places.
  pub to_enrol_is :
      Says motors.to_enrol.Kinds.ps motors.to_enrol.Kinds.r motors.to_enrol.Reads.Pre motors.to_enrol.Reads.Post
      (λ κs (found, (count, (report, _))). to_enrol found count report)
  pub to_file_is :
      Says motors.to_file.Kinds.ps motors.to_file.Kinds.r motors.to_file.Reads.Pre motors.to_file.Reads.Post
      (λ κs (found, (count, (report, _))). to_file found count report)
  pub to_strike_is :
      Says motors.to_strike.Kinds.ps motors.to_strike.Kinds.r motors.to_strike.Reads.Pre motors.to_strike.Reads.Post
      (λ κs (found, (count, (line, _))). to_strike found count line)
