-- When the register files a frame, and when it strikes a motor out: the facts that document 01's rows 1 to 6 and 19 to
-- 25 ask.
-- Assumes nothing.
use Rattle.std.specs.Prelude.{ℕ, ◌≤◌, ◌<◌, ◌≡◌, ◌≢◌, ◌⊎◌, List}
use Rattle.std.proofs.Math.Option.{some}
use Rattle.motors.specs.Register.{found}
use Rattle.motors.specs.declared.motor.Motor.{Motor}
use Rattle.promises.specs.Wire.{raw, message, source, destination, data_count, FrameRules}
use Rattle.promises.specs.RegisterInRange.{RegisterInRange}

-- A 0Dh with a reading in it (row 23).
pub record Reports (b : List ℕ) : Type 0 where
  pub is_0dh : message b ≡ 0x0D
  pub from_5_bytes_of_data : 5 ≤ data_count b
  pub percent_to_100 : raw b 11 ≤ 100
  pub ip_1_to_16_or_ffh : ((1 ≤ raw b 13) × (raw b 13 ≤ 16)) ⊎ (raw b 13 ≡ 0xFF)

-- A motor is held: its record is found.
abbrev pub IsHeld : List Motor → (count line node : ℕ) → Type 0
IsHeld run count line node = (m : Motor) × (found run count line node ≡ some m)

pub record Fileable (run : List Motor) (count line : ℕ) (b : List ℕ) : Type 0 where
  -- row 19: 256 places, at most 256 records, in order, zeros behind them
  pub sound_register : RegisterInRange run count
  -- rows 1 to 6
  pub is_frame : FrameRules b
  -- row 20
  pub from_line_0_to_3 : line ≤ 3
  -- row 21
  pub sender_from_000001h : 0x000001 ≤ source b
  pub sender_to_fffeffh : source b ≤ 0xFFFEFF
  pub not_to_a_group : destination b ≢ 0x000000
  -- rows 22 and 23
  pub names_or_reports : (message b ≡ 0x60) ⊎ Reports b
  -- row 24: the motor is held already, or there is a place for one more
  pub has_a_place : IsHeld run count line (source b) ⊎ (count < 256)

pub record Strikeable (run : List Motor) (count line node : ℕ) : Type 0 where
  -- row 19
  pub sound_register : RegisterInRange run count
  -- row 20
  pub on_line_0_to_3 : line ≤ 3
  -- row 25
  pub is_held : IsHeld run count line node
