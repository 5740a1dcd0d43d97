-- What a frame that is filed leaves in the sender's record, from the bundle's own bytes.
-- Assumes nothing.
use Prim.Native.Nat.{ℕ, ◌+◌, ◌*◌, ◌≤◌, ◌<◌}
use native.Mathlib.Omega.{arith}
use mathlib.Core.Path.{◌≡◌, refl, ap₂}
use mathlib.Core.List.{List}
use mathlib.Core.Option.{none, some}
use lib.ListN.{get_or}
use Rattle.frame.specs.Layout.{message, source, data_of, data_count}
use Rattle.motors.specs.{
  Motor.{unread, with_reading},
  Register.{found},
  Report.{pulse_in, percent_in, ip_in},
  Filing.{filed_of},
  declared.{motor.Motor.{Motor}},
}
use Rattle.motors.proofs.FilingLaws.{a_position_report_is_kept, a_motor_that_names_itself_is_held}
use Rattle.promises.specs.RegisterInRange.{Holds}
use Rattle.promises.specs.Wire.{raw}
use Rattle.promises.proofs.Fileable.{a_report_filed_is_long}
use Rattle.promises.proofs.ReportBytes.{report_byte}
use Rattle.std.specs.Prelude.{Ok}

-- The DATA of a 0Dh that is filed, in the bundle's own bytes.
module _ (run : List Motor) (count line : ℕ) (b : List ℕ) (n : ℕ) (e : (filed_of run count line b).answer ≡ Ok n) (position : message b ≡ 0x0D) where
  long : 5 ≤ data_count b
  long = a_report_filed_is_long run count line b (n, e) position

  byte : (i : ℕ) → i < 5 → get_or (data_of b) i 0 ≡ raw b (9 + i)
  byte i h = report_byte b long i h

  pub read_from_the_bytes : (m : Motor) × ((found (filed_of run count line b).motors n line (source b).0 ≡ some m)
      × Holds m line (source b).0 1 (raw b 9 + 256 * raw b 10) (raw b 11) (raw b 13))
  read_from_the_bytes = (
    with_reading line (source b).0 (pulse_in (data_of b)) (percent_in (data_of b)) (ip_in (data_of b)),
    (
      a_position_report_is_kept run count line b n e position,
      record {
        the_line = refl;
        the_node_id = refl;
        the-mark = refl;
        the_pulse = ap₂ (λ (low high : ℕ). low + 256 * high) (byte 0 (omega arith)) (byte 1 (omega arith));
        the_percent = byte 2 (omega arith);
        the_ip = byte 4 (omega arith);
      },
    ),
  )

-- A motor that names itself and was not held has no reading.
pub named : (run : List Motor) (count line : ℕ) (b : List ℕ) (n : ℕ) → (filed_of run count line b).answer ≡ Ok n
    → message b ≡ 0x60 → found run count line (source b).0 ≡ none
    → (m : Motor) × ((found (filed_of run count line b).motors n line (source b).0 ≡ some m) × Holds m line (source b).0 0 0 0 0)
named run count line b n e m new = (
  unread line (source b).0,
  (
    a_motor_that_names_itself_is_held run count line b n e m new,
    record { the_line = refl; the_node_id = refl; the-mark = refl; the_pulse = refl; the_percent = refl; the_ip = refl },
  ),
)
