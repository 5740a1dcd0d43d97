-- Set-up and events (document 01, rows 30 to 33, "Events"). A refusal gives back the node as it was.
-- Assumes nothing.
use Rattle.std.specs.Prelude.{ℕ, Bool, ◌||◌, List, [], ◌∷◌, eqb, Result, Ok, Err}
use Rattle.meaning.specs.Tables.{Row, ◌when◌, decide}
use Rattle.meaning.specs.Tests.{fails, ◌above◌}
use Rattle.refusal.specs.declared.Refusal.{Refusal}
use Rattle.travel.specs.declared.Pulse.{Pulse}
use Rattle.board.specs.Settings.{in_range}
use Rattle.board.specs.Drive.{at_pulse, blocked_by, unblocked, powered_up}
use Rattle.board.specs.Lock.{over_power_up}
use Rattle.board.specs.Node.{fresh, sound, with_drive, with_lock}
use Rattle.board.specs.declared.settings.Settings.{Settings}
use Rattle.board.specs.declared.whole.Node.{Node}
use Rattle.board.specs.declared.events.After.{After}

-- What an event answers: done, or a refusal.
abbrev pub Verdict : Type 0
Verdict = Result (Unit {0}) Refusal

abbrev pub done : Node → After
done n = record { node = n; verdict = Ok tt }

abbrev pub refused_by : Node → Refusal → After
refused_by n r = record { node = n; verdict = Err r }

-- Row 32.
abbrev pub set_up_table : Settings → List (Row After)
set_up_table s = refused_by (fresh s) Refusal.BadSettings when fails (in_range s) ∷ []

unfoldable pub set_up : Settings → After
set_up s = decide (set_up_table s) (done (fresh s))

-- Rows 33, then 30.
abbrev pub pulse_table : Node → Pulse → List (Row After)
pulse_table n p =
    refused_by n Refusal.BrokenNode when fails (sound n)
    ∷ refused_by n Refusal.BeyondTravel when p.0 above n.settings.travel.0
    ∷ []

unfoldable pub after_pulse : Node → Pulse → After
after_pulse n p = decide (pulse_table n p) (done (with_drive n (at_pulse n.drive p)))

-- Rows 33, then 31: blocking causes are 20h, 21h, 22h.
abbrev pub blocks : ℕ → Bool
blocks cause = eqb cause 0x20 || (eqb cause 0x21 || eqb cause 0x22)

abbrev pub blocked_table : Node → ℕ → List (Row After)
blocked_table n cause =
    refused_by n Refusal.BrokenNode when fails (sound n)
    ∷ refused_by n Refusal.NotBlocking when fails (blocks cause)
    ∷ []

unfoldable pub after_blocked : Node → ℕ → After
after_blocked n cause = decide (blocked_table n cause) (done (with_drive n (blocked_by n.drive cause)))

-- Row 33.
abbrev pub broken_table : Node → List (Row After)
broken_table n = refused_by n Refusal.BrokenNode when fails (sound n) ∷ []

unfoldable pub after_cleared : Node → After
after_cleared n = decide (broken_table n) (done (with_drive n (unblocked n.drive)))

-- Row 33. Settings, position and favourites are kept.
unfoldable pub after_power_up : Node → After
after_power_up n = decide (broken_table n) (done (with_lock (with_drive n (powered_up n.drive)) (over_power_up n.lock)))
