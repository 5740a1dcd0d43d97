-- Each answer to set-up and to an event, where so many of its rows are passed over: the next one applies, or none is left and it is done.
-- Assumes nothing.
use Prim.Native.Nat.{ℕ}
use mathlib.Core.Path.{◌≡◌}
use Rattle.meaning.specs.Tables.{Applies, answer_at, decided}
use Rattle.travel.specs.declared.Pulse.{Pulse}
use Rattle.board.specs.Drive.{at_pulse, blocked_by, unblocked, powered_up}
use Rattle.board.specs.Lock.{over_power_up}
use Rattle.board.specs.Node.{fresh, with_drive, with_lock}
use Rattle.board.specs.Events.{
  set_up_table,
  set_up,
  pulse_table,
  after_pulse,
  blocked_table,
  after_blocked,
  broken_table,
  after_cleared,
  after_power_up,
  done,
}
use Rattle.board.specs.declared.settings.Settings.{Settings}
use Rattle.board.specs.declared.whole.Node.{Node}

pub set_up_at : (s : Settings) (passed : ℕ) → Applies passed (set_up_table s) → set_up s ≡ answer_at passed (set_up_table s) (done (fresh s))
unfolding set_up
set_up_at s passed = decided passed (set_up_table s) (done (fresh s))

module _ (n : Node) (passed : ℕ) where
  pub pulse_at : (p : Pulse) → Applies passed (pulse_table n p)
      → after_pulse n p ≡ answer_at passed (pulse_table n p) (done (with_drive n (at_pulse n.drive p)))
  unfolding after_pulse
  pulse_at p = decided passed (pulse_table n p) (done (with_drive n (at_pulse n.drive p)))

  pub blocked_at : (cause : ℕ) → Applies passed (blocked_table n cause)
      → after_blocked n cause ≡ answer_at passed (blocked_table n cause) (done (with_drive n (blocked_by n.drive cause)))
  unfolding after_blocked
  blocked_at cause = decided passed (blocked_table n cause) (done (with_drive n (blocked_by n.drive cause)))

  pub cleared_at : Applies passed (broken_table n) → after_cleared n ≡ answer_at passed (broken_table n) (done (with_drive n (unblocked n.drive)))
  unfolding after_cleared
  cleared_at = decided passed (broken_table n) (done (with_drive n (unblocked n.drive)))

  pub power_up_at : Applies passed (broken_table n)
      → after_power_up n ≡ answer_at passed (broken_table n) (done (with_lock (with_drive n (powered_up n.drive)) (over_power_up n.lock)))
  unfolding after_power_up
  power_up_at = decided passed (broken_table n) (done (with_lock (with_drive n (powered_up n.drive)) (over_power_up n.lock)))
