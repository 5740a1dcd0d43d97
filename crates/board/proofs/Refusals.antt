-- A refused event returns the node as it was.
-- Assumes nothing.
use Prim.Native.Nat.{ℕ}
use mathlib.Core.Path.{◌≡◌}
use Rattle.meaning.specs.Cases.{zero_is_one}
use Rattle.meaning.specs.Tables.{of_decided}
use Rattle.refusal.specs.declared.Refusal.{Refusal}
use Rattle.travel.specs.declared.Pulse.{Pulse}
use Rattle.board.specs.Drive.{at_pulse, blocked_by, unblocked, powered_up}
use Rattle.board.specs.Lock.{over_power_up}
use Rattle.board.specs.Node.{with_drive, with_lock}
use Rattle.board.specs.Events.{pulse_table, after_pulse, blocked_table, after_blocked, broken_table, after_cleared, after_power_up, done, refused_by}
use Rattle.board.specs.declared.whole.Node.{Node}
use Rattle.board.specs.declared.events.After.{After}
use Rattle.std.specs.Prelude.{Err}

-- Refused, it gives back this very node; done, the verdict says so.
abbrev Unchanged : Node → After → Type 0
Unchanged n a = (r : Refusal) → a.verdict ≡ Err r → a ≡ refused_by n r

module _ (n : Node) where
  refused_as : (q : Refusal) → Unchanged n (refused_by n q)
  refused_as q r e = cc

  done_is_not_refused : (m : Node) → Unchanged n (done m)
  done_is_not_refused m r e = absurd (zero_is_one (cc))

  -- Every row of a table refuses; what is done where none applies is not refused.
  pub refused_pulse_changes_nothing : (p : Pulse) → Unchanged n (after_pulse n p)
  unfolding after_pulse
  refused_pulse_changes_nothing p =
      of_decided (Unchanged n) (pulse_table n p) (done (with_drive n (at_pulse n.drive p)))
      (refused_as Refusal.BrokenNode, (refused_as Refusal.BeyondTravel, tt)) (λ none. done_is_not_refused (with_drive n (at_pulse n.drive p)))

  pub refused_blocking_changes_nothing : (cause : ℕ) → Unchanged n (after_blocked n cause)
  unfolding after_blocked
  refused_blocking_changes_nothing cause =
      of_decided (Unchanged n) (blocked_table n cause) (done (with_drive n (blocked_by n.drive cause)))
      (refused_as Refusal.BrokenNode, (refused_as Refusal.NotBlocking, tt)) (λ none. done_is_not_refused (with_drive n (blocked_by n.drive cause)))

  pub refused_clearing_changes_nothing : Unchanged n (after_cleared n)
  unfolding after_cleared
  refused_clearing_changes_nothing =
      of_decided (Unchanged n) (broken_table n) (done (with_drive n (unblocked n.drive)))
      (refused_as Refusal.BrokenNode, tt) (λ none. done_is_not_refused (with_drive n (unblocked n.drive)))

  pub refused_power_up_changes_nothing : Unchanged n (after_power_up n)
  unfolding after_power_up
  refused_power_up_changes_nothing =
      let m = with_lock (with_drive n (powered_up n.drive)) (over_power_up n.lock) in
      of_decided (Unchanged n) (broken_table n) (done m) (refused_as Refusal.BrokenNode, tt) (λ none. done_is_not_refused m)
