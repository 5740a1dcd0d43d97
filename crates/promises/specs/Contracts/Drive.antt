-- The contracts of `board`'s motor.
-- Assumes nothing.
use Rattle.std.specs.Prelude.{Bool, true, false, Some, None}
use Rattle.travel.specs.declared.Pulse.{Pulse}
use Rattle.board.specs.{Drive.{moved_to, halted, at_pulse, drive_within, Motion}, declared.drive.{Drive.{Drive}}}
use Rattle.board.proofs.drive.Drive as Drive
use Rattle.promises.specs.Contracts.Says.{Says}

-- Power-up: not running, not blocked, direction FFh, source 0, cause FFh.
abbrev pub powered_up_at : Pulse → Drive
powered_up_at position =
    record { position = position; motion = None; direction = 0xFF; source = 0; cause = 0xFF; blocked = false }

-- Running to a target, or not.
abbrev pub running : Motion → Bool
running None = false
running (Some target) = true

pub record DriveContracts : Type 0 where
  -- A fresh node: pulse 0, as after power-up.
  pub drive_fresh_is :
      Says Drive.fresh.Kinds.ps Drive.fresh.Kinds.r Drive.fresh.Reads.Pre Drive.fresh.Reads.Post
      (λ κs _. powered_up_at (record { 0 = 0 }))
  -- MOVETO and STOP.
  pub moved_to_is :
      Says Drive.moved_to.Kinds.ps Drive.moved_to.Kinds.r Drive.moved_to.Reads.Pre Drive.moved_to.Reads.Post
      (λ κs (drive, (target, _)). moved_to drive target)
  pub halted_is :
      Says Drive.halted.Kinds.ps Drive.halted.Kinds.r Drive.halted.Reads.Pre Drive.halted.Reads.Post
      (λ κs (drive, _). halted drive)
  -- Events.
  pub drive_at_pulse_is :
      Says Drive.at_pulse.Kinds.ps Drive.at_pulse.Kinds.r Drive.at_pulse.Reads.Pre Drive.at_pulse.Reads.Post
      (λ κs (drive, (pulse, _)). at_pulse drive pulse)
  pub blocked_by_is :
      Says Drive.blocked_by.Kinds.ps Drive.blocked_by.Kinds.r Drive.blocked_by.Reads.Pre Drive.blocked_by.Reads.Post
      (λ κs (drive, (cause, _)).
      record {
        position = drive.position;
        motion = None;
        direction = drive.direction;
        source = 0;
        cause = cause;
        blocked = true;
      })
  pub unblocked_is :
      Says Drive.unblocked.Kinds.ps Drive.unblocked.Kinds.r Drive.unblocked.Reads.Pre Drive.unblocked.Reads.Post
      (λ κs (drive, _).
      record {
        position = drive.position;
        motion = drive.motion;
        direction = drive.direction;
        source = drive.source;
        cause = drive.cause;
        blocked = false;
      })
  pub powered_up_is :
      Says Drive.powered_up.Kinds.ps Drive.powered_up.Kinds.r Drive.powered_up.Reads.Pre Drive.powered_up.Reads.Post
      (λ κs (drive, _). powered_up_at drive.position)
  -- What status and row 33 ask.
  pub is_running_is :
      Says Drive.is_running.Kinds.ps Drive.is_running.Kinds.r Drive.is_running.Reads.Pre Drive.is_running.Reads.Post
      (λ κs (drive, _). running drive.motion)
  pub drive_within_is :
      Says Drive.within.Kinds.ps Drive.within.Kinds.r Drive.within.Reads.Pre Drive.within.Reads.Post
      (λ κs (drive, (travel, _)). drive_within travel drive)
