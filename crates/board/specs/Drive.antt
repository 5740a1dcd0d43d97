-- The motor (document 01, "MOVETO", "STOP", "Events").
-- Assumes nothing.
use Rattle.std.specs.Prelude.{if◌then◌else◌, ℕ, Bool, true, false, ◌&&◌, eqb, ltb, leb, Option, Some, None}
use Rattle.travel.specs.declared.Pulse.{Pulse}
use Rattle.travel.specs.Units.{pulse}
use Rattle.board.specs.declared.drive.Drive.{Drive}

-- The pulse that the motor runs to; none where it stands.
abbrev pub Motion : Type 0
Motion = Option Pulse

abbrev pub drive : Pulse → Motion → ℕ → ℕ → ℕ → Bool → Drive
drive position motion direction source cause blocked =
    record { position = position; motion = motion; direction = direction; source = source; cause = cause; blocked = blocked }

-- Pulse 0 is the up limit, so that a greater pulse lies further down: direction 0 down, 1 up.
abbrev pub towards : Pulse → Pulse → ℕ
towards from to = if ltb from.0 to.0 then 0 else 1

-- MOVETO. Already there: stopped, source 0, cause 0, direction kept. Else running, direction 0 down or 1 up, source 1,
-- cause 1.
abbrev pub moved_to : Drive → Pulse → Drive
moved_to d to =
    if eqb d.position.0 to.0
    then drive d.position None d.direction 0 0 d.blocked
    else drive d.position (Some to) (towards d.position to) 1 1 d.blocked

-- STOP. Running becomes stopped, source 1, cause 1. Otherwise no change.
abbrev pub halted_from : Motion → Drive → Drive
halted_from None d = d
halted_from (Some to) d = drive d.position None d.direction 1 1 d.blocked

abbrev pub halted : Drive → Drive
halted d = halted_from d.motion d

-- At pulse p: position p; if running and p ≥ target (going up, p ≤ target), stopped, source 0, cause 0.
abbrev pub reached : Motion → (direction : ℕ) → Pulse → Bool
reached None direction p = false
reached (Some to) direction p = if eqb direction 1 then leb p.0 to.0 else leb to.0 p.0

abbrev pub at_pulse : Drive → Pulse → Drive
at_pulse d p =
    if reached d.motion d.direction p
    then drive p None d.direction 0 0 d.blocked
    else drive p d.motion d.direction d.source d.cause d.blocked

-- Blocked by a cause: stopped, source 0, that cause.
abbrev pub blocked_by : Drive → ℕ → Drive
blocked_by d cause = drive d.position None d.direction 0 cause true

-- Cleared: no longer blocked.
abbrev pub unblocked : Drive → Drive
unblocked d = drive d.position d.motion d.direction d.source d.cause false

-- Power-up: not running, not blocked, direction FFh, source 0, cause FFh; the position is kept.
abbrev pub powered_up : Drive → Drive
powered_up d = drive d.position None 0xFF 0 0xFF false

-- A fresh node's motor: pulse 0, as after power-up.
abbrev pub fresh_drive : Drive
fresh_drive = drive (pulse 0) None 0xFF 0 0xFF false

abbrev pub is_running : Motion → Bool
is_running None = false
is_running (Some to) = true

-- Row 33: neither the position nor a target, held only while running, beyond the travel.
abbrev pub motion_within : Pulse → Motion → Bool
motion_within travel None = true
motion_within travel (Some to) = leb to.0 travel.0

abbrev pub drive_within : Pulse → Drive → Bool
drive_within travel d = leb d.position.0 travel.0 && motion_within travel d.motion
