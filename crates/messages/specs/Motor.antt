-- STOP, MOVETO, position and status (document 01, under the message table).
-- Assumes nothing.
use Rattle.std.specs.Prelude.{if◌then◌else◌, ℕ, List, [], ◌∷◌, ◌++◌, eqb, leb, Option, Some, None, is_some}
use Rattle.meaning.specs.Tables.{Row, ◌when◌}
use Rattle.meaning.specs.Tests.{succeeds, fails}
use Rattle.travel.specs.Units.{pulse, percent, ip}
use Rattle.travel.specs.Position.{percent_of_pulse, pulse_of_percent}
use Rattle.board.specs.Drive.{halted, moved_to}
use Rattle.board.specs.Favourites.{is_number, ip_at, is_set, pulse_of, reported_ip, Ip}
use Rattle.board.specs.Node.{with_drive, status_of}
use Rattle.board.specs.declared.whole.Node.{Node}
use Rattle.frame.specs.Words.{bytes_of_word, word_at}
use Rattle.messages.specs.Fields.{byte_at, shorter_than}
use Rattle.messages.specs.Outcome.{acts, posts, refusing}
use Rattle.messages.specs.declared.code.Code.{Code}
use Rattle.messages.specs.declared.motor.Aim.{Aim}
use Rattle.messages.specs.declared.motor.Aim.TheVariants.{Down, Up, ToIp, ToPercent}
use Rattle.messages.specs.declared.outcome.Outcome.{Outcome}

-- 02h STOP, 1: running becomes stopped.
abbrev pub stop_codes : Node → List ℕ → List (Row Code)
stop_codes n d =
    Code.TooLittleData when shorter_than 1 d
    ∷ Code.Locked when succeeds n.lock.locked
    ∷ []

abbrev pub stopped : Node → Outcome
stopped n = acts (with_drive n (halted n.drive)) None

unfoldable pub stop_row : Node → List ℕ → Outcome
stop_row n d = refusing n (stop_codes n d) (stopped n)

-- MOVETO function 2, to IP: position 1..16, the number that SET_MOTOR_IP gives it (2026-03).
abbrev pub to_ip : (position : ℕ) → Option Aim
to_ip position = if is_number (ip position) then Some (ToIp (ip position)) else None

-- Function 4: percent 0..100.
abbrev pub to_percent : (position : ℕ) → Option Aim
to_percent position = if leb position 100 then Some (ToPercent (percent position)) else None

-- 0 down, 1 up (position ignored); 2 to IP; 4 percent. Others 01h.
abbrev pub aim_of : (function position : ℕ) → Option Aim
aim_of function position =
    if eqb function 0 then Some Down else
    if eqb function 1 then Some Up else
    if eqb function 2 then to_ip position else
    if eqb function 4 then to_percent position else
    None

-- Pulse 0 is the up limit, the travel the down limit.
abbrev pub target_of : Node → Option Aim → Ip
target_of n None = None
target_of n (Some Down) = Some n.settings.travel
target_of n (Some Up) = Some (pulse 0)
target_of n (Some (ToIp i)) = ip_at n.favourites i
target_of n (Some (ToPercent k)) = Some (pulse_of_percent k n.settings.travel)

-- 03h MOVETO, 4: function, position 16, reserved.
abbrev pub aim_in : List ℕ → Option Aim
aim_in d = aim_of (byte_at d 0) (word_at d 1)

abbrev pub move_codes : Node → List ℕ → Option Aim → List (Row Code)
move_codes n d aim =
    Code.TooLittleData when shorter_than 4 d
    ∷ Code.OutOfRange when fails (is_some aim)
    ∷ Code.Locked when succeeds n.lock.locked
    ∷ Code.Blocked when succeeds n.drive.blocked
    ∷ Code.IpNotSet when fails (is_set (target_of n aim))
    ∷ []

abbrev pub moved : Node → Ip → Outcome
moved n target = acts (with_drive n (moved_to n.drive (pulse_of target))) None

unfoldable pub move_row : Node → List ℕ → Outcome
move_row n d = refusing n (move_codes n d (aim_in d)) (moved n (target_of n (aim_in d)))

-- 0Ch, 0: 0Dh: pulse 16, percent, reserved, IP.
abbrev pub position_data : Node → List ℕ
position_data n =
    bytes_of_word n.drive.position.0
    ++ ((percent_of_pulse n.drive.position n.settings.travel).0
    ∷ 0xFF
    ∷ reported_ip n.favourites n.drive.position
    ∷ [])

unfoldable pub position_row : Node → Outcome
position_row n = posts n 0x0D (position_data n)

-- 0Eh, 0: 0Fh: status, direction, source, cause.
abbrev pub status_data : Node → List ℕ
status_data n = status_of n ∷ n.drive.direction ∷ n.drive.source ∷ n.drive.cause ∷ []

unfoldable pub status_row : Node → Outcome
status_row n = posts n 0x0F (status_data n)
