-- Demand 2, the board: what a message that no code refuses does to it, whole.
-- Assumes nothing.
use Rattle.std.specs.Prelude.{ℕ, ◌+◌, ◌*◌, ◌/◌, ◌≤◌, ◌<◌, ◌≡◌, ◌≢◌, true, false, List, length, take, Some, None}
use Rattle.travel.specs.{Position.{pulse_of_percent}, declared.Pulse.{Pulse}}
use Rattle.board.specs.{declared.{whole.Node.{Node}}}
use Rattle.node.specs.declared.turn.Turn.{Turn}
use Rattle.promises.specs.BoardInRange.{BoardInRange}
use Rattle.promises.specs.Groups.{Groups}
use Rattle.promises.specs.Meant.{Meant}
use Rattle.promises.specs.Wire.{FrameRules, message, source, data_of, byte_at, word_at}
use Rattle.promises.specs.BoardParts.{pulse, percent, address, drive, lock, ip_of, with_drive, with_lock, with_label}
use Rattle.promises.specs.BoardParts.{put}
use Rattle.promises.specs.Demand2.Turns.{CarriedOut}
use Rattle.promises.specs.Demand2.Codes.{Accepted, stop_rows, move_rows, set_ip_rows, lock_rows, group_rows, label_rows}
use Rattle.board.specs.Favourites.{Ip}

-- A frame that a board in range is meant to carry out.
pub record Arrives (n : Node) (g : Groups) (b : List ℕ) : Type 0 where
  pub in_range_lem : BoardInRange n
  pub is_frame : FrameRules b
  pub is_meant : Meant n g b
  -- as the array of every board has
  pub has_sixteen_ips : length n.favourites.slots ≡ 16

-- Where MOVETO sends the motor, by its function and position: pulse 0 is the up limit, the travel the down limit.
pub data AimedAt (n : Node) (d : List ℕ) : Pulse → Type 0 where
  down : byte_at d 0 ≡ 0 → AimedAt n d n.settings.travel
  up : byte_at d 0 ≡ 1 → AimedAt n d (pulse 0)
  to_ip_lem : {p : Pulse} → byte_at d 0 ≡ 2 → ip_of n.favourites (word_at d 1) ≡ Some p → AimedAt n d p
  to_percent_lem : byte_at d 0 ≡ 4 → AimedAt n d (pulse_of_percent (percent (word_at d 1)) n.settings.travel)

-- Only the IPs of a board are changed: settings, motor, lock and label are as before, and there are sixteen again.
pub record IpsAlone (n after : Node) : Type 0 where
  pub same_settings : after.settings ≡ n.settings
  pub same_motor : after.drive ≡ n.drive
  pub same_lock : after.lock ≡ n.lock
  pub same_label : after.label ≡ n.label
  pub sixteen_again : length after.favourites.slots ≡ 16

-- One IP is set or unset.
pub record OneIp (n after : Node) (number : ℕ) (x : Ip) : Type 0 where
  pub ips_alone : IpsAlone n after
  pub the_ip_named : ip_of after.favourites number ≡ x
  pub every_other_ip :
      (other : ℕ) → 1 ≤ other → other ≤ 16 → other ≢ number → ip_of after.favourites other
      ≡ ip_of n.favourites other

-- So many IPs share the travel: IP i is at percent 100 × i ÷ (count + 1) rounded down, the rest are unset.
pub record SharedOut (n after : Node) (count : ℕ) : Type 0 where
  pub ips_alone : IpsAlone n after
  pub to_the_count :
      (i : ℕ) → 1 ≤ i → i ≤ count
      → ip_of after.favourites i ≡ Some (pulse_of_percent (percent (100 * i / (count + 1))) n.settings.travel)
  pub the_rest : (i : ℕ) → count < i → i ≤ 16 → ip_of after.favourites i ≡ None

-- What an accepted message does. Fields of a motor: position, motion, direction, source, cause, blocked; of a lock:
-- locked, holder, priority, saved.
pub record Effects (n : Node) (b : List ℕ) (t : Turn) : Type 1 where
  -- 02h
  pub a_running_motor_is_stopped :
      message b ≡ 0x02 → Accepted (stop_rows n (data_of b)) → (target : Pulse) → n.drive.motion ≡ Some target
      → CarriedOut n b t
      (with_drive n (drive n.drive.position None n.drive.direction 1 1 n.drive.blocked)) None
  pub a_stop_of_a_motor_at_rest_changes_nothing :
      message b ≡ 0x02 → Accepted (stop_rows n (data_of b)) → n.drive.motion ≡ None → CarriedOut n b t n None
  -- 03h
  pub a_motor_sent_down_runs_down :
      message b ≡ 0x03 → Accepted (move_rows n (data_of b)) → (target : Pulse) → AimedAt n (data_of b) target
      → n.drive.position.0 < target.0
      → CarriedOut n b t (with_drive n (drive n.drive.position (Some target) 0 1 1 false)) None
  pub a_motor_sent_up_runs_up :
      message b ≡ 0x03 → Accepted (move_rows n (data_of b)) → (target : Pulse) → AimedAt n (data_of b) target
      → target.0 < n.drive.position.0
      → CarriedOut n b t (with_drive n (drive n.drive.position (Some target) 1 1 1 false)) None
  pub a_motor_that_is_there_stands :
      message b ≡ 0x03 → Accepted (move_rows n (data_of b)) → (target : Pulse) → AimedAt n (data_of b) target
      → n.drive.position.0 ≡ target.0
      → CarriedOut n b t (with_drive n (drive n.drive.position None n.drive.direction 0 0 false)) None
  -- 15h, functions 0, 1, 3 and 4
  pub an_ip_is_deleted :
      message b ≡ 0x15 → Accepted (set_ip_rows n (data_of b)) → byte_at (data_of b) 0 ≡ 0
      → (after : Node) × (CarriedOut n b t after None × OneIp n after (byte_at (data_of b) 1) None)
  pub an_ip_is_set_here :
      message b ≡ 0x15 → Accepted (set_ip_rows n (data_of b)) → byte_at (data_of b) 0 ≡ 1
      → (after : Node) × (CarriedOut n b t after None × OneIp n after (byte_at (data_of b) 1) (Some n.drive.position))
  pub an_ip_is_set_at_a_percent :
      message b ≡ 0x15 → Accepted (set_ip_rows n (data_of b)) → byte_at (data_of b) 0 ≡ 3
      → (after : Node) × (CarriedOut n b t after None
      × OneIp n after (byte_at (data_of b) 1) (Some (pulse_of_percent (percent (word_at (data_of b) 2)) n.settings.travel)))
  pub ips_are_shared_out :
      message b ≡ 0x15 → Accepted (set_ip_rows n (data_of b)) → byte_at (data_of b) 0 ≡ 4
      → (after : Node) × (CarriedOut n b t after None × SharedOut n after (word_at (data_of b) 2))
  -- 16h, functions 1, 0, 3 and 4
  pub a_lock_stops_a_running_motor_and_is_held_by_its_sender :
      message b ≡ 0x16 → Accepted (lock_rows n (data_of b)) → byte_at (data_of b) 0 ≡ 1
      → (target : Pulse) → n.drive.motion ≡ Some target
      → CarriedOut n b t
      (with_lock (with_drive n (drive n.drive.position None n.drive.direction 1 1 n.drive.blocked))
      (lock true (address (source b)) (byte_at (data_of b) 1) n.lock.saved)) None
  pub a_lock_of_a_motor_at_rest_is_held_by_its_sender :
      message b ≡ 0x16 → Accepted (lock_rows n (data_of b)) → byte_at (data_of b) 0 ≡ 1 → n.drive.motion ≡ None
      → CarriedOut n b t (with_lock n (lock true (address (source b)) (byte_at (data_of b) 1) n.lock.saved)) None
  pub an_unlocked_board_has_no_holder :
      message b ≡ 0x16 → Accepted (lock_rows n (data_of b)) → byte_at (data_of b) 0 ≡ 0
      → CarriedOut n b t (with_lock n (lock false (address 0) 0 n.lock.saved)) None
  pub a_lock_is_saved :
      message b ≡ 0x16 → Accepted (lock_rows n (data_of b)) → byte_at (data_of b) 0 ≡ 3
      → CarriedOut n b t (with_lock n (lock n.lock.locked n.lock.holder n.lock.priority true)) None
  pub a_lock_is_saved_no_more :
      message b ≡ 0x16 → Accepted (lock_rows n (data_of b)) → byte_at (data_of b) 0 ≡ 4
      → CarriedOut n b t (with_lock n (lock n.lock.locked n.lock.holder n.lock.priority false)) None
  -- 51h
  pub a_group_is_stored :
      message b ≡ 0x51 → Accepted (group_rows 4 (data_of b))
      → CarriedOut n b t n
      (Some (put (byte_at (data_of b) 0) (byte_at (data_of b) 1) (byte_at (data_of b) 2) (byte_at (data_of b) 3)))
  -- 55h
  pub a_label_is_stored :
      message b ≡ 0x55 → Accepted (label_rows (data_of b)) → CarriedOut n b t (with_label n (take 16 (data_of b))) None
