-- Demand 2, the board: an IP is called by the number that it was stored under (2026-03). Two turns: a SET_MOTOR_IP that no
-- code refuses, then a MOVETO.
-- Assumes nothing.
use Rattle.std.specs.Prelude.{ℕ, ◌+◌, ◌*◌, ◌/◌, ◌≤◌, ◌<◌, ◌≡◌, false, List, length, Some, None}
use Rattle.travel.specs.{Position.{pulse_of_percent}, declared.Pulse.{Pulse}}
use Rattle.board.specs.declared.whole.Node.{Node}
use Rattle.node.specs.{Frames.{turn_of}, declared.turn.Turn.{Turn}}
use Rattle.promises.specs.Groups.{Groups}
use Rattle.promises.specs.Wire.{message, data_of, byte_at, word_at}
use Rattle.promises.specs.BoardParts.{percent, drive, with_drive}
use Rattle.promises.specs.Demand2.Turns.{CarriedOut, RefusedBy}
use Rattle.promises.specs.Demand2.Codes.{Accepted, set_ip_rows}
use Rattle.promises.specs.Demand2.Effects.{Arrives}

-- DATA of a SET_MOTOR_IP stores a pulse under a number: function 1 that of the motor, 3 that of a percent, 4 shares.
pub data Stores (n : Node) (d : List ℕ) : (number : ℕ) → Pulse → Type 0 where
  here : byte_at d 0 ≡ 1 → Stores n d (byte_at d 1) n.drive.position
  at_a_percent : byte_at d 0 ≡ 3
      → Stores n d (byte_at d 1) (pulse_of_percent (percent (word_at d 2)) n.settings.travel)
  as_a_share : {number : ℕ} → byte_at d 0 ≡ 4 → 1 ≤ number → number ≤ word_at d 2
      → Stores n d number (pulse_of_percent (percent (100 * number / (word_at d 2 + 1))) n.settings.travel)

-- It leaves nothing under a number: function 0 deletes, 4 shares out less.
pub data Empties (d : List ℕ) : (number : ℕ) → Type 0 where
  deleted : byte_at d 0 ≡ 0 → Empties d (byte_at d 1)
  beyond_the_shares : {number : ℕ} → byte_at d 0 ≡ 4 → word_at d 2 < number → number ≤ 16 → Empties d number

-- A MOVETO of function 2 with a number as its position, to a board that is neither locked nor blocked.
pub record Calls (n : Node) (g : Groups) (b : List ℕ) (number : ℕ) : Type 0 where
  pub arrives : Arrives n g b
  pub is_a_moveto : message b ≡ 0x03
  pub is_long_enough : 4 ≤ length (data_of b)
  pub by_function_2 : byte_at (data_of b) 0 ≡ 2
  pub by_the_number : word_at (data_of b) 1 ≡ number
  pub is_unlocked : n.lock.locked ≡ false
  pub is_not_blocked : n.drive.blocked ≡ false

-- The motor runs to a pulse, down or up, or stands where it is there already. Fields of a motor: position, motion,
-- direction, source, cause, blocked.
pub record GoesTo (n : Node) (b : List ℕ) (t : Turn) (p : Pulse) : Type 0 where
  pub runs_down :
      n.drive.position.0 < p.0
      → CarriedOut n b t (with_drive n (drive n.drive.position (Some p) 0 1 1 false)) None
  pub runs_up :
      p.0 < n.drive.position.0
      → CarriedOut n b t (with_drive n (drive n.drive.position (Some p) 1 1 1 false)) None
  pub stands :
      n.drive.position.0 ≡ p.0
      → CarriedOut n b t (with_drive n (drive n.drive.position None n.drive.direction 0 0 false)) None

-- The board as a SET_MOTOR_IP has left it.
pub record OnceStored (n : Node) (b : List ℕ) (after : Node) : Type 0 where
  pub what_is_stored_under_a_number_is_called_by_it :
      (number : ℕ) (stored : Pulse) → Stores n (data_of b) number stored
      → (h : Groups) (call : List ℕ) → Calls after h call number → GoesTo after call (turn_of after h call) stored
  pub a_number_with_nothing_stored_is_refused_by_23h :
      (number : ℕ) → Empties (data_of b) number
      → (h : Groups) (call : List ℕ) → Calls after h call number → RefusedBy after call (turn_of after h call) 0x23

pub record Called : Type 1 where
  pub each_number_calls_its_ip :
      (n : Node) (g : Groups) (b : List ℕ) → Arrives n g b → message b ≡ 0x15 → Accepted (set_ip_rows n (data_of b))
      → OnceStored n b (turn_of n g b).node
