-- Demand 2, the board: which code refuses a message, and when (document 01, under the message table, and 2026-01). Each table has
-- the codes of one message in order of checking.
-- Assumes nothing.
use Rattle.std.specs.Prelude.{ℕ, ◌≤◌, ◌<◌, ◌≡◌, ◌≢◌, ◌⊎◌, true, List, [], ◌∷◌, length, None}
use Rattle.board.specs.declared.whole.Node.{Node}
use Rattle.node.specs.declared.turn.Turn.{Turn}
use Rattle.meaning.specs.Membership.{IsOneOf}
use Rattle.promises.specs.Wire.{message, data_of, byte_at, word_at}
use Rattle.promises.specs.BoardParts.{ip_of}
use Rattle.promises.specs.BoardInRange.{IsCharacter}
use Rattle.promises.specs.Rows.{Row, ◌when◌, FirstOf}
use Rattle.promises.specs.Demand2.Turns.{RefusedBy}

-- The messages of the table; any other is unknown.
abbrev pub messages : List ℕ
messages = 0x02 ∷ 0x03 ∷ 0x0C ∷ 0x0E ∷ 0x15 ∷ 0x25 ∷ 0x16 ∷ 0x26 ∷ 0x40 ∷ 0x41 ∷ 0x51 ∷ 0x45 ∷ 0x55 ∷ 0x74 ∷ 0x4C ∷ []

-- 02h STOP.
abbrev pub stop_rows : Node → List ℕ → List Row
stop_rows n d = 0x11 when (length d < 1) ∷ 0x20 when (n.lock.locked ≡ true) ∷ []

-- MOVETO's function and position: 0 down, 1 up, 2 to the IP of number 1 to 16 (2026-03), 4 a percent of 0 to 100.
abbrev pub IsAMove : (function position : ℕ) → Type 0
IsAMove function position =
    (function ≡ 0)
    ⊎ ((function ≡ 1)
    ⊎ (((function ≡ 2) × ((1 ≤ position) × (position ≤ 16)))
    ⊎ ((function ≡ 4) × (position ≤ 100))))

-- 03h MOVETO: function, position in two bytes.
abbrev pub move_rows : Node → List ℕ → List Row
move_rows n d =
    0x11 when (length d < 4)
    ∷ 0x01 when (¬ IsAMove (byte_at d 0) (word_at d 1))
    ∷ 0x20 when (n.lock.locked ≡ true)
    ∷ 0xFF when (n.drive.blocked ≡ true)
    ∷ 0x23 when ((byte_at d 0 ≡ 2) × (ip_of n.favourites (word_at d 1) ≡ None))
    ∷ []

-- SET_MOTOR_IP's function, index and value: 4 shares out 1 to 16 IPs; with an index of 1 to 16, 0 deletes, 1 sets here,
-- 3 sets at a percent of 0 to 100.
abbrev pub SetsAnIp : (function index value : ℕ) → Type 0
SetsAnIp function index value =
    ((function ≡ 4) × ((1 ≤ value) × (value ≤ 16)))
    ⊎ (((1 ≤ index) × (index ≤ 16)) × ((function ≡ 0) ⊎ ((function ≡ 1) ⊎ ((function ≡ 3) × (value ≤ 100)))))

-- 15h SET_MOTOR_IP: function, index, value in two bytes.
abbrev pub set_ip_rows : Node → List ℕ → List Row
set_ip_rows n d =
    0x11 when (length d < 4)
    ∷ 0x01 when (¬ SetsAnIp (byte_at d 0) (byte_at d 1) (word_at d 2))
    ∷ 0x23 when ((byte_at d 0 ≡ 0) × (ip_of n.favourites (byte_at d 1) ≡ None))
    ∷ []

-- 25h: index 1 to 16.
abbrev pub ip_rows : List ℕ → List Row
ip_rows d = 0x11 when (length d < 1) ∷ 0x01 when ((byte_at d 0 < 1) ⊎ (16 < byte_at d 0)) ∷ []

-- 16h SET_NETWORK_LOCK: function 0, 1, 3 or 4, and priority; 0 and 1 need at least the holder's if locked.
abbrev pub lock_rows : Node → List ℕ → List Row
lock_rows n d =
    0x11 when (length d < 2)
    ∷ 0x01 when (¬ IsOneOf (byte_at d 0) (0 ∷ 1 ∷ 3 ∷ 4 ∷ []))
    ∷ 0x25 when ((byte_at d 0 ≤ 1) × ((n.lock.locked ≡ true) × (byte_at d 1 < n.lock.priority)))
    ∷ []

-- 41h and 51h: index 0 to 15, of so many bytes of DATA at least.
abbrev pub group_rows : (least : ℕ) → List ℕ → List Row
group_rows least d = 0x11 when (length d < least) ∷ 0x01 when (15 < byte_at d 0) ∷ []

-- 55h: sixteen characters; bytes behind them may be anything.
abbrev pub label_rows : List ℕ → List Row
label_rows d =
    0x11 when (length d < 16)
    ∷ 0x01 when (¬ ((place : ℕ) → place < 16 → IsCharacter (byte_at d place)))
    ∷ []

-- The first code that applies refuses the message; 0 where none does.
abbrev pub FirstCode : Node → List ℕ → Turn → List Row → Type 1
FirstCode n b t rows = (code : ℕ) × (FirstOf rows code × (code ≢ 0 → RefusedBy n b t code))

-- No code applies.
abbrev pub Accepted : List Row → Type 1
Accepted rows = FirstOf rows 0

-- A frame meant for the board, and its turn.
pub record Codes (n : Node) (b : List ℕ) (t : Turn) : Type 1 where
  pub any_other_message_is_unknown : ¬ IsOneOf (message b) messages → RefusedBy n b t 0x10
  pub a_stop_is_refused : message b ≡ 0x02 → FirstCode n b t (stop_rows n (data_of b))
  pub a_moveto_is_refused : message b ≡ 0x03 → FirstCode n b t (move_rows n (data_of b))
  pub a_set_motor_ip_is_refused : message b ≡ 0x15 → FirstCode n b t (set_ip_rows n (data_of b))
  pub a_get_motor_ip_is_refused : message b ≡ 0x25 → FirstCode n b t (ip_rows (data_of b))
  pub a_set_network_lock_is_refused : message b ≡ 0x16 → FirstCode n b t (lock_rows n (data_of b))
  pub a_get_group_addr_is_refused : message b ≡ 0x41 → FirstCode n b t (group_rows 1 (data_of b))
  pub a_set_group_addr_is_refused : message b ≡ 0x51 → FirstCode n b t (group_rows 4 (data_of b))
  pub a_set_node_label_is_refused : message b ≡ 0x55 → FirstCode n b t (label_rows (data_of b))
