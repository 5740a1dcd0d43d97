-- The network lock (document 01, "Lock", "Events").
-- Assumes nothing.
use Rattle.std.specs.Prelude.{if◌then◌else◌, ℕ, Bool, true, false, leb}
use Rattle.frame.specs.Address.{address}
use Rattle.frame.specs.declared.address.Address.{Address}
use Rattle.board.specs.declared.lock.Lock.{Lock}

abbrev pub lock : Bool → Address → ℕ → Bool → Lock
lock locked holder priority saved = record { locked = locked; holder = holder; priority = priority; saved = saved }

abbrev pub no_lock : Lock
no_lock = lock false (address 0) 0 false

-- 0 unlock, 1 lock, with priority at least the holder's if locked.
abbrev pub admits : Lock → ℕ → Bool
admits l priority = if l.locked then leb l.priority priority else true

-- Lock records SOURCE and priority. Unlock zeroes both.
abbrev pub locked : Lock → Address → ℕ → Lock
locked l source priority = lock true source priority l.saved

abbrev pub unlocked : Lock → Lock
unlocked l = lock false (address 0) 0 l.saved

-- 3 and 4 set and clear "saved".
abbrev pub saving : Lock → Bool → Lock
saving l saved = lock l.locked l.holder l.priority saved

-- Power-up: lock dropped and zeroed unless saved.
abbrev pub over_power_up : Lock → Lock
over_power_up l = if l.saved then l else no_lock
