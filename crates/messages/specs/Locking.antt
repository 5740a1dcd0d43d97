-- SET_NETWORK_LOCK, and what is told of the lock (document 01, "Lock"; 000 for 36h's status).
-- Assumes nothing.
use Rattle.std.specs.Prelude.{if◌then◌else◌, ℕ, true, false, List, [], ◌∷◌, ◌++◌, eqb, None}
use Rattle.meaning.specs.Membership.{is_in}
use Rattle.meaning.specs.Tables.{Row, ◌when◌}
use Rattle.meaning.specs.Tests.{fails, ◌at_most◌, ◌and◌}
use Rattle.frame.specs.Address.{bytes_of}
use Rattle.frame.specs.declared.address.Address.{Address}
use Rattle.board.specs.Drive.{halted}
use Rattle.board.specs.Lock.{admits, locked, unlocked, saving}
use Rattle.board.specs.Node.{with_drive, with_lock}
use Rattle.board.specs.declared.lock.Lock.{Lock}
use Rattle.board.specs.declared.whole.Node.{Node}
use Rattle.messages.specs.Fields.{byte_at, shorter_than, bit}
use Rattle.messages.specs.Outcome.{acts, posts, refusing}
use Rattle.messages.specs.declared.code.Code.{Code}
use Rattle.messages.specs.declared.lock.Locking.{Locking}
use Rattle.messages.specs.declared.lock.Locking.TheVariants.{Unlock, Lock as ToLock, SetSaved, ClearSaved}
use Rattle.messages.specs.declared.outcome.Outcome.{Outcome}

-- 0 unlock, 1 lock, 3 and 4 set and clear "saved". Others 01h.
abbrev pub lock_functions : List ℕ
lock_functions = 0 ∷ 1 ∷ 3 ∷ 4 ∷ []

-- The function that asks for each.
abbrev pub function_of : Locking → ℕ
function_of Unlock = 0
function_of ToLock = 1
function_of SetSaved = 3
function_of ClearSaved = 4

-- 16h SET_NETWORK_LOCK, 2: function, priority. To unlock or lock takes a priority at least the holder's if locked; 3
-- and 4 are accepted always.
abbrev pub set_lock_codes : Node → List ℕ → (function priority : ℕ) → List (Row Code)
set_lock_codes n d function priority =
    Code.TooLittleData when shorter_than 2 d
    ∷ Code.OutOfRange when fails (is_in function lock_functions)
    ∷ Code.PriorityTooLow when (function at_most 1) and (fails (admits n.lock priority))
    ∷ []

-- Lock records SOURCE and priority. Unlock zeroes both.
abbrev pub lock_by : Lock → Address → (function priority : ℕ) → Lock
lock_by lock source function priority =
    if eqb function 0 then unlocked lock else
    if eqb function 1 then locked lock source priority else
    if eqb function 3 then saving lock true else
    saving lock false

-- A lock stops a running motor as STOP does.
abbrev pub locked_by : Node → Address → (function priority : ℕ) → Node
locked_by n source function priority =
    if eqb function 1 then with_lock (with_drive n (halted n.drive)) (lock_by n.lock source function priority) else
    with_lock n (lock_by n.lock source function priority)

unfoldable pub set_lock_row : Node → Address → List ℕ → Outcome
set_lock_row n source d =
    refusing n (set_lock_codes n d (byte_at d 0) (byte_at d 1)) (acts (locked_by n source (byte_at d 0) (byte_at d 1)) None)

-- 26h, 0: 36h: status, source 24, priority, saved.
abbrev pub lock_data : Node → List ℕ
lock_data n = bit n.lock.locked ∷ (bytes_of n.lock.holder ++ (n.lock.priority ∷ bit n.lock.saved ∷ []))

unfoldable pub lock_row : Node → Outcome
lock_row n = posts n 0x36 (lock_data n)
