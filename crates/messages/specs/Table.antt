-- The message table of the node (document 01, and document 02 where it adds to it), row by row.
-- Assumes nothing.
use Rattle.std.specs.Prelude.{ℕ, List, [], ◌∷◌}
use Rattle.meaning.specs.Tables.{Row, ◌when◌, decide}
use Rattle.meaning.specs.Tests.{◌is◌}
use Rattle.frame.specs.declared.address.Address.{Address}
use Rattle.board.specs.Groups.{Groups}
use Rattle.board.specs.declared.whole.Node.{Node}
use Rattle.messages.specs.Outcome.{refuses}
use Rattle.messages.specs.Motor.{stop_row, move_row, position_row, status_row}
use Rattle.messages.specs.Ips.{set_ip_row, ip_row}
use Rattle.messages.specs.Locking.{set_lock_row, lock_row}
use Rattle.messages.specs.Addresses.{address_row, group_row, set_group_row}
use Rattle.messages.specs.Identity.{label_row, set_label_row, version_row, serial_row}
use Rattle.messages.specs.declared.code.Code.{Code}
use Rattle.messages.specs.declared.outcome.Outcome.{Outcome}

-- SOURCE is needed to lock.
abbrev pub message_rows : Node → Groups → (source : Address) → (message : ℕ) → List ℕ → List (Row Outcome)
message_rows n groups source message d =
    stop_row n d when message is 0x02
    ∷ move_row n d when message is 0x03
    ∷ position_row n when message is 0x0C
    ∷ status_row n when message is 0x0E
    ∷ set_ip_row n d when message is 0x15
    ∷ ip_row n d when message is 0x25
    ∷ set_lock_row n source d when message is 0x16
    ∷ lock_row n when message is 0x26
    ∷ address_row n when message is 0x40
    ∷ group_row n groups d when message is 0x41
    ∷ set_group_row n d when message is 0x51
    ∷ label_row n when message is 0x45
    ∷ set_label_row n d when message is 0x55
    ∷ version_row n when message is 0x74
    ∷ serial_row n when message is 0x4C
    ∷ []

-- The first code, 10h: any other message is unknown.
unfoldable pub outcome_of : Node → Groups → (source : Address) → (message : ℕ) → List ℕ → Outcome
outcome_of n groups source message d = decide (message_rows n groups source message d) (refuses n Code.UnknownMessage)

-- The messages that only ask.
pub data Get : ℕ → Type 0 where
  get_position_lem : Get 0x0C
  get_status : Get 0x0E
  get_ip : Get 0x25
  get_lock : Get 0x26
  get_address : Get 0x40
  get_group : Get 0x41
  get_label : Get 0x45
  get_version_lem : Get 0x74
  get_serial_lem : Get 0x4C
