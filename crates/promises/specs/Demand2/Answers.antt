-- Demand 2, the board: what a GET that no code refuses is answered.
-- Assumes nothing.
use Rattle.std.specs.Prelude.{ℕ, ◌/◌, ◌%◌, ◌≡◌, Bool, true, false, List, [], ◌∷◌, get_or, drop, Some, None}
use Rattle.travel.specs.{Position.{percent_of_pulse}, declared.Pulse.{Pulse}}
use Rattle.board.specs.{Favourites.{reported_ip}, Node.{status_of}, declared.{whole.Node.{Node}}}
use Rattle.node.specs.declared.turn.Turn.{Turn}
use Rattle.promises.specs.Groups.{Groups}
use Rattle.promises.specs.Wire.{message, data_of, byte_at}
use Rattle.promises.specs.BoardParts.{ip_of}
use Rattle.promises.specs.Serials.{SerialRules}
use Rattle.promises.specs.Demand2.Turns.{Posted}
use Rattle.promises.specs.Demand2.Codes.{Accepted, ip_rows, group_rows}

-- 1 for yes, 0 for no.
abbrev pub one_if : Bool → ℕ
one_if true = 1
one_if false = 0

-- Reserved bytes are sent as FFh.
pub record Answers (n : Node) (g : Groups) (b : List ℕ) (t : Turn) : Type 1 where
  -- 0Ch: pulse, percent, reserved, IP
  pub position_is_told :
      message b ≡ 0x0C
      → Posted n b t 0x0D
      (n.drive.position.0 % 256 ∷ n.drive.position.0 / 256
      ∷ (percent_of_pulse n.drive.position n.settings.travel).0 ∷ 0xFF
      ∷ reported_ip n.favourites n.drive.position ∷ [])
  -- 0Eh
  pub status_is_told :
      message b ≡ 0x0E
      → Posted n b t 0x0F (status_of n ∷ n.drive.direction ∷ n.drive.source ∷ n.drive.cause ∷ [])
  -- 25h: index, reserved, percent or FFh
  pub an_ip_is_told :
      message b ≡ 0x25 → Accepted (ip_rows (data_of b)) → (p : Pulse) → ip_of n.favourites (byte_at (data_of b) 0) ≡ Some p
      → Posted n b t 0x35 (byte_at (data_of b) 0 ∷ 0xFF ∷ 0xFF ∷ (percent_of_pulse p n.settings.travel).0 ∷ [])
  pub an_unset_ip_is_told_as_ffh :
      message b ≡ 0x25 → Accepted (ip_rows (data_of b)) → ip_of n.favourites (byte_at (data_of b) 0) ≡ None
      → Posted n b t 0x35 (byte_at (data_of b) 0 ∷ 0xFF ∷ 0xFF ∷ 0xFF ∷ [])
  -- 26h: status, holder in three bytes, priority, saved
  pub the_lock_is_told :
      message b ≡ 0x26
      → Posted n b t 0x36
      (one_if n.lock.locked
      ∷ n.lock.holder.0 % 256 ∷ n.lock.holder.0 / 256 % 256 ∷ n.lock.holder.0 / 65536 % 256
      ∷ n.lock.priority ∷ one_if n.lock.saved ∷ [])
  -- 40h: the address is the reply's own SOURCE
  pub the_address_is_told : message b ≡ 0x40 → Posted n b t 0x60 []
  -- 41h: index, group in three bytes
  pub a_group_is_told :
      message b ≡ 0x41 → Accepted (group_rows 1 (data_of b)) → (low middle high : ℕ)
      → get_or g (byte_at (data_of b) 0) [] ≡ low ∷ middle ∷ high ∷ []
      → Posted n b t 0x61 (byte_at (data_of b) 0 ∷ low ∷ middle ∷ high ∷ [])
  -- 45h: the sixteen characters
  pub the_label_is_told : message b ≡ 0x45 → Posted n b t 0x65 n.label
  -- 74h: reference in three bytes, letter, number, reserved
  pub the_version_is_told :
      message b ≡ 0x74
      → Posted n b t 0x75
      (n.settings.plate.reference % 256 ∷ n.settings.plate.reference / 256 % 256
      ∷ n.settings.plate.reference / 65536 % 256
      ∷ n.settings.plate.letter ∷ n.settings.plate.number ∷ 0xFF ∷ [])
  -- 4Ch: the right serial of the NodeID with the plate's maker, year and week
  pub the_serial_number_is_told :
      message b ≡ 0x4C
      → (serial : List ℕ) × (SerialRules n.settings.id.0 serial × ((drop 6 serial ≡ n.settings.plate.origin)
      × Posted n b t 0x6C serial))
