-- The group table (document 01, "Is the frame for this node?"): sixteen entries of three bytes each.
-- Assumes nothing.
use Rattle.std.specs.Prelude.{ℕ, ◌+◌, ◌*◌, ◌<◌, ◌≡◌, ◌≢◌, List, [], length, get_or}
use Rattle.promises.specs.Wire.{byte_at}

abbrev pub Groups : Type 0
Groups = List (List ℕ)

-- An entry as a number, its low byte first.
abbrev pub group_at : Groups → (index : ℕ) → ℕ
group_at g index = byte_at (get_or g index []) 0 + 256 * byte_at (get_or g index []) 1 + 65536 * byte_at (get_or g index []) 2

-- A SOURCE is in the table. 000000h is an empty entry and matches nothing.
pub record IsMember (source : ℕ) (g : Groups) : Type 0 where
  pub index : ℕ
  pub in_the_table : index < length g
  pub not_empty : group_at g index ≢ 0x000000
  pub is_source : group_at g index ≡ source
