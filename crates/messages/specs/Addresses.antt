-- The node's own address and its groups (document 01, under the message table).
-- Assumes nothing.
use Rattle.std.specs.Prelude.{ℕ, List, [], ◌∷◌, get_or, Some}
use Rattle.meaning.specs.Tables.{Row, ◌when◌}
use Rattle.meaning.specs.Tests.{◌above◌}
use Rattle.board.specs.Groups.{Groups, Change, put}
use Rattle.board.specs.declared.whole.Node.{Node}
use Rattle.messages.specs.Fields.{byte_at, shorter_than}
use Rattle.messages.specs.Outcome.{acts, posts, refusing}
use Rattle.messages.specs.declared.code.Code.{Code}
use Rattle.messages.specs.declared.outcome.Outcome.{Outcome}

-- 40h, 0: 60h, no DATA.
unfoldable pub address_row : Node → Outcome
address_row n = posts n 0x60 []

-- Index 0..15.
abbrev pub group_codes : (least : ℕ) → List ℕ → (index : ℕ) → List (Row Code)
group_codes least d index =
    Code.TooLittleData when shorter_than least d
    ∷ Code.OutOfRange when index above 15
    ∷ []

-- 61h: index, group 24.
abbrev pub group_data : Groups → (index : ℕ) → List ℕ
group_data groups index =
    index ∷ byte_at (get_or groups index []) 0 ∷ byte_at (get_or groups index []) 1 ∷ byte_at (get_or groups index []) 2 ∷ []

-- 41h, 1: index: 61h.
unfoldable pub group_row : Node → Groups → List ℕ → Outcome
group_row n groups d = refusing n (group_codes 1 d (byte_at d 0)) (posts n 0x61 (group_data groups (byte_at d 0)))

-- 51h SET_GROUP_ADDR, 4: index, group 24: store, any value.
abbrev pub put_in : (index : ℕ) → List ℕ → Change
put_in index d = Some (put index (byte_at d 1) (byte_at d 2) (byte_at d 3))

unfoldable pub set_group_row : Node → List ℕ → Outcome
set_group_row n d = refusing n (group_codes 4 d (byte_at d 0)) (acts n (put_in (byte_at d 0) d))
