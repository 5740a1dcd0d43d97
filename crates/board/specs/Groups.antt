-- The group table (document 01, "Is the frame for this node?"): sixteen entries of three bytes each.
-- Assumes nothing.
use Rattle.std.specs.Prelude.{if◌then◌else◌, ℕ, ◌<◌, ◌≡◌, ◌≢◌, Bool, true, false, List, [], ◌∷◌, eqb, ltb, length, get_or, set, replicate, Option, Some, None}
use Rattle.frame.specs.Address.{address_of}
use Rattle.frame.specs.declared.address.Address.{Address}
use Rattle.board.specs.declared.groups.Put.{Put}

abbrev pub Groups : Type 0
Groups = List (List ℕ)

-- Sixteen empty entries.
abbrev pub no_groups : Groups
no_groups = replicate 16 (0 ∷ 0 ∷ 0 ∷ [])

abbrev pub group_of : List ℕ → Address
group_of entry = address_of (get_or entry 0 0) (get_or entry 1 0) (get_or entry 2 0)

-- 000000h is an empty entry and matches nothing.
abbrev pub is_entry_of : List ℕ → Address → Bool
is_entry_of entry source = if eqb (group_of entry).0 0x000000 then false else eqb (group_of entry).0 source.0

unfoldable pub in_table : Address → Groups → Bool
in_table source [] = false
in_table source (entry ∷ groups) = if is_entry_of entry source then true else in_table source groups

-- The same as a sentence: a group is an entry of the table that is not empty.
pub record Member (source : Address) (groups : Groups) : Type 0 where
  pub index : ℕ
  pub in_table_lem : index < length groups
  pub not_empty : (group_of (get_or groups index [])).0 ≢ 0x000000
  pub is_source : (group_of (get_or groups index [])).0 ≡ source.0

abbrev pub put : (index low middle high : ℕ) → Put
put index low middle high = record { index = index; low = low; middle = middle; high = high }

-- What happens to the table in a turn: nothing, or 51h puts an entry.
abbrev pub Change : Type 0
Change = Option Put

-- The table after a turn: one entry is changed by 51h.
abbrev pub applied : Groups → Change → Groups
applied groups None = groups
applied groups (Some p) = if ltb 15 p.index then groups else set groups p.index (p.low ∷ p.middle ∷ p.high ∷ [])
