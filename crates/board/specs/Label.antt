-- The label (document 02, 2026-01): sixteen characters, each 20h to 7Eh.
-- Assumes nothing.
use Rattle.std.specs.Prelude.{ℕ, Bool, ◌&&◌, List, leb, replicate}
use Rattle.meaning.specs.Every.{every}

abbrev pub is_character : ℕ → Bool
is_character byte = leb 0x20 byte && leb byte 0x7E

abbrev pub is_label : List ℕ → Bool
is_label label = every is_character label

-- A fresh label is sixteen spaces.
abbrev pub spaces : List ℕ
spaces = replicate 16 0x20
