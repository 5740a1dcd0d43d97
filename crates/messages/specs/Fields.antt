-- The fields of DATA (document 01): extra bytes are ignored.
-- Assumes nothing.
use Rattle.std.specs.Prelude.{if◌then◌else◌, ℕ, Bool, List, length, get_or}
use Rattle.meaning.specs.Tests.{Test, ◌below◌}

abbrev pub byte_at : List ℕ → ℕ → ℕ
byte_at content place = get_or content place 0

-- 11h: DATA is shorter than the table's "at least".
abbrev pub shorter_than : (least : ℕ) → List ℕ → Test
shorter_than least content = length content below least

abbrev pub bit : Bool → ℕ
bit flag = if flag then 1 else 0
