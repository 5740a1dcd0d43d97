-- A line as its parts come.
-- Assumes nothing.
use Rattle.std.specs.Prelude.{if◌then◌else◌, ℕ, ◌-◌, ◌==◌, List, length, slice_index, take}

-- A part without the line feed at its end, if it has one.
abbrev pub text_of : List ℕ → List ℕ
text_of part = if slice_index part (length part - 1) == 10 then take (length part - 1) part else part
