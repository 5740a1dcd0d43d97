-- A motor's serial number (02, 2026-01): twelve ASCII characters, its NodeID in six hex digits and then its origin.
-- Assumes nothing.
use Rattle.std.specs.Prelude.{if◌then◌else◌, ℕ, ◌+◌, ◌-◌, ◌*◌, ◌/◌, ◌%◌, ◌≤◌, ◌⊎◌, Bool, true, false, ◌&&◌, List, [], ◌∷◌, ◌++◌, ltb, eqb, length, get_or, drop}
use Rattle.meaning.specs.Tests.{Test, ◌at_least◌, ◌at_most◌, ◌is◌, succeeds, ◌and◌}

-- ---- spelling
-- The capital hex digit of 0 to 15: 30h to 39h, then 41h to 46h.
abbrev pub hex_digit : ℕ → ℕ
hex_digit digit = if ltb digit 10 then 0x30 + digit else 0x37 + digit

-- 0 to 9 or A to F.
abbrev pub IsHexDigit : ℕ → Type 0
IsHexDigit character = ((0x30 ≤ character) × (character ≤ 0x39)) ⊎ ((0x41 ≤ character) × (character ≤ 0x46))

-- The six hex digits of a NodeID, the high byte first: 01:02:03 is 010203.
abbrev pub node_digits : ℕ → List ℕ
node_digits id =
    hex_digit (id / 0x100000 % 16)
    ∷ hex_digit (id / 0x10000 % 16)
    ∷ hex_digit (id / 0x1000 % 16)
    ∷ hex_digit (id / 0x100 % 16)
    ∷ hex_digit (id / 0x10 % 16)
    ∷ hex_digit (id % 16)
    ∷ []

-- The NodeID, then maker, year and week as they are.
abbrev pub serial_of : (id : ℕ) → (origin : List ℕ) → List ℕ
serial_of id origin = node_digits id ++ origin

-- ---- the origin
-- A capital letter.
abbrev pub a_letter : ℕ → Test
a_letter character = character at_least 0x41 and character at_most 0x5A

-- A digit.
abbrev pub a_digit : ℕ → Test
a_digit character = character at_least 0x30 and character at_most 0x39

-- The number that a week's two digits spell.
abbrev pub week_of : (tens ones : ℕ) → ℕ
week_of tens ones = 10 * (tens - 0x30) + (ones - 0x30)

-- A week: two digits, 01 to 53.
abbrev pub a_week : (tens ones : ℕ) → Test
a_week tens ones = a_digit tens and a_digit ones and week_of tens ones at_least 1 and week_of tens ones at_most 53

-- The six characters behind the NodeID: two letters of the maker, two digits of the year, two of the week.
abbrev pub an_origin : List ℕ → Test
an_origin origin =
    a_letter (get_or origin 0 0)
    and a_letter (get_or origin 1 0)
    and a_digit (get_or origin 2 0)
    and a_digit (get_or origin 3 0)
    and a_week (get_or origin 4 0) (get_or origin 5 0)

abbrev pub is_origin : List ℕ → Bool
is_origin origin = (an_origin origin).holds

-- ---- reading
-- The value of a capital hex digit.
abbrev pub hex_value : ℕ → ℕ
hex_value character = if ltb character 0x41 then character - 0x30 else character - 0x37

-- The NodeID that the first six characters spell.
abbrev pub node_of : List ℕ → ℕ
node_of serial =
    0x100000 * hex_value (get_or serial 0 0)
    + 0x10000 * hex_value (get_or serial 1 0)
    + 0x1000 * hex_value (get_or serial 2 0)
    + 0x100 * hex_value (get_or serial 3 0)
    + 0x10 * hex_value (get_or serial 4 0)
    + hex_value (get_or serial 5 0)

-- The characters behind them.
abbrev pub origin_of : List ℕ → List ℕ
origin_of serial = drop 6 serial

-- A list begins with these characters.
abbrev pub begins : (characters : List ℕ) → List ℕ → Bool
begins [] l = true
begins (character ∷ more) [] = false
begins (character ∷ more) (x ∷ l) = eqb x character && begins more l

-- A right serial of a NodeID: twelve characters, the first six the NodeID's, the rest an origin.
abbrev pub a_serial_of : (id : ℕ) → List ℕ → Test
a_serial_of id serial =
    length serial is 12 and succeeds (begins (node_digits id) serial) and an_origin (origin_of serial)

abbrev pub is_serial_of : (id : ℕ) → List ℕ → Bool
is_serial_of id serial = (a_serial_of id serial).holds
