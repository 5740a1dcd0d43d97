-- A serial number in a motor's record (02, 2026-05): three words of four characters each, the first character high, so
-- that the order of the words is that of the characters. Zeros: none.
-- Assumes nothing.
use Rattle.std.specs.Prelude.{if◌then◌else◌, ℕ, ◌+◌, ◌*◌, ◌/◌, ◌%◌, Bool, ◌&&◌, List, [], ◌∷◌, ◌++◌, ltb, eqb, get_or}
use Rattle.meaning.specs.Tests.{Test, ◌at_least◌, ◌at_most◌, ◌and◌}
use Rattle.serial.specs.Serial.{hex_digit}
use Rattle.serial.specs.declared.words.Serial.{Serial}

-- ---- words and pairs
-- The four characters of a word, the first one high.
abbrev pub four_of : ℕ → List ℕ
four_of word = word / 0x1000000 ∷ word / 0x10000 % 256 ∷ word / 0x100 % 256 ∷ word % 256 ∷ []

-- The word of four characters, and of those of a list from a place on.
abbrev pub word_of : (a b c d : ℕ) → ℕ
word_of a b c d = 0x1000000 * a + 0x10000 * b + 0x100 * c + d

abbrev pub word_at : List ℕ → (place : ℕ) → ℕ
word_at l place = word_of (get_or l place 0) (get_or l (place + 1) 0) (get_or l (place + 2) 0) (get_or l (place + 3) 0)

-- The last two hex digits of a number, half a word.
abbrev pub two_digits : ℕ → ℕ
two_digits number = 0x100 * hex_digit (number / 16 % 16) + hex_digit (number % 16)

-- A character lies from one to another, and so do both of half a word.
abbrev pub within : (from to character : ℕ) → Test
within from to character = character at_least from and character at_most to

abbrev pub both_within : (half from to : ℕ) → Test
both_within half from to = within from to (half / 256) and within from to (half % 256)

-- ---- a serial and its characters
-- The twelve characters, as 6Ch has them in DATA.
unfoldable pub characters_of : Serial → List ℕ
characters_of s = four_of s.first ++ four_of s.second ++ four_of s.third

-- The serial of the first twelve of a list.
unfoldable pub serial_in : List ℕ → Serial
serial_in l = record { first = word_at l 0; second = word_at l 4; third = word_at l 8 }

-- None: twelve zeros.
abbrev pub no_serial : Serial
no_serial = record { first = 0; second = 0; third = 0 }

unfoldable pub is_none : Serial → Bool
is_none s = eqb s.first 0 && eqb s.second 0 && eqb s.third 0

-- ---- the order
-- The first word that differs decides.
unfoldable pub serial_before : Serial → Serial → Bool
serial_before a b =
    if eqb a.first b.first then
    if eqb a.second b.second then ltb a.third b.third
    else ltb a.second b.second
    else ltb a.first b.first

-- Every word is the same.
unfoldable pub serial_same : Serial → Serial → Bool
serial_same a b = eqb a.first b.first && eqb a.second b.second && eqb a.third b.third
