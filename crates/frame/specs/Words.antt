-- Numbers of two bytes, the low byte first (document 01: fields of several bytes).
-- Assumes nothing.
use Rattle.std.specs.Prelude.{ℕ, ◌+◌, ◌*◌, ◌/◌, ◌%◌, List, [], ◌∷◌, get_or}

-- The number of two bytes, and the two bytes of a number.
abbrev pub word_of : (low high : ℕ) → ℕ
word_of low high = low + 256 * high

abbrev pub bytes_of_word : ℕ → List ℕ
bytes_of_word number = number % 256 ∷ number / 256 ∷ []

abbrev pub word_at : List ℕ → (place : ℕ) → ℕ
word_at content place = word_of (get_or content place 0) (get_or content (place + 1) 0)
