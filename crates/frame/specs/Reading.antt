-- Reading one bundle (document 01, rows 1 to 6), and the same rules as the sentence "this bundle is a frame".
-- Assumes nothing.
use Rattle.std.specs.Prelude.{ℕ, ◌≤◌, ◌≡◌, ◌≢◌, List, [], ◌∷◌, length, Result, Ok, Err}
use Rattle.meaning.specs.Tests.{◌at_most◌, ◌at_least◌, ◌is◌, ◌is_not◌}
use Rattle.meaning.specs.Tables.{Row, ◌when◌, decide}
use Rattle.refusal.specs.Number.{number_of}
use Rattle.refusal.specs.declared.Refusal.{Refusal}
use Rattle.frame.specs.declared.header.Header.{Header}
use Rattle.frame.specs.Layout.{message, ext, len, summed, stated, header_of, data_count}

-- What a bundle is read as: a frame's header and its count of DATA, or a refusal.
abbrev pub Reading : Type 0
Reading = Result (Header × ℕ) Refusal

-- Why a bundle is no frame: rows 1 to 6.
abbrev pub bundle_table : List ℕ → List (Row Reading)
bundle_table b =
    Err Refusal.TooShort when length b at_most 10
    ∷ Err Refusal.TooLong when length b at_least 32
    ∷ Err Refusal.Extended when ext b is_not 0
    ∷ Err Refusal.WrongLength when len b is_not length b
    ∷ Err Refusal.WrongChecksum when summed b is_not stated b
    ∷ Err Refusal.ReservedMessage when message b is 255
    ∷ []

-- The first reason that applies, or the frame that it is.
unfoldable pub reading_of : List ℕ → Reading
reading_of b = decide (bundle_table b) (Ok (header_of b, data_count b))

-- The SDN rules of a frame.
pub record IsFrame (b : List ℕ) : Type 0 where
  pub from_11_bytes : 11 ≤ length b
  pub to_31_bytes : length b ≤ 31
  pub no_extension : ext b ≡ 0
  pub states_its_length : len b ≡ length b
  pub states_its_sum : summed b ≡ stated b
  pub has_a_message : message b ≢ 255

-- The paper's number of an answer, 0 where nothing is refused.
abbrev pub refused_by : Reading → ℕ
refused_by (Ok (h, n)) = 0
refused_by (Err r) = number_of r
