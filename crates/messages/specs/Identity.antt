-- Label, version and serial number (document 02, 2026-01).
-- Assumes nothing.
use Rattle.std.specs.Prelude.{ℕ, zero, suc, ◌/◌, ◌%◌, List, [], ◌∷◌, ◌++◌, None}
use Rattle.meaning.specs.Tables.{Row, ◌when◌}
use Rattle.meaning.specs.Tests.{fails}
use Rattle.serial.specs.Serial.{serial_of}
use Rattle.board.specs.Label.{is_label}
use Rattle.board.specs.Node.{with_label}
use Rattle.board.specs.declared.plate.Plate.{Plate}
use Rattle.board.specs.declared.whole.Node.{Node}
use Rattle.messages.specs.Fields.{byte_at, shorter_than}
use Rattle.messages.specs.Outcome.{acts, posts, refusing}
use Rattle.messages.specs.declared.code.Code.{Code}
use Rattle.messages.specs.declared.outcome.Outcome.{Outcome}

-- So many bytes from the first on.
unfoldable pub first_of : (count : ℕ) → List ℕ → List ℕ
first_of zero l = []
first_of (suc count) l = first_of count l ++ (byte_at l count ∷ [])

-- The sixteen characters of a label.
abbrev pub label_in : List ℕ → List ℕ
label_in l = first_of 16 l

-- 45h, 0: 65h: the label.
unfoldable pub label_row : Node → Outcome
label_row n = posts n 0x65 (label_in n.label)

-- 55h, 16: the label: bytes 20h to 7Eh, else 01h.
abbrev pub set_label_codes : List ℕ → List (Row Code)
set_label_codes d =
    Code.TooLittleData when shorter_than 16 d
    ∷ Code.OutOfRange when fails (is_label (label_in d))
    ∷ []

unfoldable pub set_label_row : Node → List ℕ → Outcome
set_label_row n d = refusing n (set_label_codes d) (acts (with_label n (label_in d)) None)

-- 74h, 0: 75h: reference 24, low byte first, letter, number, reserved.
abbrev pub version_of : Plate → List ℕ
version_of p =
    p.reference % 256 ∷ p.reference / 256 % 256 ∷ p.reference / 65536 % 256 ∷ p.letter ∷ p.number ∷ 0xFF ∷ []

unfoldable pub version_row : Node → Outcome
version_row n = posts n 0x75 (version_of n.settings.plate)

-- 4Ch, 0: 6Ch: the serial number.
abbrev pub serial_data : Node → List ℕ
serial_data n = serial_of n.settings.id.0 (first_of 6 n.settings.plate.origin)

unfoldable pub serial_row : Node → Outcome
serial_row n = posts n 0x6C (serial_data n)
