-- The words of the promises for stored form 1 (document 01, "The register and its stored form"), in bytes alone. Places
-- are counted from 0.
-- Assumes nothing.
use Rattle.std.specs.Prelude.{ℕ, ◌+◌, ◌-◌, ◌*◌, ◌/◌, ◌%◌, ◌≤◌, ◌<◌, ◌≡◌, ◌⊎◌, List, [], ◌∷◌}
use Rattle.motors.specs.declared.motor.Motor.{Motor}
use Rattle.promises.specs.Wire.{byte_at}
use Rattle.promises.specs.RegisterInRange.{Holds}

-- The count, in two bytes behind the first.
abbrev pub stored_count : List ℕ → ℕ
stored_count b = byte_at b 1 + 256 * byte_at b 2

-- ---- contents: behind the count, 6 bytes a motor
-- Where the entry of motor i begins.
abbrev pub entry_at : ℕ → ℕ
entry_at i = 3 + 6 * i

-- Its line; its NodeID, and the place of its body from the file's start, the low byte first.
abbrev pub stored_line : List ℕ → ℕ → ℕ
stored_line b i = byte_at b (entry_at i)

abbrev pub stored_node : List ℕ → ℕ → ℕ
stored_node b i = byte_at b (entry_at i + 1) + 256 * byte_at b (entry_at i + 2) + 65536 * byte_at b (entry_at i + 3)

abbrev pub stored_place : List ℕ → ℕ → ℕ
stored_place b i = byte_at b (entry_at i + 4) + 256 * byte_at b (entry_at i + 5)

-- ---- bodies: behind the last entry, in that order and without holes, 5 bytes a motor
-- Where the body of motor i begins.
abbrev pub body_at : (count i : ℕ) → ℕ
body_at count i = 3 + 6 * count + 5 * i

-- Its first byte, which is 1 where a reading exists; the pulse, the low byte first; the percent; the IP.
abbrev pub stored_mark : List ℕ → (count i : ℕ) → ℕ
stored_mark b count i = byte_at b (body_at count i)

abbrev pub stored_pulse : List ℕ → (count i : ℕ) → ℕ
stored_pulse b count i = byte_at b (body_at count i + 1) + 256 * byte_at b (body_at count i + 2)

abbrev pub stored_percent : List ℕ → (count i : ℕ) → ℕ
stored_percent b count i = byte_at b (body_at count i + 3)

abbrev pub stored_ip : List ℕ → (count i : ℕ) → ℕ
stored_ip b count i = byte_at b (body_at count i + 4)

-- ---- as laid down
-- Strictly ascending: line, then NodeID as a number.
abbrev pub EntryBefore : List ℕ → ℕ → ℕ → Type 0
EntryBefore b i j =
    (stored_line b i < stored_line b j) ⊎ ((stored_line b i ≡ stored_line b j) × (stored_node b i < stored_node b j))

-- What row 43 asks of the entry of motor i.
pub record EntryRight (b : List ℕ) (count i : ℕ) : Type 0 where
  pub line_0_to_3 : stored_line b i ≤ 3
  pub node_id_from_000001h : 0x000001 ≤ stored_node b i
  pub node_id_to_fffeffh : stored_node b i ≤ 0xFFFEFF
  pub behind_the_entry_before_it : 0 < i → EntryBefore b (i - 1) i
  pub points_to_its_body : stored_place b i ≡ body_at count i

-- What row 44 asks of the body of motor i: 1, and a reading as in row 23; or five zeros.
pub record ReadingRight (b : List ℕ) (count i : ℕ) : Type 0 where
  pub begins_with_1 : stored_mark b count i ≡ 1
  pub percent_to_100 : stored_percent b count i ≤ 100
  pub ip_1_to_16_or_ffh : ((1 ≤ stored_ip b count i) × (stored_ip b count i ≤ 16)) ⊎ (stored_ip b count i ≡ 0xFF)

abbrev pub FiveZeros : List ℕ → (count i : ℕ) → Type 0
FiveZeros b count i = (k : ℕ) → k < 5 → byte_at b (body_at count i + k) ≡ 0

abbrev pub BodyRight : List ℕ → (count i : ℕ) → Type 0
BodyRight b count i = ReadingRight b count i ⊎ FiveZeros b count i

-- ---- as read: a record with each field of motor i
abbrev pub HoldsStored : Motor → List ℕ → (count i : ℕ) → Type 0
HoldsStored m b count i =
    Holds m (stored_line b i) (stored_node b i)
    (stored_mark b count i) (stored_pulse b count i) (stored_percent b count i) (stored_ip b count i)

-- ---- as written: an entry that points to a place, a body with a reading, and one without
abbrev pub entry_bytes : Motor → (place : ℕ) → List ℕ
entry_bytes m place =
    m.line ∷ m.node % 256 ∷ m.node / 256 % 256 ∷ m.node / 65536 ∷ place % 256 ∷ place / 256 ∷ []

abbrev pub reading_bytes : Motor → List ℕ
reading_bytes m = 1 ∷ m.pulse % 256 ∷ m.pulse / 256 ∷ m.percent ∷ m.ip ∷ []

abbrev pub five_zeros : List ℕ
five_zeros = 0 ∷ 0 ∷ 0 ∷ 0 ∷ 0 ∷ []
