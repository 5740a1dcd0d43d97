-- A motor's serial number (document 02, 2026-01): twelve characters, its NodeID in six capital hex digits, then maker,
-- year and week. Places are counted from 0.
-- Assumes nothing.
use Rattle.std.specs.Prelude.{ℕ, ◌+◌, ◌-◌, ◌*◌, ◌/◌, ◌%◌, ◌^◌, ◌≤◌, ◌<◌, ◌≡◌, ◌↔◌, true, List, length, drop}
use Rattle.serial.specs.Serial.{serial_of, is_origin, node_of, origin_of, is_serial_of}
use Rattle.promises.specs.Wire.{byte_at}

-- The hex digit of a NodeID at a place of six, the high one first.
abbrev pub digit_at : (id place : ℕ) → ℕ
digit_at id place = id / 16 ^ (5 - place) % 16

-- A character spells a hex digit: 30h to 39h for 0 to 9, 41h to 46h for 10 to 15.
pub record Spells (digit character : ℕ) : Type 0 where
  pub to_9 : digit < 10 → character ≡ 0x30 + digit
  pub from_10 : 10 ≤ digit → character ≡ 0x37 + digit

-- A capital letter, and a digit.
pub record IsLetter (character : ℕ) : Type 0 where
  pub from : 0x41 ≤ character
  pub to : character ≤ 0x5A

pub record IsDigit (character : ℕ) : Type 0 where
  pub from : 0x30 ≤ character
  pub to : character ≤ 0x39

-- The number that two digits spell.
abbrev pub spelled : (tens ones : ℕ) → ℕ
spelled tens ones = 10 * (tens - 0x30) + (ones - 0x30)

-- Two letters of the maker, two digits of the year, two of the week, 01 to 53.
pub record OriginRules (origin : List ℕ) : Type 0 where
  pub maker_first : IsLetter (byte_at origin 0)
  pub maker_second : IsLetter (byte_at origin 1)
  pub year_tens : IsDigit (byte_at origin 2)
  pub year_ones : IsDigit (byte_at origin 3)
  pub week_tens : IsDigit (byte_at origin 4)
  pub week_ones : IsDigit (byte_at origin 5)
  pub week_from_1 : 1 ≤ spelled (byte_at origin 4) (byte_at origin 5)
  pub week_to_53 : spelled (byte_at origin 4) (byte_at origin 5) ≤ 53

-- A right serial of a NodeID.
pub record SerialRules (id : ℕ) (serial : List ℕ) : Type 0 where
  pub twelve_characters : length serial ≡ 12
  pub the_node_id_first : (place : ℕ) → place < 6 → Spells (digit_at id place) (byte_at serial place)
  pub then_its_origin : OriginRules (drop 6 serial)

pub record Serials : Type 0 where
  -- A serial, character by character.
  pub a_serial_has_twelve_characters : (id : ℕ) (origin : List ℕ) → length origin ≡ 6 → length (serial_of id origin) ≡ 12
  pub the_node_id_is_spelled :
      (id : ℕ) (origin : List ℕ) (place : ℕ) → place < 6 → Spells (digit_at id place) (byte_at (serial_of id origin) place)
  pub the_origin_stands_behind_it :
      (id : ℕ) (origin : List ℕ) (place : ℕ) → byte_at (serial_of id origin) (6 + place) ≡ byte_at origin place
  -- What is an origin, and what is a right serial.
  pub origins_are_told : (origin : List ℕ) → (is_origin origin ≡ true) ↔ OriginRules origin
  pub right_serials_are_told : (id : ℕ) (serial : List ℕ) → (is_serial_of id serial ≡ true) ↔ SerialRules id serial
  -- Spelled and read back.
  pub the_node_id_is_read_back : (id : ℕ) (origin : List ℕ) → id ≤ 0xFFFFFF → node_of (serial_of id origin) ≡ id
  pub the_origin_is_read_back : (id : ℕ) (origin : List ℕ) → origin_of (serial_of id origin) ≡ origin
  pub a_serial_is_right_where_its_origin_is :
      (id : ℕ) (origin : List ℕ) → length origin ≡ 6 → is_serial_of id (serial_of id origin) ≡ is_origin origin
  -- Read and spelled again.
  pub a_right_serial_names_its_node_id :
      (id : ℕ) (serial : List ℕ) → id ≤ 0xFFFFFF → SerialRules id serial → node_of serial ≡ id
  pub a_right_serial_is_spelled_again :
      (id : ℕ) (serial : List ℕ) → id ≤ 0xFFFFFF → SerialRules id serial
      → serial_of (node_of serial) (origin_of serial) ≡ serial
  -- Two NodeIDs never share a serial.
  pub two_node_ids_are_spelled_apart :
      (id other : ℕ) (origin origin' : List ℕ) → id ≤ 0xFFFFFF → other ≤ 0xFFFFFF
      → serial_of id origin ≡ serial_of other origin' → id ≡ other
  pub one_serial_one_node_id :
      (id other : ℕ) (serial : List ℕ) → id ≤ 0xFFFFFF → other ≤ 0xFFFFFF
      → SerialRules id serial → SerialRules other serial → id ≡ other
