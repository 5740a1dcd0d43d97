-- The words of the promises for the bytes of a bundle (document 01, "From wire to frame"), in numbers alone. Places are
-- counted from 0.
-- Assumes nothing.
use Rattle.std.specs.Prelude.{ℕ, ◌+◌, ◌-◌, ◌*◌, ◌/◌, ◌%◌, ◌≤◌, ◌<◌, ◌≡◌, ◌≢◌, List, [], ◌∷◌, map, length, get_or, take, drop}

-- Every element is a byte.
abbrev pub Bytes : List ℕ → Type 0
Bytes b = (place : ℕ) → get_or b place 0 < 256

-- Every byte before the checksum is sent inverted.
abbrev pub inverted : ℕ → ℕ
inverted byte = 255 - byte

-- A byte of a bundle, turned back from how it is sent.
abbrev pub raw : List ℕ → ℕ → ℕ
raw b place = inverted (get_or b place 0)

-- MSG is the first byte.
abbrev pub message : List ℕ → ℕ
message b = raw b 0

-- In the second, ACK is the top bit, EXT the next two, LEN the low five.
abbrev pub AsksForAnAnswer : List ℕ → Type 0
AsksForAnAnswer b = 128 ≤ raw b 1

abbrev pub ext : List ℕ → ℕ
ext b = raw b 1 / 32 % 4

abbrev pub len : List ℕ → ℕ
len b = raw b 1 % 32

-- In the third, the sender's node type is the high four bits, the receiver's the low four.
abbrev pub sender : List ℕ → ℕ
sender b = raw b 2 / 16

abbrev pub receiver : List ℕ → ℕ
receiver b = raw b 2 % 16

-- SOURCE and then DEST, three bytes each, the low byte first.
abbrev pub source : List ℕ → ℕ
source b = raw b 3 + 256 * raw b 4 + 65536 * raw b 5

abbrev pub destination : List ℕ → ℕ
destination b = raw b 6 + 256 * raw b 7 + 65536 * raw b 8

-- DATA stands between DEST and the checksum, so that the rest of a frame is 11 bytes.
abbrev pub data_count : List ℕ → ℕ
data_count b = length b - 11

abbrev pub data_of : List ℕ → List ℕ
data_of b = map inverted (take (data_count b) (drop 9 b))

-- Fields of DATA: a byte, and a number of two bytes, the low byte first.
abbrev pub byte_at : List ℕ → ℕ → ℕ
byte_at content place = get_or content place 0

abbrev pub word_at : List ℕ → ℕ → ℕ
word_at content place = byte_at content place + 256 * byte_at content (place + 1)

-- The checksum is the sum of the wire bytes before it, stated in the last two, high byte first, not inverted.
abbrev pub sum : List ℕ → ℕ
sum [] = 0
sum (byte ∷ bytes) = byte + sum bytes

abbrev pub summed : List ℕ → ℕ
summed b = sum (take (length b - 2) b)

abbrev pub stated : List ℕ → ℕ
stated b = get_or b (length b - 2) 0 * 256 + get_or b (length b - 1) 0

-- The rules of a frame.
pub record FrameRules (b : List ℕ) : Type 0 where
  pub from_11_bytes : 11 ≤ length b
  pub to_31_bytes : length b ≤ 31
  pub ext_is_0 : ext b ≡ 0
  pub len_is_the_count_of_bytes : len b ≡ length b
  pub the_sum_is_as_stated : summed b ≡ stated b
  pub msg_is_not_ffh : message b ≢ 0xFF
