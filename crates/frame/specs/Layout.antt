-- What the wire bytes of a bundle say (document 01, "From wire to frame"; 000, section 5). Places are counted from 0.
-- Assumes nothing.
use Rattle.std.specs.Prelude.{ℕ, ◌+◌, ◌-◌, ◌*◌, ◌/◌, ◌%◌, Bool, List, [], ◌∷◌, map, leb, length, get_or, take, drop}
use Rattle.frame.specs.Address.{address_of}
use Rattle.frame.specs.declared.address.Address.{Address}
use Rattle.frame.specs.declared.header.Header.{Header}

-- Every byte before the checksum is sent inverted.
abbrev pub inverted : ℕ → ℕ
inverted b = 255 - b

abbrev pub raw_at : List ℕ → ℕ → ℕ
raw_at b place = inverted (get_or b place 0)

-- MSG is the first byte.
abbrev pub message : List ℕ → ℕ
message b = raw_at b 0

-- In the second, ACK is the top bit, EXT the next two, LEN the low five.
abbrev pub ack : List ℕ → Bool
ack b = leb 128 (raw_at b 1)

abbrev pub ext : List ℕ → ℕ
ext b = raw_at b 1 / 32 % 4

abbrev pub len : List ℕ → ℕ
len b = raw_at b 1 % 32

-- In the third, the sender's node type is the high four bits, the receiver's the low four.
abbrev pub sender : List ℕ → ℕ
sender b = raw_at b 2 / 16

abbrev pub receiver : List ℕ → ℕ
receiver b = raw_at b 2 % 16

-- SOURCE and then DEST, three bytes each.
abbrev pub source : List ℕ → Address
source b = address_of (raw_at b 3) (raw_at b 4) (raw_at b 5)

abbrev pub destination : List ℕ → Address
destination b = address_of (raw_at b 6) (raw_at b 7) (raw_at b 8)

-- DATA lies between DEST and the checksum, so that the rest of a frame is 11 bytes.
abbrev pub data_count : List ℕ → ℕ
data_count b = length b - 11

abbrev pub data_of : List ℕ → List ℕ
data_of b = map inverted (take (data_count b) (drop 9 b))

-- The checksum is the sum of the wire bytes before it. It is the last two bytes, high byte first, not inverted.
abbrev pub sum_of : List ℕ → ℕ
sum_of [] = 0
sum_of (b ∷ bs) = b + sum_of bs

abbrev pub summed : List ℕ → ℕ
summed b = sum_of (take (length b - 2) b)

abbrev pub stated : List ℕ → ℕ
stated b = get_or b (length b - 2) 0 * 256 + get_or b (length b - 1) 0

-- All that a bundle says beside its DATA.
abbrev pub header_of : List ℕ → Header
header_of b =
    record {
      message = message b;
      ack = ack b;
      sender = sender b;
      receiver = receiver b;
      source = source b;
      destination = destination b;
    }
