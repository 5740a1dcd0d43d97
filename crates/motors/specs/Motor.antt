-- A motor's record, and what its fields may hold (document 01, "The register", rows 20, 21 and 23).
-- Assumes nothing.
use Rattle.std.specs.Prelude.{if◌then◌else◌, ℕ, ◌+◌, ◌*◌, Bool, false, leb, eqb}
use Rattle.meaning.specs.Tests.{Test, ◌at_most◌, ◌is◌, ◌or◌, ◌and◌}
use Rattle.frame.specs.Address.{address, a_node_id}
use Rattle.travel.specs.Units.{an_ip}
use Rattle.motors.specs.Order.{earlier_of}
use Rattle.motors.specs.declared.motor.Motor.{Motor}

abbrev pub motor : ℕ → ℕ → ℕ → ℕ → ℕ → ℕ → Motor
motor line node mark pulse percent ip =
    record { node = node; line = line; mark = mark; pulse = pulse; percent = percent; ip = ip }

-- A motor of which no reading exists, and one with its last reading.
abbrev pub unread : ℕ → ℕ → Motor
unread line node = motor line node 0 0 0 0

abbrev pub with_reading : ℕ → ℕ → ℕ → ℕ → ℕ → Motor
with_reading line node pulse percent ip = motor line node 1 pulse percent ip

-- A place that holds no motor.
abbrev pub zeros : Motor
zeros = unread 0 0

-- A reading exists.
abbrev pub marked : Motor → Bool
marked m = eqb m.mark 1

-- Row 20: lines 0 to 3.
abbrev pub is_line : ℕ → Bool
is_line line = leb line 3

-- Row 21: a NodeID.
abbrev pub a_node : ℕ → Test
a_node node = a_node_id (address node)

unfoldable pub is_node : ℕ → Bool
is_node node = (a_node node).holds

-- Row 23: percent 0 to 100, IP FFh or 1 to 16.
abbrev pub a_reading : ℕ → ℕ → Test
a_reading percent ip = percent at_most 100 and (ip is 0xFF or an_ip ip)

unfoldable pub is_reading : ℕ → ℕ → Bool
is_reading percent ip = (a_reading percent ip).holds

-- Without a reading mark, pulse, percent and IP are zeros.
unfoldable pub unread_part : Motor → Bool
unread_part m =
    if eqb m.mark 0 then
    if eqb m.pulse 0 then
    if eqb m.percent 0 then eqb m.ip 0
    else false else false else false

-- The mark with what it says of the other fields.
unfoldable pub reading_part : Motor → Bool
reading_part m = if marked m then is_reading m.percent m.ip else unread_part m

-- The fields of a record held, but for the line, and all of them.
unfoldable pub right_beside_line : Motor → Bool
right_beside_line m = if is_node m.node then reading_part m else false

unfoldable pub right_of : Motor → Bool
right_of m = if is_line m.line then right_beside_line m else false

-- A place that is all zeros.
unfoldable pub blank_of : Motor → Bool
blank_of m = if eqb m.line 0 then if eqb m.node 0 then unread_part m else false else false

-- A record that may stand behind another: right, and strictly later. The first may stand behind zeros.
unfoldable pub follows_of : Motor → Motor → Bool
follows_of previous m = if right_of m then earlier_of previous m else false

-- ---- fields as one number
-- Line, then NodeID.
abbrev pub key_number : Motor → ℕ
key_number m = m.node + 4294967296 * m.line

-- The other fields.
abbrev pub rest_number : Motor → ℕ
rest_number m = m.mark + 4294967296 * m.pulse + 281474976710656 * m.percent + 72057594037927936 * m.ip
