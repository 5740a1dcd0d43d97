-- Stored forms (document 01, "The register and its stored form"), over the shape of their bodies: a first byte; count;
-- contents, an entry for each motor; bodies in that order.
-- Assumes nothing.
use Rattle.std.specs.Prelude.{if◌then◌else◌, ℕ, zero, suc, ◌+◌, ◌*◌, ◌%◌, Bool, true, false, List, [], ◌∷◌, ◌++◌, eqb, length, get_or, take, drop}
use Rattle.frame.specs.Address.{address, address_of, bytes_of}
use Rattle.frame.specs.Words.{bytes_of_word, word_at}
use Rattle.motors.specs.Motor.{zeros, is_line, is_node}
use Rattle.motors.specs.Order.{earlier_of}
use Rattle.motors.specs.declared.motor.Motor.{Motor}
use Rattle.form.specs.Shape.{Shape}

-- ---- sizes and places
-- The first byte and the count.
abbrev pub head_size : ℕ
head_size = 3

-- Line, NodeID, place of the body.
abbrev pub entry_size : ℕ
entry_size = 6

abbrev pub form_length : Shape → ℕ → ℕ
form_length s count = head_size + (entry_size + s.body_size) * count

-- Entries stand behind the head, and bodies behind the last entry, without holes.
abbrev pub entry_place : ℕ → ℕ
entry_place i = head_size + entry_size * i

abbrev pub body_place : Shape → (count i : ℕ) → ℕ
body_place s count i = entry_place count + s.body_size * i

-- ---- as written
abbrev pub head_bytes : Shape → ℕ → List ℕ
head_bytes s count = s.first_byte ∷ bytes_of_word count

-- An entry: line, NodeID, place of its body from the file's start.
abbrev pub entry_bytes : Motor → ℕ → List ℕ
entry_bytes m place = m.line % 256 ∷ (bytes_of (address m.node) ++ bytes_of_word place)

-- The bytes of motors, one behind the other, from the motor of a place on.
unfoldable pub in_turn : (ℕ → Motor → List ℕ) → ℕ → List Motor → List ℕ
in_turn bytes i [] = []
in_turn bytes i (m ∷ l) = bytes i m ++ in_turn bytes (suc i) l

-- The entry and the body of the motor at a place.
abbrev pub entry_of : Shape → ℕ → ℕ → Motor → List ℕ
entry_of s count i m = entry_bytes m (body_place s count i)

abbrev pub body_of : Shape → ℕ → Motor → List ℕ
body_of s i m = s.body_of m

abbrev pub contents_of : Shape → ℕ → List Motor → List ℕ
contents_of s count l = in_turn (entry_of s count) 0 l

abbrev pub bodies_of : Shape → List Motor → List ℕ
bodies_of s l = in_turn (body_of s) 0 l

unfoldable pub form_of : Shape → List Motor → List ℕ
form_of s l = head_bytes s (length l) ++ (contents_of s (length l) l ++ bodies_of s l)

-- ---- as read
-- So many bytes from a place on.
abbrev pub part : (size at : ℕ) → List ℕ → List ℕ
part size at b = take size (drop at b)

-- The count stands behind the first byte.
abbrev pub count_in : List ℕ → ℕ
count_in b = word_at b 1

-- The entry of a place, and the line, the NodeID and the place of the body that it has.
abbrev pub entry_in : List ℕ → ℕ → List ℕ
entry_in b i = part entry_size (entry_place i) b

abbrev pub line_in : List ℕ → ℕ → ℕ
line_in b i = get_or (entry_in b i) 0 0

abbrev pub node_in : List ℕ → ℕ → ℕ
node_in b i = (address_of (get_or (entry_in b i) 1 0) (get_or (entry_in b i) 2 0) (get_or (entry_in b i) 3 0)).0

abbrev pub pointer_in : List ℕ → ℕ → ℕ
pointer_in b i = word_at (entry_in b i) 4

-- The body of a place in a form of so many motors, and the motor.
abbrev pub body_in : Shape → ℕ → List ℕ → ℕ → List ℕ
body_in s count b i = part s.body_size (body_place s count i) b

abbrev pub motor_in : Shape → ℕ → List ℕ → ℕ → Motor
motor_in s count b i = s.motor_of (line_in b i) (node_in b i) (body_in s count b i)

-- The motor before it; the first stands behind zeros.
abbrev pub previous_in : Shape → ℕ → List ℕ → ℕ → Motor
previous_in s count b zero = zeros
previous_in s count b (suc i) = motor_in s count b i

-- Line and sender as in rows 20 and 21, strictly ascending, its body at the next place.
unfoldable pub entry_behind : Shape → Motor → ℕ → List ℕ → ℕ → Bool
entry_behind s previous count b i =
    if is_line (line_in b i) then
    if is_node (node_in b i) then
    if earlier_of previous (motor_in s count b i) then eqb (pointer_in b i) (body_place s count i)
    else false else false else false

abbrev pub entry_right : Shape → ℕ → List ℕ → ℕ → Bool
entry_right s count b i = entry_behind s (previous_in s count b i) count b i

abbrev pub body_right : Shape → ℕ → List ℕ → ℕ → Bool
body_right s count b i = s.is_body (line_in b i) (node_in b i) (body_in s count b i)

-- A check at each of the first places.
unfoldable pub everywhere : (ℕ → Bool) → ℕ → Bool
everywhere right zero = true
everywhere right (suc n) = if everywhere right n then right n else false

abbrev pub contents_right : Shape → ℕ → List ℕ → Bool
contents_right s count b = everywhere (entry_right s count b) count

abbrev pub bodies_right : Shape → ℕ → List ℕ → Bool
bodies_right s count b = everywhere (body_right s count b) count

-- So many motors, from that of a place on.
unfoldable pub listed : (ℕ → Motor) → (at n : ℕ) → List Motor
listed motor_at at zero = []
listed motor_at at (suc n) = motor_at at ∷ listed motor_at (suc at) n

abbrev pub motors_in : Shape → List ℕ → List Motor
motors_in s b = listed (motor_in s (count_in b) b) 0 (count_in b)
