-- The words of the promises for a board: its parts, field by field, and a board with one part changed. The fields are
-- those of the structs in the source.
-- Assumes nothing.
use Rattle.std.specs.Prelude.{ℕ, ◌-◌, Bool, false, List, [], ◌∷◌, get_or, replicate, None}
use Rattle.frame.specs.declared.address.Address.{Address}
use Rattle.travel.specs.declared.{IpIndex.{IpIndex}, Percent.{Percent}, Pulse.{Pulse}}
use Rattle.board.specs.declared.{
  drive.{Drive.{Drive}},
  favourites.Favourites.{Favourites},
  groups.Put.{Put},
  lock.Lock.{Lock},
  plate.Plate.{Plate},
  settings.Settings.{Settings},
  whole.Node.{Node},
}
use Rattle.board.specs.Drive.{Motion}
use Rattle.board.specs.Favourites.{Ip}

-- Numbers by their units.
abbrev pub pulse : ℕ → Pulse
pulse number = record { 0 = number }

abbrev pub percent : ℕ → Percent
percent number = record { 0 = number }

abbrev pub ip : ℕ → IpIndex
ip number = record { 0 = number }

abbrev pub address : ℕ → Address
address number = record { 0 = number }

-- A plate, and the plain one: reference 0, letter A, number 0, maker AA, year 00, week 01.
abbrev pub plate : (reference letter number : ℕ) → (origin : List ℕ) → Plate
plate reference letter number origin =
    record { reference = reference; letter = letter; number = number; origin = origin }

abbrev pub plain_plate : Plate
plain_plate = plate 0 0x41 0 (0x41 ∷ 0x41 ∷ 0x30 ∷ 0x30 ∷ 0x30 ∷ 0x31 ∷ [])

-- A motor, a lock.
abbrev pub drive : Pulse → Motion → (direction source cause : ℕ) → (blocked : Bool) → Drive
drive position motion direction source cause blocked =
    record {
      position = position;
      motion = motion;
      direction = direction;
      source = source;
      cause = cause;
      blocked = blocked;
    }

abbrev pub lock : (locked : Bool) → (holder : Address) → (priority : ℕ) → (saved : Bool) → Lock
lock locked holder priority saved = record { locked = locked; holder = holder; priority = priority; saved = saved }

-- An entry put into the group table, and its three bytes.
abbrev pub put : (index low middle high : ℕ) → Put
put index low middle high = record { index = index; low = low; middle = middle; high = high }

-- The IP of a number from 1 to 16.
abbrev pub ip_of : Favourites → ℕ → Ip
ip_of favourites number = get_or favourites.slots (number - 1) None

-- Sixteen IPs that are not set, sixteen spaces, and sixteen empty entries of a group table.
abbrev pub no_ips : Favourites
no_ips = record { slots = replicate 16 None }

abbrev pub spaces : List ℕ
spaces = replicate 16 0x20

abbrev pub empty_table : List (List ℕ)
empty_table = replicate 16 (0 ∷ 0 ∷ 0 ∷ [])

-- A board with another motor, other IPs, another lock, another label.
abbrev pub with_drive : Node → Drive → Node
with_drive n d =
    record { settings = n.settings; drive = d; favourites = n.favourites; lock = n.lock; label = n.label }

abbrev pub with_favourites : Node → Favourites → Node
with_favourites n f =
    record { settings = n.settings; drive = n.drive; favourites = f; lock = n.lock; label = n.label }

abbrev pub with_lock : Node → Lock → Node
with_lock n l =
    record { settings = n.settings; drive = n.drive; favourites = n.favourites; lock = l; label = n.label }

abbrev pub with_label : Node → List ℕ → Node
with_label n label =
    record { settings = n.settings; drive = n.drive; favourites = n.favourites; lock = n.lock; label = label }

-- A fresh node: pulse 0, unlocked, all else empty, as after power-up; its label sixteen spaces. Fields of a motor:
-- position, motion, direction, source, cause, blocked; of a lock: locked, holder, priority, saved.
abbrev pub fresh_node : Settings → Node
fresh_node s =
    record {
      settings = s;
      drive = drive (pulse 0) None 0xFF 0 0xFF false;
      favourites = no_ips;
      lock = lock false (address 0) 0 false;
      label = spaces;
    }
