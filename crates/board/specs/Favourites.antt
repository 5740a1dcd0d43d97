-- The sixteen IPs (document 01, "SET_MOTOR_IP").
-- Assumes nothing.
use Rattle.std.specs.Prelude.{if◌then◌else◌, ℕ, zero, suc, ◌-◌, Bool, true, false, ◌&&◌, List, [], ◌∷◌, ◌++◌, eqb, leb, get_or, set, replicate, Option, Some, None}
use Rattle.travel.specs.declared.Pulse.{Pulse}
use Rattle.travel.specs.declared.IpIndex.{IpIndex}
use Rattle.travel.specs.Units.{pulse, ip, an_ip}
use Rattle.travel.specs.Position.{pulse_of_percent}
use Rattle.travel.specs.Share.{share_of}
use Rattle.board.specs.declared.favourites.Favourites.{Favourites}

-- The pulse of an IP; none where it is not set.
abbrev pub Ip : Type 0
Ip = Option Pulse

abbrev pub favourites : List Ip → Favourites
favourites l = record { slots = l }

abbrev pub no_favourites : Favourites
no_favourites = favourites (replicate 16 None)

-- The number of one of the sixteen IPs.
abbrev pub is_number : IpIndex → Bool
is_number i = (an_ip i.0).holds

abbrev pub ip_at : Favourites → IpIndex → Ip
ip_at f i = if is_number i then get_or f.slots (i.0 - 1) None else None

abbrev pub is_set : Ip → Bool
is_set None = false
is_set (Some p) = true

-- The pulse of an IP that is set.
abbrev pub pulse_of : Ip → Pulse
pulse_of None = pulse 0
pulse_of (Some p) = p

abbrev pub with_ip : Favourites → IpIndex → Ip → Favourites
with_ip f i x = if is_number i then favourites (set f.slots (i.0 - 1) x) else f

-- Function 4: IP i gets percent 100 × i ÷ (n + 1) rounded down for i to n, the rest become unset.
abbrev pub shared_ip : (n : ℕ) → Pulse → IpIndex → Ip
shared_ip n travel i = if leb i.0 n then Some (pulse_of_percent (share_of i n) travel) else None

-- The slots of IPs 1 to k.
unfoldable pub shared_to : (n : ℕ) → Pulse → (k : ℕ) → List Ip
shared_to n travel zero = []
shared_to n travel (suc k) = shared_to n travel k ++ (shared_ip n travel (ip (suc k)) ∷ [])

abbrev pub shared_out : (n : ℕ) → Pulse → Favourites
shared_out n travel = favourites (shared_to n travel 16)

-- The IP reported is the first whose pulse equals the position, else FFh.
abbrev pub is_at : Ip → Pulse → Bool
is_at None position = false
is_at (Some p) position = eqb p.0 position.0

unfoldable pub first_at : (number : ℕ) → List Ip → Pulse → ℕ
first_at number [] position = 0xFF
first_at number (s ∷ l) position = if is_at s position then number else first_at (suc number) l position

abbrev pub reported_ip : Favourites → Pulse → ℕ
reported_ip f position = first_at 1 f.slots position

-- Row 33: no IP beyond the travel.
abbrev pub ip_within : Pulse → Ip → Bool
ip_within travel None = true
ip_within travel (Some p) = leb p.0 travel.0

unfoldable pub ips_within : Pulse → List Ip → Bool
ips_within travel [] = true
ips_within travel (s ∷ l) = ip_within travel s && ips_within travel l
