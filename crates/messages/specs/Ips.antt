-- SET_MOTOR_IP, and what is told of an IP (document 01, under the message table).
-- Assumes nothing.
use Rattle.std.specs.Prelude.{if◌then◌else◌, ℕ, Bool, true, not, List, [], ◌∷◌, eqb, leb, ltb, Option, Some, None, is_some}
use Rattle.meaning.specs.Tables.{Row, ◌when◌}
use Rattle.meaning.specs.Tests.{fails}
use Rattle.travel.specs.Units.{percent, ip}
use Rattle.travel.specs.Position.{percent_of_pulse, pulse_of_percent}
use Rattle.travel.specs.declared.IpIndex.{IpIndex}
use Rattle.travel.specs.declared.Pulse.{Pulse}
use Rattle.board.specs.Favourites.{is_number, is_set, ip_at, with_ip, shared_out, Ip}
use Rattle.board.specs.Node.{with_favourites}
use Rattle.board.specs.declared.favourites.Favourites.{Favourites}
use Rattle.board.specs.declared.whole.Node.{Node}
use Rattle.frame.specs.Words.{word_at}
use Rattle.messages.specs.Fields.{byte_at, shorter_than}
use Rattle.messages.specs.Outcome.{acts, posts, refusing}
use Rattle.messages.specs.declared.code.Code.{Code}
use Rattle.messages.specs.declared.favourites.Order.{Order}
use Rattle.messages.specs.declared.favourites.Order.TheVariants.{Delete, Here, AtPercent, Share}
use Rattle.messages.specs.declared.outcome.Outcome.{Outcome}

-- 4: value n from 1 to 16, index ignored.
abbrev pub share_order : (value : ℕ) → Option Order
share_order value =
    if ltb value 1 then None else
    if ltb 16 value then None else
    Some (Share value)

-- 0 delete and 1 current pulse, value ignored; 3 percent 0..100; for these, index 1..16. Others 01h.
abbrev pub order_of : (function : ℕ) → IpIndex → (value : ℕ) → Option Order
order_of function index value =
    if eqb function 4 then share_order value else
    if not (is_number index) then None else
    if eqb function 0 then Some (Delete index) else
    if eqb function 1 then Some (Here index) else
    if eqb function 3 then (if leb value 100 then Some (AtPercent index (percent value)) else None) else
    None

-- What is to be deleted has to be set.
abbrev pub finds_its_ip : Favourites → Option Order → Bool
finds_its_ip f None = true
finds_its_ip f (Some (Delete index)) = is_set (ip_at f index)
finds_its_ip f (Some (Here index)) = true
finds_its_ip f (Some (AtPercent index k)) = true
finds_its_ip f (Some (Share k)) = true

-- IPs are kept as pulses.
abbrev pub ordered : Node → Option Order → Favourites
ordered n None = n.favourites
ordered n (Some (Delete index)) = with_ip n.favourites index None
ordered n (Some (Here index)) = with_ip n.favourites index (Some n.drive.position)
ordered n (Some (AtPercent index k)) = with_ip n.favourites index (Some (pulse_of_percent k n.settings.travel))
ordered n (Some (Share k)) = shared_out k n.settings.travel

-- 15h SET_MOTOR_IP, 4: function, index, value 16.
abbrev pub order_in : List ℕ → Option Order
order_in d = order_of (byte_at d 0) (ip (byte_at d 1)) (word_at d 2)

abbrev pub set_ip_codes : Node → List ℕ → Option Order → List (Row Code)
set_ip_codes n d order =
    Code.TooLittleData when shorter_than 4 d
    ∷ Code.OutOfRange when fails (is_some order)
    ∷ Code.IpNotSet when fails (finds_its_ip n.favourites order)
    ∷ []

abbrev pub keeping_ips : Node → Favourites → Outcome
keeping_ips n f = acts (with_favourites n f) None

unfoldable pub set_ip_row : Node → List ℕ → Outcome
set_ip_row n d = refusing n (set_ip_codes n d (order_in d)) (keeping_ips n (ordered n (order_in d)))

-- 35h: index, reserved 16, percent or FFh.
abbrev pub percent_or : Ip → Pulse → ℕ
percent_or None travel = 0xFF
percent_or (Some p) travel = (percent_of_pulse p travel).0

abbrev pub ip_data : Node → IpIndex → List ℕ
ip_data n index = index.0 ∷ 0xFF ∷ 0xFF ∷ percent_or (ip_at n.favourites index) n.settings.travel ∷ []

-- 25h, 1: index 1..16: 35h.
abbrev pub ip_codes : List ℕ → IpIndex → List (Row Code)
ip_codes d index =
    Code.TooLittleData when shorter_than 1 d
    ∷ Code.OutOfRange when fails (is_number index)
    ∷ []

unfoldable pub ip_row : Node → List ℕ → Outcome
ip_row n d = refusing n (ip_codes d (ip (byte_at d 0))) (posts n 0x35 (ip_data n (ip (byte_at d 0))))
