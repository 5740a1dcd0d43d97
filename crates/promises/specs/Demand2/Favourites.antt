-- Demand 2, the board: its sixteen IPs, and the one that is reported.
-- Assumes nothing.
use Rattle.std.specs.Prelude.{ℕ, ◌+◌, ◌*◌, ◌/◌, ◌≤◌, ◌<◌, ◌≡◌, ◌≢◌, ◌↔◌, ◌⊎◌, length, Some, None}
use Rattle.travel.specs.{
  Position.{pulse_of_percent},
  declared.{IpIndex.{IpIndex}, Pulse.{Pulse}},
}
use Rattle.board.specs.{Favourites.{ip_at, with_ip, shared_out, reported_ip, Ip}, declared.favourites.{Favourites.{Favourites}}}
use Rattle.promises.specs.BoardParts.{percent, ip_of}

-- No IP that is numbered from 1 and below a number is at a position.
abbrev pub NoneBelow : (number : ℕ) → Favourites → (position : Pulse) → Type 0
NoneBelow number f position = (lower : ℕ) → 1 ≤ lower → lower < number → ip_of f lower ≢ Some position

-- Of sixteen IPs, as all favourites of the code have.
pub record SixteenIps : Type 0 where
  -- there is no third kind
  pub an_ip_is_unset_or_at_a_pulse : (x : Ip) → (x ≡ None) ⊎ ((p : Pulse) × (x ≡ Some p))
  -- one of them, by its number
  pub an_ip_is_found_by_its_number : (f : Favourites) (i : IpIndex) → 1 ≤ i.0 → i.0 ≤ 16 → ip_at f i ≡ ip_of f i.0
  pub no_other_number_is_set : (f : Favourites) (i : IpIndex) → (i.0 < 1) ⊎ (16 < i.0) → ip_at f i ≡ None
  pub no_other_number_can_be_set : (f : Favourites) (i : IpIndex) (x : Ip) → (i.0 < 1) ⊎ (16 < i.0) → with_ip f i x ≡ f
  pub setting_one_leaves_sixteen : (f : Favourites) (i : IpIndex) (x : Ip) → length f.slots ≡ 16
      → length (with_ip f i x).slots ≡ 16
  -- the one reported
  pub the_first_ip_at_the_position_is_reported :
      (f : Favourites) (position : Pulse) (i : ℕ) → length f.slots ≡ 16 → 1 ≤ i → i ≤ 16 → ip_of f i ≡ Some position
      → NoneBelow i f position → reported_ip f position ≡ i
  pub ffh_exactly_when_none_is_at_the_position :
      (f : Favourites) (position : Pulse) → length f.slots ≡ 16
      → (reported_ip f position ≡ 0xFF) ↔ NoneBelow 17 f position
  -- function 4 of SET_MOTOR_IP
  pub ips_to_n_share_the_travel :
      (n : ℕ) (travel : Pulse) (i : ℕ) → 1 ≤ i → i ≤ n → i ≤ 16
      → ip_of (shared_out n travel) i ≡ Some (pulse_of_percent (percent (100 * i / (n + 1))) travel)
  pub the_rest_are_unset : (n : ℕ) (travel : Pulse) (i : ℕ) → n < i → i ≤ 16 → ip_of (shared_out n travel) i ≡ None
  pub sharing_out_leaves_sixteen : (n : ℕ) (travel : Pulse) → length (shared_out n travel).slots ≡ 16
