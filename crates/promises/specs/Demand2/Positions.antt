-- Demand 2, positions: percents and pulses.
-- Assumes nothing.
use Rattle.std.specs.Prelude.{ℕ, ◌+◌, ◌*◌, ◌/◌, ◌≤◌, ◌<◌, ◌≡◌}
use Rattle.travel.specs.{
  Position.{percent_of_pulse, pulse_of_percent},
  Share.{share_of},
  declared.{IpIndex.{IpIndex}, Percent.{Percent}, Pulse.{Pulse}},
}

-- a ÷ b to the nearest whole, halves up, is k: it is at least k - 1/2 and below k + 1/2, all of it times 2 × b.
pub record IsNearest (a b k : ℕ) : Type 0 where
  pub from : 2 * b * k ≤ 2 * a + b
  pub below : 2 * a + b < 2 * b * (k + 1)

pub record Positions : Type 0 where
  pub percent_is_the_nearest_whole :
      (p travel : Pulse) → 0 < travel.0 → p.0 ≤ travel.0
      → IsNearest (100 * p.0) travel.0 (percent_of_pulse p travel).0
  pub from_the_travel_on_100_percent : (p travel : Pulse) → travel.0 ≤ p.0 → (percent_of_pulse p travel).0 ≡ 100
  pub pulse_is_the_nearest_whole :
      (k : Percent) (travel : Pulse) → k.0 ≤ 100 → IsNearest (k.0 * travel.0) 100 (pulse_of_percent k travel).0
  pub from_100_percent_on_the_travel : (k : Percent) (travel : Pulse) → 100 ≤ k.0
      → (pulse_of_percent k travel).0 ≡ travel.0
  pub percent_to_pulse_and_back :
      (k : Percent) (travel : Pulse) → k.0 ≤ 100 → 100 ≤ travel.0
      → percent_of_pulse (pulse_of_percent k travel) travel ≡ k
  -- IPs that share the travel
  pub a_share_is_rounded_down : (i : IpIndex) (n : ℕ) → i.0 ≤ n → (share_of i n).0 ≡ 100 * i.0 / (n + 1)
  pub beyond_n_a_share_is_100_percent : (i : IpIndex) (n : ℕ) → n < i.0 → (share_of i n).0 ≡ 100
