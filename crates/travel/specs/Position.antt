-- Pulses and percents of a travel (01, Position). What lies past the down limit counts as at it.
-- Assumes nothing.
use Rattle.std.specs.Prelude.{if◌then◌else◌, ◌≡◌, ◌⊎◌, ℕ, ◌+◌, ◌*◌, ◌<◌, ◌≤◌, leb}
use Rattle.std.proofs.Common.{ap, inl, inr, mul-le-mul_right, eq-or-lt_of_le, le-leb}
use native.Mathlib.Omega.{arith}
use Rattle.std.proofs.lemmas.Bool.{lt-leb}
use Rattle.travel.specs.declared.Percent.{Percent}
use Rattle.travel.specs.declared.Pulse.{Pulse}
use Rattle.travel.specs.Arms.{by_arms}
use Rattle.travel.specs.Nearest.{
  nearest,
  IsNearest,
  nearest_is,
  nearest_unique,
  nearest_at_most,
  nearest_monotone,
}
use Rattle.travel.specs.Units.{pulse, percent}

-- Percent of a pulse: 100 × pulse ÷ travel to the nearest whole, halves up; from the travel on, 100.
unfoldable pub percent_of_pulse : Pulse → Pulse → Percent
percent_of_pulse pulse travel = percent (if leb travel.0 pulse.0 then 100 else nearest (100 * pulse.0) travel.0)

-- Pulse of a percent: percent × travel ÷ 100, same rounding; from 100 on, the travel.
unfoldable pub pulse_of_percent : Percent → Pulse → Pulse
pulse_of_percent percent travel = pulse (if leb 100 percent.0 then travel.0 else nearest (percent.0 * travel.0) 100)

module _ (pulse travel : Pulse) where
  pub percent_down_limit : travel.0 ≤ pulse.0 → percent_of_pulse pulse travel ≡ percent 100
  unfolding percent_of_pulse
  percent_down_limit reached = simp (le-leb _ _ reached)

  pub percent_within : pulse.0 < travel.0
      → percent_of_pulse pulse travel ≡ percent (nearest (100 * pulse.0) travel.0)
  unfolding percent_of_pulse
  percent_within within = simp (lt-leb _ _ within)

  pub percent_at_most_100 : (percent_of_pulse pulse travel).0 ≤ 100
  unfolding percent_of_pulse
  percent_at_most_100 =
      by_arms (λ k. k ≤ 100) travel.0 pulse.0 (λ reached. omega arith) (λ within. nearest_at_most 100 (omega arith) (omega arith))

  -- the percent is the nearest whole
  pub percent_nearest :
      0 < travel.0 → pulse.0 ≤ travel.0 → IsNearest (100 * pulse.0) travel.0 (percent_of_pulse pulse travel).0
  unfolding percent_of_pulse
  percent_nearest positive inside =
      by_arms
      (IsNearest (100 * pulse.0) travel.0)
      travel.0
      pulse.0
      (λ reached. record { from = omega arith; below = omega arith })
      (λ within. nearest_is positive)

  -- and nothing else is
  pub percent_only :
      {k : ℕ} → pulse.0 ≤ travel.0 → IsNearest (100 * pulse.0) travel.0 k
      → percent_of_pulse pulse travel ≡ percent k
  percent_only inside is = ap percent (nearest_unique (percent_nearest (omega arith) inside) is)

pub percent_up_limit : (travel : Pulse) → 0 < travel.0 → percent_of_pulse (pulse 0) travel ≡ percent 0
percent_up_limit travel positive = percent_only (pulse 0) travel (omega arith) (record { from = omega arith; below = omega arith })

pub percent_monotone :
    (lower higher travel : Pulse) → lower.0 ≤ higher.0
    → (percent_of_pulse lower travel).0 ≤ (percent_of_pulse higher travel).0
unfolding percent_of_pulse
percent_monotone lower higher travel order =
    by_arms
    (λ k. (percent_of_pulse lower travel).0 ≤ k)
    travel.0
    higher.0
    (λ reached. percent_at_most_100 lower travel)
    (λ within. simp (lt-leb travel.0 lower.0 (omega arith)) (nearest_monotone (omega arith) (omega arith)))

module _ (percent : Percent) (travel : Pulse) where
  pub pulse_down_limit : 100 ≤ percent.0 → pulse_of_percent percent travel ≡ travel
  unfolding pulse_of_percent
  pulse_down_limit reached = simp (le-leb _ _ reached)

  pub pulse_within : percent.0 < 100 → pulse_of_percent percent travel ≡ pulse (nearest (percent.0 * travel.0) 100)
  unfolding pulse_of_percent
  pulse_within within = simp (lt-leb _ _ within)

  pub pulse_at_most_travel : (pulse_of_percent percent travel).0 ≤ travel.0
  unfolding pulse_of_percent
  pulse_at_most_travel =
      by_arms
      (λ p. p ≤ travel.0)
      100
      percent.0
      (λ reached. omega arith)
      (λ within. nearest_at_most travel.0 (omega arith) (mul-le-mul_right travel.0 (omega arith)))

  -- the pulse is the nearest whole
  pub pulse_nearest : percent.0 ≤ 100 → IsNearest (percent.0 * travel.0) 100 (pulse_of_percent percent travel).0
  unfolding pulse_of_percent
  pulse_nearest inside =
      by_arms
      (IsNearest (percent.0 * travel.0) 100)
      100
      percent.0
      (λ reached. let full : percent.0 ≡ 100 = omega arith in rw full (record { from = omega arith; below = omega arith }))
      (λ within. nearest_is (omega arith))

  -- and nothing else is
  pub pulse_only : {p : ℕ} → percent.0 ≤ 100 → IsNearest (percent.0 * travel.0) 100 p
      → pulse_of_percent percent travel ≡ pulse p
  pulse_only inside is = ap pulse (nearest_unique (pulse_nearest inside) is)

pub pulse_up_limit : (travel : Pulse) → pulse_of_percent (percent 0) travel ≡ pulse 0
pulse_up_limit travel = pulse_only (percent 0) travel (omega arith) (record { from = omega arith; below = omega arith })

pub pulse_monotone :
    (lower higher : Percent) (travel : Pulse)
    → lower.0 ≤ higher.0 → (pulse_of_percent lower travel).0 ≤ (pulse_of_percent higher travel).0
unfolding pulse_of_percent
pulse_monotone lower higher travel order =
    by_arms
    (λ p. (pulse_of_percent lower travel).0 ≤ p)
    100
    higher.0
    (λ reached. pulse_at_most_travel lower travel)
    (λ within. simp (lt-leb 100 lower.0 (omega arith)) (nearest_monotone (omega arith) (mul-le-mul_right travel.0 order)))

-- Half a pulse is less than half a percent where the travel is above 100; at 100 each percent is a whole pulse.
module _ (k t p : ℕ) (is : IsNearest (k * t) 100 p) where
  below_next : (100 ≡ t) ⊎ (100 < t) → 2 * (100 * p) + t < 2 * t * (k + 1)
  below_next (inl equal) = omega (arith, ap (λ n. k * n) equal)
  below_next (inr above) = omega arith

  back : 100 ≤ t → IsNearest (100 * p) t k
  back long = record { from = omega arith; below = below_next (eq-or-lt_of_le long) }

-- With travel 100 or more, percent to pulse and back gives the same percent.
pub there_and_back :
    (percent : Percent) (travel : Pulse)
    → percent.0 ≤ 100 → 100 ≤ travel.0 → percent_of_pulse (pulse_of_percent percent travel) travel ≡ percent
there_and_back percent travel inside long =
    let there = pulse_of_percent percent travel in
    percent_only
    there
    travel
    (pulse_at_most_travel percent travel)
    (back percent.0 travel.0 there.0 (pulse_nearest percent travel inside) long)
