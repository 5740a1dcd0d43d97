-- The percents of IPs that share the travel evenly (01, SET_MOTOR_IP, function 4).
-- Assumes nothing.
use Rattle.std.specs.Prelude.{if◌then◌else◌, ◌≡◌, ℕ, ◌+◌, ◌*◌, ◌/◌, ◌<◌, ◌≤◌, leb}
use Rattle.std.proofs.Common.{div-lt_iff_lt-mul, le-div_iff_mul-le, div-mul-le_self, arith, le-leb}
use Rattle.std.proofs.lemmas.Bool.{lt-leb}
use Rattle.travel.specs.declared.IpIndex.{IpIndex}
use Rattle.travel.specs.declared.Percent.{Percent}
use Rattle.travel.specs.Units.{percent, ip}

-- Percent of IP i: 100 × i ÷ (n + 1) rounded down for i to n; above n, 100.
unfoldable pub share_of : IpIndex → ℕ → Percent
share_of i n = percent (if leb i.0 n then 100 * i.0 / (n + 1) else 100)

module _ (i : IpIndex) (n : ℕ) where
  pub share_to_n : i.0 ≤ n → share_of i n ≡ percent (100 * i.0 / (n + 1))
  unfolding share_of
  share_to_n inside = simp (le-leb _ _ inside)

  pub share_above_n : n < i.0 → share_of i n ≡ percent 100
  unfolding share_of
  share_above_n above = simp (lt-leb _ _ above)

  pub share_below_100 : i.0 ≤ n → (share_of i n).0 < 100
  share_below_100 inside =
      rw (share_to_n inside) ((div-lt_iff_lt-mul {k = n + 1} {x = 100 * i.0} {y = 100} (omega arith)).1 (omega arith))

-- a step of 100 ÷ (n + 1) is at least 1
pub share_ascending : (i j : IpIndex) (n : ℕ) → i.0 < j.0 → j.0 ≤ n → n ≤ 16 → (share_of i n).0 < (share_of j n).0
share_ascending i j n order last few =
    rw
    (share_to_n i n (omega arith), share_to_n j n last)
    (omega (
      arith,
      (le-div_iff_mul-le {k = n + 1} {x = 100 * i.0 / (n + 1) + 1} {y = 100 * j.0} (omega arith)).1
          (omega (arith, div-mul-le_self (100 * i.0) (n + 1))),
    ))

-- no share is a limit
pub share_between :
    (i : IpIndex) (n : ℕ) → 0 < i.0 → i.0 ≤ n → n ≤ 16 → (0 < (share_of i n).0) × ((share_of i n).0 < 100)
share_between i n first last few = (omega (arith, share_ascending (ip 0) i n first last few), share_below_100 i n last)
