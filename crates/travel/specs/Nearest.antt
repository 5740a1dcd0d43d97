-- Division to the nearest whole, halves up: computed with a division, and said without one.
-- Assumes nothing.
use Rattle.std.specs.Prelude.{◌≡◌, ℕ, ◌+◌, ◌*◌, ◌/◌, ◌<◌, ◌≤◌, ◌⊎◌}
use Rattle.std.proofs.Common.{◌∙◌, sym, inl, inr, eq-or-lt_of_le, div-lt_iff_lt-mul, le-div_iff_mul-le, div-mul-le_self, arith}
use Rattle.std.proofs.Math.Nat.{div-eq_of_lt-le, lt-div-mul-add}

-- a ÷ b + 1/2, rounded down
abbrev pub nearest : ℕ → ℕ → ℕ
nearest a b = (2 * a + b) / (2 * b)

-- a ÷ b is at least k - 1/2 and below k + 1/2, all of it times 2 × b
pub record IsNearest (a b k : ℕ) : Type 0 where
  pub from : 2 * b * k ≤ 2 * a + b
  pub below : 2 * a + b < 2 * b * (k + 1)

-- The nearest within a span: behind its first number a ÷ b is at least k - 1/2, and before its last below k + 1/2.
pub record IsNearestOfSpan (first last a b k : ℕ) : Type 0 where
  pub at_least : first ≤ k
  pub at_most : k ≤ last
  pub from : first < k → 2 * b * k ≤ 2 * a + b
  pub below : k < last → 2 * a + b < 2 * b * (k + 1)

module _ {a b : ℕ} where
  pub nearest_is : 0 < b → IsNearest a b (nearest a b)
  nearest_is positive = record {
    from = omega (arith, div-mul-le_self (2 * a + b) (2 * b));
    below = omega (arith, lt-div-mul-add {a = 2 * a + b} {b = 2 * b} (omega arith));
  }

  pub nearest_only : {k : ℕ} → IsNearest a b k → nearest a b ≡ k
  nearest_only {k} is = div-eq_of_lt-le {k = k} (2 * b) {m = 2 * a + b} (omega arith) (omega arith)

  pub nearest_unique : {k l : ℕ} → IsNearest a b k → IsNearest a b l → k ≡ l
  nearest_unique is is' = sym (nearest_only is) ∙ nearest_only is'

  pub nearest_at_most : (k : ℕ) → 0 < b → a ≤ b * k → nearest a b ≤ k
  nearest_at_most k positive most =
      omega (arith, (div-lt_iff_lt-mul {k = 2 * b} {x = 2 * a + b} {y = k + 1} (omega arith)).1 (omega arith))

  -- The nearest of a span from 0 to a number that a ÷ b does not pass is the nearest of all.
  pub nearest_of_all : {last k : ℕ} → 0 < b → a ≤ b * last → IsNearestOfSpan 0 last a b k → IsNearest a b k
  nearest_of_all {last} {k} positive most is =
      record { from = from_0 (eq-or-lt_of_le (omega arith)); below = to_last (eq-or-lt_of_le is.at_most) }
    where
      from_0 : (0 ≡ k) ⊎ (0 < k) → 2 * b * k ≤ 2 * a + b
      from_0 (inl none) = rw (sym none) (omega arith)
      from_0 (inr some) = is.from some

      to_last : (k ≡ last) ⊎ (k < last) → 2 * a + b < 2 * b * (k + 1)
      to_last (inl all) = rw all (omega arith)
      to_last (inr less) = is.below less

  pub nearest_monotone : {c : ℕ} → 0 < b → a ≤ c → nearest a b ≤ nearest c b
  nearest_monotone {c} positive order =
      (le-div_iff_mul-le {k = 2 * b} {x = nearest a b} {y = 2 * c + b} (omega arith)).1
      (omega (arith, div-mul-le_self (2 * a + b) (2 * b)))
