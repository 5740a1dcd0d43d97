-- Fields put together as one number say what the fields say one by one: the order of keys, and zeros.
-- Assumes nothing.
use Rattle.std.specs.Prelude.{if◌then◌else◌}
use Prim.Native.Nat.{ℕ, ◌+◌, ◌*◌, ◌<◌, ◌≤◌, ◌^◌}
use native.Mathlib.Omega.{arith}
use mathlib.Core.Path.{◌≡◌, refl, ◌∙◌, sym, ap}
use mathlib.Core.Logic.{inl, inr}
use mathlib.Core.Bool.{Bool, true, false}
use mathlib.Core.List.{List, [], ◌∷◌}
use lib.Bits.{bit_or, or_add_and, and_le_l, and_le_r}
use lib.Dec.{eqb, ltb}
use borrow.Author.Tests.{eqb-true, eqb-false, lt-ltb, le-ltb, eq-eqb, ne_eqb}
use Rattle.meaning.specs.Cases.{by_test}
use Rattle.motors.specs.Motor.{blank_of, unread_part, key_number, rest_number}
use Rattle.motors.specs.Register.{all_blank}
use Rattle.motors.specs.Found.{bits_of}
use Rattle.motors.specs.Order.{Before, key_of, same, earlier_of, as_said, same_is, else_behind}
use Rattle.motors.specs.declared.motor.Motor.{Motor}

-- ---- the order of keys is the order of one number, where a NodeID has 32 bits
module _ (x y : Motor) (fits : x.node < 2 ^ 32) (fits' : y.node < 2 ^ 32) where
  smaller : Before (key_of x) (key_of y) → key_number x < key_number y
  smaller (inl l) = omega arith
  smaller (inr s) = omega arith

  same_number : key_of x ≡ key_of y → key_number x ≡ key_number y
  same_number e = ap (λ (k : ℕ × ℕ). k.1 + 4294967296 * k.0) e

  pub key_before : ltb (key_number x) (key_number y) ≡ earlier_of x y
  key_before =
      by_test (earlier_of x y) (λ t. lt-ltb (key_number x) (key_number y) (smaller (as_said (key_of x) (key_of y) t)) ∙ sym t) λ t.
      by_test (same (key_of x) (key_of y))
      (λ s. le-ltb (key_number x) (key_number y) (omega (arith, same_number (same_is (key_of x) (key_of y) s))) ∙ sym t)
      (λ s. le-ltb (key_number x) (key_number y) (later (as_said (key_of y) (key_of x) (else_behind (key_of x) (key_of y) t s))) ∙ sym t)
    where
      later : Before (key_of y) (key_of x) → key_number y ≤ key_number x
      later (inl l) = omega arith
      later (inr s) = omega arith

  pub key_same : eqb (key_number x) (key_number y) ≡ same (key_of x) (key_of y)
  unfolding same
  key_same =
      by_test (same (key_of x) (key_of y)) (λ s. eq-eqb (key_number x) (key_number y) (same_number (same_is (key_of x) (key_of y) s)) ∙ sym s) λ s.
      ne_eqb (key_number x) (key_number y) (λ e. apart e s) ∙ sym s
    where
      line_same : key_number x ≡ key_number y → x.line ≡ y.line
      line_same e = omega arith

      node_same : key_number x ≡ key_number y → x.node ≡ y.node
      node_same e = omega arith

      apart : key_number x ≡ key_number y → same (key_of x) (key_of y) ≡ false → ⊥
      apart e s = eqb-false _ _ (rw (eq-eqb _ _ (line_same e)) at s) (node_same e)

-- ---- zeros
pub rest_zero : (m : Motor) → eqb (rest_number m) 0 ≡ unread_part m
unfolding unread_part
rest_zero m =
    by_test (eqb m.mark 0)
    (λ a. by_test (eqb m.pulse 0)
    (λ u. by_test (eqb m.percent 0)
    (λ b. by_test (eqb m.ip 0)
    (λ i. rw (a, u, b, i) (eq-eqb (rest_number m) 0 (zero (eqb-true _ _ a) (eqb-true _ _ u) (eqb-true _ _ b) (eqb-true _ _ i))))
    (λ i. rw (a, u, b, i) (ne_eqb (rest_number m) 0 (λ e. eqb-false m.ip 0 i (omega (arith, e))))))
    (λ b. rw (a, u, b) (ne_eqb (rest_number m) 0 (λ e. eqb-false m.percent 0 b (omega (arith, e))))))
    (λ u. rw (a, u) (ne_eqb (rest_number m) 0 (λ e. eqb-false m.pulse 0 u (omega (arith, e))))))
    (λ a. rw a (ne_eqb (rest_number m) 0 (λ e. eqb-false m.mark 0 a (omega (arith, e)))))
  where
    zero : m.mark ≡ 0 → m.pulse ≡ 0 → m.percent ≡ 0 → m.ip ≡ 0 → rest_number m ≡ 0
    zero a u b i = omega arith

-- A place is blank where its key and the rest are 0.
pub blank_by_numbers : (m : Motor) → (if eqb (key_number m) 0 then eqb (rest_number m) 0 else false) ≡ blank_of m
unfolding blank_of
blank_by_numbers m =
    by_test (eqb m.line 0)
    (λ l. by_test (eqb m.node 0)
    (λ n. rw (l, n, eq-eqb (key_number m) 0 (zero (eqb-true _ _ l) (eqb-true _ _ n))) (rest_zero m))
    (λ n. rw (l, n, ne_eqb (key_number m) 0 (λ e. eqb-false m.node 0 n (omega (arith, e))))))
    (λ l. rw (l, ne_eqb (key_number m) 0 (λ e. eqb-false m.line 0 l (omega (arith, e)))))
  where
    zero : m.line ≡ 0 → m.node ≡ 0 → key_number m ≡ 0
    zero l n = omega arith

-- Bits put together are none exactly when each has none.
pub or-zero : (a b : ℕ) → eqb (bit_or a b) 0 ≡ (if eqb a 0 then eqb b 0 else false)
or-zero a b =
    by_test (eqb a 0)
    (λ x. by_test (eqb b 0)
    (λ y. rw (x, y) (eq-eqb (bit_or a b) 0 (none (eqb-true a 0 x) (eqb-true b 0 y))))
    (λ y. rw (x, y) (ne_eqb (bit_or a b) 0 (λ e. eqb-false b 0 y (omega (arith, e, or_add_and a b, and_le_l a b))))))
    (λ x. rw x (ne_eqb (bit_or a b) 0 (λ e. eqb-false a 0 x (omega (arith, e, or_add_and a b, and_le_r a b)))))
  where
    none : a ≡ 0 → b ≡ 0 → bit_or a b ≡ 0
    none x y = rw (x, y)

pub all_blank_by_bits : (l : List Motor) → eqb (bits_of l) 0 ≡ all_blank l
unfolding bits_of all_blank
all_blank_by_bits [] = refl
all_blank_by_bits (m ∷ l) =
    rw (or-zero (bit_or (bits_of l) (key_number m)) (rest_number m), or-zero (bits_of l) (key_number m), ← blank_by_numbers m, all_blank_by_bits l)
    (turned (all_blank l) (eqb (key_number m) 0) (eqb (rest_number m) 0))
  where
    turned : (b k r : Bool) → (if if b then k else false then r else false) ≡ (if if k then r else false then b else false)
    turned true true true = refl
    turned true true false = refl
    turned true false r = refl
    turned false true true = refl
    turned false true false = refl
    turned false false r = refl
