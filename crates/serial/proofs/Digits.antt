-- A hex digit spelled and read back, and the six of a NodeID by their place.
-- Assumes nothing.
use Prim.Native.Nat.{ℕ, zero, suc, ◌+◌, ◌-◌, ◌*◌, ◌/◌, ◌%◌, ◌^◌, ◌≤◌, ◌<◌}
use native.Mathlib.Omega.{arith}
use mathlib.Core.Path.{◌≡◌, refl, ap}
use mathlib.Core.Logic.{inl, inr, ⊎_elim}
use mathlib.Core.List.{List}
use lib.Dec.{ltb}
use lib.ListN.{get_or}
use lib.Seq.{get_or-append-add}
use borrow.Author.Tests.{ltb-true, ltb-false, lt-ltb, le-ltb}
use Rattle.meaning.specs.Cases.{by_test}
use Rattle.meaning.specs.Choice.{either}
use Rattle.serial.specs.Serial.{hex_digit, node_digits, serial_of, hex_value, IsHexDigit}

module _ (digit : ℕ) where
  pub low_digit : digit < 10 → hex_digit digit ≡ 0x30 + digit
  low_digit low = rw (lt-ltb digit 10 low)

  pub high_digit : 10 ≤ digit → hex_digit digit ≡ 0x37 + digit
  high_digit high = rw (le-ltb digit 10 high)

  pub read_back : hex_value (hex_digit digit) ≡ digit
  read_back =
      either (λ character. hex_value character ≡ digit) (ltb digit 10)
      (λ low. rw (lt-ltb (0x30 + digit) 0x41 (omega (arith, ltb-true digit 10 low))) (omega arith))
      (λ high. rw (le-ltb (0x37 + digit) 0x41 (omega (arith, ltb-false digit 10 high))) (omega arith))

  pub capital : digit < 16 → IsHexDigit (hex_digit digit)
  capital h =
      either IsHexDigit (ltb digit 10)
      (λ low. inl (omega arith, omega (arith, ltb-true digit 10 low)))
      (λ high. inr (omega (arith, ltb-false digit 10 high), omega arith))

-- What holds of each of six places.
pub each_of_six : (P : ℕ → Type 0) → P 0 → P 1 → P 2 → P 3 → P 4 → P 5 → (place : ℕ) → place < 6 → P place
each_of_six P a b c d e f zero h = a
each_of_six P a b c d e f (suc zero) h = b
each_of_six P a b c d e f (suc (suc zero)) h = c
each_of_six P a b c d e f (suc (suc (suc zero))) h = d
each_of_six P a b c d e f (suc (suc (suc (suc zero)))) h = e
each_of_six P a b c d e f (suc (suc (suc (suc (suc zero))))) h = f
each_of_six P a b c d e f (suc (suc (suc (suc (suc (suc place)))))) h = absurd (omega arith)

-- What holds of the first six places and of those behind them.
pub of_every_place : (P : ℕ → Type 0) → ((place : ℕ) → place < 6 → P place) → ((place : ℕ) → P (6 + place)) → (place : ℕ) → P place
of_every_place P first behind place =
    by_test (ltb place 6) (λ e. first place (ltb-true place 6 e))
    (λ e. let past : 6 + (place - 6) ≡ place = omega (arith, ltb-false place 6 e) in rw past at (behind (place - 6)))

-- The digit at a place counts a power of 16.
pub digit_at_lem : (id : ℕ) (origin : List ℕ) (place : ℕ) → place < 6 → get_or (serial_of id origin) place 0 ≡ hex_digit (id / 16 ^ (5 - place) % 16)
digit_at_lem id origin =
    let last : id % 16 ≡ id / 1 % 16 = omega arith in
    each_of_six (λ place. get_or (serial_of id origin) place 0 ≡ hex_digit (id / 16 ^ (5 - place) % 16)) refl refl refl refl refl (ap hex_digit last)

-- The characters behind them are the origin's.
pub origin_at : (id : ℕ) (origin : List ℕ) (place : ℕ) → get_or (serial_of id origin) (6 + place) 0 ≡ get_or origin place 0
origin_at id origin place = get_or-append-add (node_digits id) origin place 0

pub digit_is_capital : (id : ℕ) (origin : List ℕ) (place : ℕ) → place < 6 → IsHexDigit (get_or (serial_of id origin) place 0)
digit_is_capital id origin place h = rw (digit_at_lem id origin place h) (capital (id / 16 ^ (5 - place) % 16) (omega arith))

pub digit_is_a_byte : (id : ℕ) (origin : List ℕ) (place : ℕ) → place < 6 → get_or (serial_of id origin) place 0 < 256
digit_is_a_byte id origin place h = ⊎_elim (λ low. omega arith) (λ high. omega arith) (digit_is_capital id origin place h)

-- From each quotient by a power of 16 to the next a digit is carried.
carried : (n a b c d e p q r s t u : ℕ) → n ≡ 16 * a + u → a ≡ 16 * b + t → b ≡ 16 * c + s → c ≡ 16 * d + r → d ≡ 16 * e + q → e ≡ p
    → 0x100000 * p + 0x10000 * q + 0x1000 * r + 0x100 * s + 0x10 * t + u ≡ n
carried n a b c d e p q r s t u f g h i j k = omega arith

-- A number is the sum of its six digits, each times its power of 16.
pub sum_of_digits :
    (n : ℕ) → n ≤ 0xFFFFFF
    → 0x100000 * (n / 0x100000 % 16)
    + 0x10000 * (n / 0x10000 % 16)
    + 0x1000 * (n / 0x1000 % 16)
    + 0x100 * (n / 0x100 % 16)
    + 0x10 * (n / 0x10 % 16)
    + n % 16
    ≡ n
sum_of_digits n h =
    carried n (n / 0x10) (n / 0x100) (n / 0x1000) (n / 0x10000) (n / 0x100000)
    (n / 0x100000 % 16) (n / 0x10000 % 16) (n / 0x1000 % 16) (n / 0x100 % 16) (n / 0x10 % 16) (n % 16)
    (omega arith) (omega arith) (omega arith) (omega arith) (omega arith) (omega arith)
