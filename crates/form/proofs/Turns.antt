-- The bytes of motors one behind the other, where each takes the same number: how many they are, one motor more, and the bytes of one.
-- Assumes nothing.
use Prim.Native.Nat.{ℕ, zero, suc, ◌+◌, ◌*◌, ◌≤◌, ◌<◌}
use native.Mathlib.Omega.{arith}
use native.Mathlib.Nat.{add-zero, mul-zero, mul-suc, le_of_suc-le-suc}
use mathlib.Core.Path.{◌≡◌, ◌∙◌, sym, ap, ap₂}
use mathlib.Core.List.{List, [], ◌∷◌, ◌++◌, append-nil, append_assoc}
use lib.ListN.{length, get_or, take, drop, length-append}
use lib.Seq.{take_at, drop_at, take-add, drop-drop}
use Rattle.motors.specs.Motor.{zeros}
use Rattle.motors.specs.declared.motor.Motor.{Motor}
use Rattle.form.specs.Layout.{part, in_turn, listed}

module _ (bytes : ℕ → Motor → List ℕ) where
  pub one_more_in_turn : (i k : ℕ) (l : List Motor) → k < length l
      → in_turn bytes i (take (suc k) l) ≡ in_turn bytes i (take k l) ++ bytes (i + k) (get_or l k zeros)
  unfolding in_turn
  one_more_in_turn i k [] h = absurd (omega arith)
  one_more_in_turn i zero (m ∷ l) h =
      let here : i + 0 ≡ i = add-zero i in
      rw here (append-nil (bytes i m))
  one_more_in_turn i (suc k) (m ∷ l) h =
      let on : suc i + k ≡ i + suc k = omega arith in
      ap (λ (w : List ℕ). bytes i m ++ w) (one_more_in_turn (suc i) k l (le_of_suc-le-suc h))
      ∙ sym (append_assoc (bytes i m) (in_turn bytes (suc i) (take k l)) (bytes (suc i + k) (get_or l k zeros)))
      ∙ ap (λ (j : ℕ). (bytes i m ++ in_turn bytes (suc i) (take k l)) ++ bytes j (get_or l k zeros)) on

  module _ (size : ℕ) (of_one_size : (i : ℕ) (m : Motor) → length (bytes i m) ≡ size) where
    pub length_in_turn : (i : ℕ) (l : List Motor) → length (in_turn bytes i l) ≡ size * length l
    unfolding in_turn
    length_in_turn i [] = sym (mul-zero size)
    length_in_turn i (m ∷ l) =
        length-append (bytes i m) (in_turn bytes (suc i) l)
        ∙ omega (arith, of_one_size i m, length_in_turn (suc i) l, mul-suc size (length l))

    -- The bytes of one motor, whatever stands behind the last.
    pub one_in_turn : (at i : ℕ) (l : List Motor) (rest : List ℕ) → i < length l
        → part size (size * i) (in_turn bytes at l ++ rest) ≡ bytes (at + i) (get_or l i zeros)
    unfolding in_turn
    one_in_turn at i [] rest h = absurd (omega arith)
    one_in_turn at zero (m ∷ l) rest h =
        let here : at + 0 ≡ at = add-zero at in
        rw (mul-zero size, here, append_assoc (bytes at m) (in_turn bytes (suc at) l) rest)
        (take_at (bytes at m) (in_turn bytes (suc at) l ++ rest) size (of_one_size at m))
    one_in_turn at (suc i) (m ∷ l) rest h =
        let on : suc at + i ≡ at + suc i = omega arith in
        let next : size * suc i ≡ size + size * i = omega (arith, mul-suc size i) in
        rw (append_assoc (bytes at m) (in_turn bytes (suc at) l) rest, next)
        (ap (take size)
        (sym (drop-drop (size * i) size (bytes at m ++ (in_turn bytes (suc at) l ++ rest)))
        ∙ ap (drop (size * i)) (drop_at (bytes at m) (in_turn bytes (suc at) l ++ rest) size (of_one_size at m)))
        ∙ one_in_turn (suc at) i l rest (le_of_suc-le-suc h)
        ∙ ap (λ (k : ℕ). bytes k (get_or l i zeros)) on)

  -- Motors whose bytes are the parts of a list make up the list.
  pub all_in_turn : (motor_at : ℕ → Motor) (size : ℕ) (x : List ℕ) (at n : ℕ)
      → ((i : ℕ) → at ≤ i → i < at + n → bytes i (motor_at i) ≡ part size (size * i) x)
      → in_turn bytes at (listed motor_at at n) ≡ part (size * n) (size * at) x
  unfolding in_turn listed
  all_in_turn motor_at size x at zero each = rw (mul-zero size)
  all_in_turn motor_at size x at (suc n) each =
      let all : size + size * n ≡ size * suc n = omega (arith, mul-suc size n) in
      let next : size * at + size ≡ size * suc at = omega (arith, mul-suc size at) in
      ap₂ (λ (v w : List ℕ). v ++ w) (each at (omega arith) (omega arith))
      (all_in_turn motor_at size x (suc at) n (λ i h k. each i (omega arith) (omega arith))
      ∙ ap (take (size * n)) (sym (drop-drop size (size * at) x ∙ ap (λ (k : ℕ). drop k x) next)))
      ∙ sym (take-add size (size * n) (drop (size * at) x))
      ∙ ap (λ (k : ℕ). take k (drop (size * at) x)) all
