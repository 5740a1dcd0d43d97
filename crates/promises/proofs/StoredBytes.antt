-- Stored form 1 in its bytes: what rows 43 and 44 ask of them, and the motor that they give.
-- Assumes nothing.
use Prim.Native.Nat.{ℕ, zero, suc, ◌+◌, ◌-◌, ◌≤◌, ◌<◌}
use native.Mathlib.Omega.{arith}
use native.Mathlib.Nat.{add-zero}
use mathlib.Core.Path.{◌≡◌, refl, ◌∙◌, sym, ap}
use mathlib.Core.Logic.{◌≢◌, ◌↔◌, inl, inr, ⊎_elim}
use mathlib.Core.Bool.{Bool, true, false}
use mathlib.Core.List.{List}
use lib.Dec.{eqb}
use lib.ListN.{get_or}
use borrow.Author.Tests.{leb-true, le-leb, eqb-true, eqb-false, eq-eqb}
use Rattle.meaning.specs.Cases.{by_test}
use Rattle.meaning.specs.Tests.{holds_by}
use Rattle.runs.proofs.Order.{never_both}
use Rattle.motors.specs.Motor.{unread, a_node, is_node, a_reading, is_reading}
use Rattle.motors.specs.Order.{Key, key_of, earlier_of, as_said, so_said}
use Rattle.motors.specs.declared.motor.Motor.{Motor}
use Rattle.form.specs.Layout.{
  line_in,
  node_in,
  pointer_in,
  entry_in,
  body_in,
  motor_in,
  previous_in,
  entry_right,
  body_right,
  everywhere,
  contents_right,
  bodies_right,
}
use Rattle.form.specs.FormOne.{form_one, reading_right}
use Rattle.form.proofs.Everywhere.{right_at, right_at_each}
use Rattle.form.proofs.Parts.{first_byte, byte_on, key_of_the_entry, body-read, body_0, body_1, body_2, body_3, body_4, motor_read, motor_unread}
use Rattle.form.proofs.Right.{zeros_first}
use Rattle.form.proofs.ReadBack.{right_entry}
use Rattle.form.proofs.WrittenBack.{line_right, node_right, order_and_place}
use Rattle.promises.specs.Wire.{byte_at}
use Rattle.promises.specs.StoredBytes.{
  entry_at,
  stored_line,
  stored_node,
  stored_place,
  body_at,
  stored_mark,
  stored_pulse,
  EntryBefore,
  EntryRight,
  ReadingRight,
  FiveZeros,
  BodyRight,
  HoldsStored,
}

-- A check at each of the first places is its facts, place by place.
everywhere_exactly_when : {Fact : ℕ → Type 0} (right : ℕ → Bool) (n : ℕ) → ((i : ℕ) → Fact i ↔ (right i ≡ true))
    → ((i : ℕ) → i < n → Fact i) ↔ (everywhere right n ≡ true)
everywhere_exactly_when right n each = (
  λ facts. right_at_each right n (λ i h. (each i).0 (facts i h)),
  λ e i h. (each i).1 (right_at right n i e h),
)

-- What holds at each of five places.
each_of_five : (P : ℕ → Type 0) → P 0 → P 1 → P 2 → P 3 → P 4 → (k : ℕ) → k < 5 → P k
each_of_five P a b c d e zero h = a
each_of_five P a b c d e (suc zero) h = b
each_of_five P a b c d e (suc (suc zero)) h = c
each_of_five P a b c d e (suc (suc (suc zero))) h = d
each_of_five P a b c d e (suc (suc (suc (suc zero)))) h = e
each_of_five P a b c d e (suc (suc (suc (suc (suc k))))) h = absurd (omega arith)

module _ (b : List ℕ) where
  -- ---- the fields of an entry
  module _ (i : ℕ) where
    entry_byte : (k : ℕ) → k < 6 → get_or (entry_in b i) k 0 ≡ byte_at b (entry_at i + k)
    entry_byte k h = sym (byte_on 6 b (entry_at i) (entry_at i) refl k h)

    line_is : line_in b i ≡ stored_line b i
    line_is = sym (first_byte 6 b (entry_at i) (entry_at i) refl (omega arith))

    node_is : node_in b i ≡ stored_node b i
    node_is = rw (entry_byte 1 (omega arith), entry_byte 2 (omega arith), entry_byte 3 (omega arith))

    pointer_is : pointer_in b i ≡ stored_place b i
    pointer_is = rw (entry_byte 4 (omega arith), entry_byte 5 (omega arith))

  module _ (count : ℕ) where
    -- ---- row 43
    abbrev motor_at : ℕ → Motor
    motor_at i = motor_in form_one count b i

    line_of : (i : ℕ) → (motor_at i).line ≡ stored_line b i
    line_of i = ap (λ (k : Key). k.0) (key_of_the_entry (line_in b i) (node_in b i) (body_in form_one count b i)) ∙ line_is i

    node_of : (i : ℕ) → (motor_at i).node ≡ stored_node b i
    node_of i = ap (λ (k : Key). k.1) (key_of_the_entry (line_in b i) (node_in b i) (body_in form_one count b i)) ∙ node_is i

    before_exactly_when : (i j : ℕ) → EntryBefore b i j ↔ (earlier_of (motor_at i) (motor_at j) ≡ true)
    before_exactly_when i j = (
      λ order. so_said (key_of (motor_at i)) (key_of (motor_at j)) (rw (line_of i, line_of j, node_of i, node_of j) order),
      λ e. rw (line_of i, line_of j, node_of i, node_of j) at (as_said (key_of (motor_at i)) (key_of (motor_at j)) e),
    )

    -- The first entry stands behind zeros, any other behind the one before it.
    abbrev Behind : ℕ → Type 0
    Behind i = earlier_of (previous_in form_one count b i) (motor_at i) ≡ true

    behind_is : (i : ℕ) → Behind i → 0 < i → EntryBefore b (i - 1) i
    behind_is zero e h = absurd (omega arith)
    behind_is (suc i) e h =
        let same : suc i - 1 ≡ i = omega arith in
        rw same ((before_exactly_when i (suc i)).1 e)

    so_behind : (i : ℕ) → 1 ≤ stored_node b i → (0 < i → EntryBefore b (i - 1) i) → Behind i
    so_behind zero node order = zeros_first (motor_at 0) (rw (node_of 0) node)
    so_behind (suc i) node order =
        let same : suc i - 1 ≡ i = omega arith in
        (before_exactly_when i (suc i)).0 (rw same at (order (omega arith)))

    entry_is : (i : ℕ) → entry_right form_one count b i ≡ true → EntryRight b count i
    unfolding is_node
    entry_is i right =
        let order = order_and_place form_one count b i right in
        let node = rw (node_is i) at ((a_node (node_in b i)).is_fact (node_right form_one count b i right)) in
        record {
          line_0_to_3 = rw (line_is i) at (leb-true (line_in b i) 3 (line_right form_one count b i right));
          node_id_from_000001h = node.0;
          node_id_to_fffeffh = node.1;
          behind_the_entry_before_it = behind_is i order.0;
          points_to_its_body = sym (pointer_is i) ∙ eqb-true (pointer_in b i) (body_at count i) order.1;
        }

    so_entry : (i : ℕ) → EntryRight b count i → entry_right form_one count b i ≡ true
    unfolding is_node
    so_entry i r =
        right_entry form_one (previous_in form_one count b i) count b i
        (le-leb (line_in b i) 3 (rw (line_is i) r.line_0_to_3))
        (holds_by (a_node (node_in b i)) (rw (node_is i) (r.node_id_from_000001h, r.node_id_to_fffeffh)))
        (so_behind i r.node_id_from_000001h r.behind_the_entry_before_it)
        (pointer_is i ∙ r.points_to_its_body)

    pub contents_exactly_when : ((i : ℕ) → i < count → EntryRight b count i) ↔ (contents_right form_one count b ≡ true)
    contents_exactly_when = everywhere_exactly_when (entry_right form_one count b) count (λ i. (so_entry i, entry_is i))

    -- ---- row 44
    module _ (i : ℕ) where
      abbrev byte : ℕ → ℕ
      byte k = byte_at b (body_at count i + k)

      first : byte 0 ≡ stored_mark b count i
      first = ap (byte_at b) (add-zero (body_at count i))

      reading_so : ReadingRight b count i → reading_right (body_in form_one count b i) ≡ true
      unfolding is_reading
      reading_so r =
          sym (body-read b count i (body_at count i) refl r.begins_with_1 refl)
          ∙ holds_by (a_reading (byte 3) (byte 4)) (r.percent_to_100, ⊎_elim inr inl r.ip_1_to_16_or_ffh)

      zeros_so : FiveZeros b count i → reading_right (body_in form_one count b i) ≡ true
      zeros_so z =
          let zero_byte : stored_mark b count i ≡ 0 = sym first ∙ z 0 (omega arith) in
          body_4 b count i (body_at count i) refl (λ e. omega arith) zero_byte (z 1 (omega arith)) (z 2 (omega arith)) (z 3 (omega arith))
          ∙ eq-eqb (byte 4) 0 (z 4 (omega arith))

      module _ (right : reading_right (body_in form_one count b i) ≡ true) where
        reading_is : stored_mark b count i ≡ 1 → ReadingRight b count i
        unfolding is_reading
        reading_is one =
            let reading = (a_reading (byte 3) (byte 4)).is_fact (body-read b count i (body_at count i) refl one refl ∙ right) in
            record { begins_with_1 = one; percent_to_100 = reading.0; ip_1_to_16_or_ffh = ⊎_elim inr inl reading.1 }

        -- A byte that makes the body wrong where it is not 0 is 0.
        is_zero : (x : ℕ) → (x ≢ 0 → reading_right (body_in form_one count b i) ≡ false) → x ≡ 0
        is_zero x wrong = by_test (eqb x 0) (eqb-true x 0) (λ t. absurd (never_both right (wrong (eqb-false x 0 t))))

        zeros_are : stored_mark b count i ≢ 1 → FiveZeros b count i
        zeros_are n =
            let from = body_at count i in
            let z₀ = is_zero (stored_mark b count i) (body_0 b count i from refl n) in
            let z₁ = is_zero (byte 1) (body_1 b count i from refl n z₀) in
            let z₂ = is_zero (byte 2) (body_2 b count i from refl n z₀ z₁) in
            let z₃ = is_zero (byte 3) (body_3 b count i from refl n z₀ z₁ z₂) in
            let z₄ = eqb-true (byte 4) 0 (sym (body_4 b count i from refl n z₀ z₁ z₂ z₃) ∙ right) in
            each_of_five (λ k. byte k ≡ 0) (first ∙ z₀) z₁ z₂ z₃ z₄

        body_is : BodyRight b count i
        body_is =
            by_test (eqb (stored_mark b count i) 1)
            (λ t. inl (reading_is (eqb-true (stored_mark b count i) 1 t)))
            (λ t. inr (zeros_are (eqb-false (stored_mark b count i) 1 t)))

    pub bodies_exactly_when : ((i : ℕ) → i < count → BodyRight b count i) ↔ (bodies_right form_one count b ≡ true)
    bodies_exactly_when =
        everywhere_exactly_when (body_right form_one count b) count (λ i. (⊎_elim (reading_so i) (zeros_so i), body_is i))

    -- ---- the motor of an entry and a body that are right
    module _ (i : ℕ) where
      abbrev entry_motor : Motor
      entry_motor = unread (line_in b i) (node_in b i)

      read_so : ReadingRight b count i → HoldsStored (motor_at i) b count i
      read_so r =
          let made = motor_read b count i (body_at count i) refl entry_motor refl r.begins_with_1 (stored_pulse b count i) refl in
          rw (← made)
          (record {
            the_line = line_is i;
            the_node_id = node_is i;
            the-mark = sym r.begins_with_1;
            the_pulse = refl;
            the_percent = refl;
            the_ip = refl;
          })

      unread_so : FiveZeros b count i → HoldsStored (motor_at i) b count i
      unread_so z =
          let zero_byte : stored_mark b count i ≡ 0 = sym (first i) ∙ z 0 (omega arith) in
          let made = motor_unread b count i (body_at count i) refl entry_motor refl (λ e. omega arith) in
          rw (← made)
          (record {
            the_line = line_is i;
            the_node_id = node_is i;
            the-mark = sym zero_byte;
            the_pulse = omega (arith, z 1 (omega arith), z 2 (omega arith));
            the_percent = sym (z 3 (omega arith));
            the_ip = sym (z 4 (omega arith));
          })

      pub motor_is_stored : BodyRight b count i → HoldsStored (motor_at i) b count i
      motor_is_stored right = ⊎_elim read_so unread_so right
