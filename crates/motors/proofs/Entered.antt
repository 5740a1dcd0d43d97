-- A report entered among the records held: what is found after it, the order and the number.
-- Assumes nothing.
use Rattle.std.specs.Prelude.{if◌then◌else◌}
use Prim.Native.Nat.{ℕ, suc, ◌+◌, ◌≤◌}
use native.Mathlib.Omega.{arith}
use mathlib.Core.Path.{◌≡◌, refl, ◌∙◌, sym, ap}
use mathlib.Core.Bool.{true, false, false≢true}
use mathlib.Core.List.{List}
use mathlib.Core.Option.{Option, none, some}
use lib.ListN.{length}
use Rattle.meaning.specs.Choice.{either}
use Rattle.meaning.specs.Cases.{by_test}
use Rattle.runs.specs.Ordered.{is_some, looked_up, holds, Ascending, All}
use Rattle.runs.proofs.Lookup.{not_held_is_none}
use Rattle.runs.proofs.Placing.{
  placed_is_found,
  placed_leaves_every_other_key,
  placed_keeps_the_order,
  placed_over_one_held_keeps_the_number,
  placed_new_is_one_more,
  placed_keeps_the_kind,
}
use Rattle.motors.specs.Motor.{marked}
use Rattle.motors.specs.Order.{by_line_and_node, Key, key_of, same, same_is}
use Rattle.motors.specs.Register.{Right}
use Rattle.motors.specs.Filing.{recorded, enrolled, entered}
use Rattle.motors.specs.declared.motor.Motor.{Motor}

-- The record that stands for a motor after a report on it: a reading takes the place of the last one.
abbrev pub renewed_if : Option Motor → Motor → Motor
renewed_if none m = m
renewed_if (some x) m = if marked m then m else x

-- A new motor is one more.
abbrev pub more : Option Motor → ℕ
more none = 1
more (some x) = 0

module _ (l : List Motor) (m : Motor) where
  abbrev was : Option Motor
  was = looked_up by_line_and_node l (key_of m)

  -- What is entered is the records with the motor placed among them, or as they were.
  pub by_way : (P : List Motor → Type 0) → P (recorded l m) → (marked m ≡ false → holds by_line_and_node l (key_of m) ≡ true → P l) → P (entered l m)
  unfolding entered enrolled
  by_way P p q =
      either P (marked m) (λ t. p) (λ t. either P (holds by_line_and_node l (key_of m)) (q t) (λ h. p))

  with_a_reading : (f : Option Motor) → marked m ≡ true → some m ≡ some (renewed_if f m)
  with_a_reading none t = refl
  with_a_reading (some x) t = rw t

  without_one : (f : Option Motor) → marked m ≡ false → is_some f ≡ true → f ≡ some (renewed_if f m)
  without_one none t h = absurd (false≢true h)
  without_one (some x) t h = rw t

  pub entered_itself : looked_up by_line_and_node (entered l m) (key_of m) ≡ some (renewed_if was m)
  unfolding entered enrolled
  entered_itself =
      by_test (marked m)
      (λ t. rw t (placed_is_found by_line_and_node l m ∙ with_a_reading was t))
      (λ t. by_test (holds by_line_and_node l (key_of m))
      (λ h. rw (t, h) (without_one was t h))
      (λ h. rw (t, h) (placed_is_found by_line_and_node l m ∙ ap (λ (f : Option Motor). some (renewed_if f m))
      (sym (not_held_is_none by_line_and_node l (key_of m) h)))))

  -- A motor that is held and shows no reading changes nothing.
  pub entered_again : marked m ≡ false → holds by_line_and_node l (key_of m) ≡ true → entered l m ≡ l
  unfolding entered enrolled
  entered_again t h = rw (t, h)

  pub entered_another : (k : Key) → same (key_of m) k ≡ false → looked_up by_line_and_node (entered l m) k ≡ looked_up by_line_and_node l k
  entered_another k d =
      by_way (λ (r : List Motor). looked_up by_line_and_node r k ≡ looked_up by_line_and_node l k)
      (placed_leaves_every_other_key by_line_and_node l m k d) (λ t h. refl)

  pub entered_keeps : (k : Key) → holds by_line_and_node l k ≡ true → holds by_line_and_node (entered l m) k ≡ true
  entered_keeps k h =
      by_test (same (key_of m) k)
      (λ s. ap (holds by_line_and_node (entered l m)) (sym (same_is (key_of m) k s)) ∙ ap is_some entered_itself)
      (λ s. ap is_some (entered_another k s) ∙ h)

  module _ (a : Ascending by_line_and_node l) where
    none_more : (f : Option Motor) → is_some f ≡ true → 0 ≡ more f
    none_more none h = absurd (false≢true h)
    none_more (some x) h = refl

    pub entered_number : length (entered l m) ≡ more was + length l
    entered_number =
        by_way (λ (r : List Motor). length r ≡ more was + length l)
        (by_test (holds by_line_and_node l (key_of m))
        (λ h. placed_over_one_held_keeps_the_number by_line_and_node l m a h ∙ omega (arith, none_more was h))
        (λ h. placed_new_is_one_more by_line_and_node l m h ∙ omega (arith, ap more (not_held_is_none by_line_and_node l (key_of m) h))))
        (λ t h. omega (arith, none_more was h))

    one_at_most : (f : Option Motor) → more f ≤ 1
    one_at_most none = omega arith
    one_at_most (some x) = omega arith

    pub entered_at_most_one_more : (length l ≤ length (entered l m)) × (length (entered l m) ≤ suc (length l))
    entered_at_most_one_more = (omega (arith, entered_number), omega (arith, entered_number, one_at_most was))

    pub entered_ascends : Ascending by_line_and_node (entered l m)
    entered_ascends = by_way (Ascending by_line_and_node) (placed_keeps_the_order by_line_and_node l m a) (λ t h. a)

  pub entered_right : All Right l → Right m → All Right (entered l m)
  entered_right all right = by_way (All Right) (placed_keeps_the_kind by_line_and_node Right l m all right) (λ t h. all)
