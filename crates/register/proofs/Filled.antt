-- The first places of a run set and the others cleared, which is what a reading does, and its two ends.
--     first_.., others_..    what stands at the places of `first_set` and of `others_cleared`
--     accepted_is_set  where a form is accepted, a run whose first places are set and whose others are cleared is what the reading leaves
-- Assumes nothing.
use Prim.Native.Nat.{ℕ, ◌+◌, ◌-◌, ◌<◌, ◌≤◌}
use native.Mathlib.Omega.{arith}
use mathlib.Core.Path.{◌≡◌, ◌∙◌, sym, ap, ap₂, subst}
use mathlib.Core.List.{List, [], ◌++◌, append-nil}
use lib.Dec.{ltb}
use borrow.Rule.Slice.PartMut.{put_mid}
use lib.ListN.{length, get_or, take, drop, replicate, drop_of_length-le, length-append, length-take, length-drop, get_or-append, get_or-eq_default}
use lib.Seq.{take_all, length-take-le, get_or-take, get_or-drop, get_or-append-add}
use borrow.Author.Tests.{ltb-true, ltb-false}
use Rattle.meaning.specs.Cases.{by_test}
use Rattle.meaning.specs.Tables.{of_decided}
use Rattle.runs.specs.Places.{filled}
use Rattle.runs.proofs.Filled.{filled_has_every_place, filled_has_the_record, filled_is_blank_behind}
use Rattle.motors.specs.Motor.{zeros}
use Rattle.motors.specs.Register.{places}
use Rattle.motors.specs.declared.motor.Motor.{Motor}
use Rattle.form.specs.FormOne.{form_one}
use Rattle.form.specs.Layout.{count_in, listed}
use Rattle.form.specs.Reading.{checked, read_form_table, check_of, read_of, place_in}
use Rattle.form.proofs.Everywhere.{length-listed, listed_at}
use Rattle.form.proofs.Placed.{behind_the_last}
use Rattle.form.proofs.InPlace.{at_most_256_are_read, every_place_set_is_read}
use Rattle.register.specs.Run.{fewer, first_set, others_cleared}
use Rattle.motors.specs.Answer.{Answer}
use Rattle.std.specs.Prelude.{Ok, Err}

-- ---- the first places set
module _ (motor_at : ℕ → Motor) (count : ℕ) (run : List Motor) where
  abbrev held : ℕ
  held = fewer count (length run)

  pub first_keeps_the_length : length (first_set motor_at count run) ≡ length run
  unfolding first_set
  first_keeps_the_length =
      rw (length-append (listed motor_at 0 held) (drop count run), length-listed motor_at 0 held, length-drop count run)
      (by_test (ltb count (length run))
      (λ t. let l = ltb-true count (length run) t in rw t (omega arith))
      (λ t. let l = ltb-false count (length run) t in rw t (omega arith)))

  pub first_has_the_motor : (j : ℕ) → j < held → get_or (first_set motor_at count run) j zeros ≡ motor_at j
  unfolding first_set
  first_has_the_motor j h =
      let start : 0 + j ≡ j = omega arith in
      get_or-append (listed motor_at 0 held) (drop count run) zeros j (rw (length-listed motor_at 0 held) h)
      ∙ listed_at motor_at 0 held j zeros h ∙ ap motor_at start

  pub first_leaves_the_others : (j : ℕ) → held ≤ j → get_or (first_set motor_at count run) j zeros ≡ get_or run j zeros
  unfolding first_set
  first_leaves_the_others j h =
      let split : j ≡ length (listed motor_at 0 held) + (j - held) = omega (arith, length-listed motor_at 0 held) in
      ap (λ (k : ℕ). get_or (first_set motor_at count run) k zeros) split
      ∙ get_or-append-add (listed motor_at 0 held) (drop count run) (j - held) zeros
      ∙ get_or-drop count run (j - held) zeros
      ∙ by_test (ltb count (length run))
      (λ t.
      let few : held ≡ count = rw t in
      let same : count + (j - held) ≡ j = omega (arith, few) in
      ap (λ (k : ℕ). get_or run k zeros) same)
      (λ t.
      let many = ltb-false count (length run) t in
      let all : held ≡ length run = rw t in
      get_or-eq_default run zeros (omega arith) ∙ sym (get_or-eq_default run zeros (omega (arith, all))))

-- ---- the others cleared
module _ (count : ℕ) (run : List Motor) where
  -- Places that hold no motor, behind the first.
  pub others_are_cleared : (n : ℕ) → n ≡ fewer count (length run) → (ws : List Motor) → ws ≡ replicate (length run - n) zeros
      → put_mid n (length run - n) run ws ≡ others_cleared count run
  unfolding others_cleared filled
  others_are_cleared n e ws f =
      let none : drop (length run - n) (drop n run) ≡ [] = drop_of_length-le (drop n run) (rw length-drop (omega arith)) in
      let first : take n run ≡ take count run =
      by_test (ltb count (length run))
      (λ t. let few : n ≡ count = e ∙ rw t in ap (λ (k : ℕ). take k run) few)
      (λ t.
      let all : n ≡ length run = e ∙ rw t in
      let many : length run ≤ count = ltb-false count (length run) t in
      take_all n run (omega arith) ∙ sym (take_all count run many)) in
      let number : length run - n ≡ length run - length (take count run) =
      by_test (ltb count (length run))
      (λ t.
      let few : n ≡ count = e ∙ rw t in
      let l = ltb-true count (length run) t in
      omega (arith, length-take-le count run (omega arith)))
      (λ t.
      let all : n ≡ length run = e ∙ rw t in
      let many : length run ≤ count = ltb-false count (length run) t in
      omega (arith, ap length (take_all count run many))) in
      ap₂ (λ (t w : List Motor). t ++ (w ++ drop (length run - n) (drop n run))) first (f ∙ ap (λ (k : ℕ). replicate k zeros) number)
      ∙ ap (λ (d : List Motor). take count run ++ (replicate (length run - length (take count run)) zeros ++ d)) none
      ∙ ap (λ (w : List Motor). take count run ++ w) (append-nil (replicate (length run - length (take count run)) zeros))

  taken : length (take count run) ≤ count × (length (take count run) ≤ length run)
  taken = rw (length-take count run) (omega arith, omega arith)

  pub others_keep_the_length : length (others_cleared count run) ≡ length run
  unfolding others_cleared
  others_keep_the_length = filled_has_every_place (length run) zeros (take count run) taken.1

  pub others_leave_the_first : (j : ℕ) → j < count → get_or (others_cleared count run) j zeros ≡ get_or run j zeros
  unfolding others_cleared
  others_leave_the_first j h =
      by_test (ltb j (length run))
      (λ t.
      let l = ltb-true j (length run) t in
      filled_has_the_record (length run) zeros (take count run) j (rw (length-take count run) (omega arith)) ∙ get_or-take count run j zeros h)
      (λ t.
      let l = ltb-false j (length run) t in
      filled_is_blank_behind (length run) zeros (take count run) j (omega (arith, taken.1)) ∙ sym (get_or-eq_default run zeros l))

  pub others_are_zeros : (j : ℕ) → count ≤ j → get_or (others_cleared count run) j zeros ≡ zeros
  unfolding others_cleared
  others_are_zeros j h = filled_is_blank_behind (length run) zeros (take count run) j (omega (arith, taken.0))

-- ---- the end of a reading
module _ (run : List Motor) (b : List ℕ) where
  -- A form that is read is read into 256 places: the first row of the check.
  abbrev Of256 : Answer → Type 0
  Of256 (Ok n) = length run ≡ places
  Of256 (Err r) = Unit {0}

  of_256 : Of256 (check_of (length run) b)
  unfolding checked
  of_256 = of_decided Of256 (read_form_table (length run) b) (Ok (count_in b)) (search) (λ facts. facts.0)

  -- The first places get so many motors of the form, and the others are cleared.
  abbrev pub all_set : ℕ → List Motor
  all_set n = others_cleared n (first_set (place_in n b) n run)

  pub all_set_keeps_the_length : (n : ℕ) → length (all_set n) ≡ length run
  all_set_keeps_the_length n = others_keep_the_length n (first_set (place_in n b) n run) ∙ first_keeps_the_length (place_in n b) n run

  -- Where a form is accepted, that is what the reading leaves.
  pub accepted_is_set : (n : ℕ) → check_of (length run) b ≡ Ok n → all_set n ≡ (read_of run b).motors
  accepted_is_set n e =
      let whole : length run ≡ places = subst Of256 e of_256 in
      let few = at_most_256_are_read run b n e in
      let first = first_set (place_in n b) n run in
      every_place_set_is_read run b n e (all_set n) (all_set_keeps_the_length n ∙ whole) (λ i h.
      by_test (ltb i n)
      (λ t.
      let l = ltb-true i n t in
      others_leave_the_first n first i l ∙ first_has_the_motor (place_in n b) n run i (all_held n (omega (arith, whole)) i l))
      (λ t. let l = ltb-false i n t in others_are_zeros n first i l ∙ behind_the_last form_one n b i l))
    where
      all_held : (n : ℕ) → n ≤ length run → (i : ℕ) → i < n → i < fewer n (length run)
      all_held n few i l = by_test (ltb n (length run)) (λ t. rw t l) (λ t. rw t (omega arith))
