-- A form read and written where the records stand, a motor at a time, comes to what a form read or written at once is.
-- Assumes nothing.
use Prim.Native.Nat.{ℕ, ◌+◌, ◌≤◌, ◌<◌}
use native.Mathlib.Omega.{arith}
use native.Mathlib.Numerals.{add-one}
use mathlib.Core.Path.{◌≡◌, refl, ◌∙◌, sym, ap}
use mathlib.Core.Logic.{⊎_elim}
use mathlib.Core.Bool.{Bool, true, false, false≢true}
use mathlib.Core.List.{List}
use lib.Dec.{ltb}
use lib.ListN.{length, get_or}
use lib.Seq.{ext_get_or}
use borrow.Author.Tests.{ltb-true, ltb-false}
use Rattle.meaning.specs.Cases.{by_test}
use Rattle.meaning.specs.Tables.{passed_or_answered}
use Rattle.refusal.specs.declared.Refusal.{Refusal}
use Rattle.runs.specs.Ordered.{holds, place_of}
use Rattle.runs.proofs.Filled.{filled_has_every_place, filled_has_the_record, filled_is_blank_behind}
use Rattle.motors.specs.Motor.{zeros}
use Rattle.motors.specs.Order.{by_line_and_node, key_of}
use Rattle.motors.specs.Register.{places, held, filled, sound_of}
use Rattle.motors.specs.Found.{standing, found_of}
use Rattle.motors.specs.declared.motor.Motor.{Motor}
use Rattle.motors.proofs.Sound.{sound_is}
use Rattle.form.specs.Layout.{form_length, count_in, motor_in, motors_in}
use Rattle.form.specs.FormOne.{form_one}
use Rattle.form.specs.Reading.{read_by, check_of, read_of, place_in}
use Rattle.form.specs.Writing.{write_form_table, written_of, room_for, room_of, laid, buffer_after, first_over, head_laid, motor_laid, laid_up_to, Written}
use Rattle.form.proofs.Everywhere.{length-listed, listed_at}
use Rattle.form.proofs.Placed.{behind_the_last, at_its_place}
use Rattle.form.proofs.Fitting.{so_it_fits}
use Rattle.form.proofs.Accepted.{Accepted, Checked, checked_as}
use Rattle.form.proofs.FormOne.{form_one_is_of_one_size}
use Rattle.form.proofs.Laying.{the_form_is_laid, head_keeps_the_length, motor_keeps_the_length, first_keep_the_length}
use Rattle.form.proofs.Rows.{written_by, room_by}
use Rattle.motors.specs.Answer.{Answer}
use Rattle.std.specs.Prelude.{Ok, Err, is_err}

-- ---- reading
module _ (run : List Motor) (b : List ℕ) where
  -- The check gives the answer of the whole reading.
  pub the_check_is_the_answer : check_of (length run) b ≡ (read_of run b).answer
  the_check_is_the_answer = told (check_of (length run) b) (checked_as form_one (length run) b)
    where
      told : (a : Answer) → Checked form_one b a → a ≡ (read_by form_one run b a).answer
      told (Ok n) c = ap Ok (c.number ∙ sym (length-listed (motor_in form_one (count_in b) b) 0 (count_in b)))
      told (Err r) c = refl

  -- A form that is refused leaves every place as it was.
  pub refused_leaves_the_run : (r : Refusal) → check_of (length run) b ≡ Err r → (read_of run b).motors ≡ run
  refused_leaves_the_run r e = ap (λ (a : Answer). (read_by form_one run b a).motors) e

  module _ (n : ℕ) (e : check_of (length run) b ≡ Ok n) where
    accepted : Accepted form_one b n
    accepted = rw e at (checked_as form_one (length run) b)

    pub at_most_256_are_read : n ≤ places
    at_most_256_are_read = rw accepted.number accepted.at_most_256

    -- One that is accepted sets 256 places, each to what stands there when a form of so many motors is read.
    pub every_place_set_is_read : (ws : List Motor) → length ws ≡ places → ((i : ℕ) → i < places → get_or ws i zeros ≡ place_in n b i)
        → ws ≡ (read_of run b).motors
    every_place_set_is_read ws full each =
        ext_get_or zeros ws (filled motors) (full ∙ sym (filled_has_every_place places zeros motors (omega (arith, number, accepted.at_most_256))))
        (λ i h. each i (omega (arith, full, h)) ∙ ap (λ (count : ℕ). place_in count b i) accepted.number ∙ sym (at_place i))
        ∙ sym (ap (λ (a : Answer). (read_by form_one run b a).motors) e)
      where
        motors : List Motor
        motors = motors_in form_one b

        number : length (motors_in form_one b) ≡ count_in b
        number = length-listed (motor_in form_one (count_in b) b) 0 (count_in b)

        at_place : (i : ℕ) → get_or (filled (motors_in form_one b)) i zeros ≡ place_in (count_in b) b i
        at_place i =
            by_test (ltb i (count_in b))
            (λ t.
            let h : i < count_in b = ltb-true i (count_in b) t in
            let start : 0 + i ≡ i = omega arith in
            filled_has_the_record places zeros (motors_in form_one b) i (omega (arith, number))
            ∙ listed_at (motor_in form_one (count_in b) b) 0 (count_in b) i zeros h ∙ ap (motor_in form_one (count_in b) b) start
            ∙ at_its_place form_one (count_in b) b i accepted.at_most_256 accepted.as_long_as_it_says h refl)
            (λ t.
            let h : count_in b ≤ i = ltb-false i (count_in b) t in
            filled_is_blank_behind places zeros (motors_in form_one b) i (omega (arith, number))
            ∙ behind_the_last form_one (count_in b) b i h)

-- ---- writing
-- The answer, by what a lookup of any motor found.
module _ (run : List Motor) (count : ℕ) (n : ℕ) where
  found_either_way : (is_held : Bool) (place : ℕ) → room_of (standing is_held place) count n ≡ room_for count n
  found_either_way true place = refl
  found_either_way false place = refl

  by_room : sound_of run count ≡ true → room_for count n ≡ written_of run count n
  by_room t =
      let few = (sound_is run count t).at_most_256 in
      by_test (ltb n (form_length form_one count))
      (λ u. let h = ltb-true n (form_length form_one count) u in room_by count n 1 (few, h) ∙ sym (written_by run count n 1 (t, h)))
      (λ u. let h = ltb-false n (form_length form_one count) u in room_by count n 2 (few, (h, tt)) ∙ sym (written_by run count n 2 (t, (h, tt))))

  pub room_is_the_answer : (m : Motor) → room_of (found_of run count m) count n ≡ written_of run count n
  unfolding found_of
  room_is_the_answer m =
      by_test (sound_of run count)
      (λ t.
      rw t
      (found_either_way (holds by_line_and_node (held run count) (key_of m)) (place_of by_line_and_node (held run count) (key_of m)) ∙ by_room t))
      (λ t. rw t (sym (written_by run count n 0 t)))

  -- A form is written of a sound register, where there is room.
  pub written_where : (size : ℕ) → written_of run count n ≡ Ok size → (sound_of run count ≡ true) × (form_length form_one count ≤ n)
  unfolding written_of
  written_where size e =
      ⊎_elim (λ p. (p.0, p.1.0)) (λ r. absurd (false≢true (sym (ap is_err e) ∙ r)))
      (passed_or_answered (λ w. is_err w ≡ true) (write_form_table run count n) (Ok (form_length form_one count)) (refl, (refl, tt)))

module _ (count : ℕ) (buffer : List ℕ) where
  pub lay_head_keeps_the_length : length (head_laid count buffer) ≡ length buffer
  lay_head_keeps_the_length = head_keeps_the_length form_one form_one_is_of_one_size count buffer

  pub lay_motor_keeps_the_length : (at : ℕ) (m : Motor) → length (motor_laid count at m buffer) ≡ length buffer
  lay_motor_keeps_the_length at m = motor_keeps_the_length form_one form_one_is_of_one_size count at m buffer

module _ (run : List Motor) (count : ℕ) (buffer : List ℕ) where
  -- The head, and no motor.
  pub laying_starts : head_laid count buffer ≡ laid_up_to run count buffer 0
  unfolding first_over
  laying_starts = refl

  -- One motor more.
  pub laying_goes_on : (i : ℕ) → motor_laid count i (get_or run i zeros) (laid_up_to run count buffer i) ≡ laid_up_to run count buffer (i + 1)
  unfolding first_over
  laying_goes_on i = rw add-one

  pub laying_keeps_the_length : (i : ℕ) → length (laid_up_to run count buffer i) ≡ length buffer
  laying_keeps_the_length i = first_keep_the_length form_one form_one_is_of_one_size count run buffer i

  -- All the motors held: what the whole writing leaves.
  pub laying_ends : (n : ℕ) → written_of run count (length buffer) ≡ Ok n → laid_up_to run count buffer count ≡ buffer_after run count buffer
  laying_ends n e =
      let where_written = written_where run count (length buffer) n e in
      let sound = sound_is run count where_written.0 in
      let enough : count ≤ length run = omega (arith, sound.at_most_256, sound.of_256_places) in
      the_form_is_laid form_one form_one_is_of_one_size run count enough buffer
      (so_it_fits form_one count (length buffer) sound.at_most_256 where_written.1)
      ∙ sym (ap (λ (w : Written). laid w run count buffer) e)

  pub refused_leaves_the_buffer : (r : Refusal) → written_of run count (length buffer) ≡ Err r → buffer_after run count buffer ≡ buffer
  refused_leaves_the_buffer r e = ap (λ (w : Written). laid w run count buffer) e
