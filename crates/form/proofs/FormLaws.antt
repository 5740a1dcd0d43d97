-- Read and written forms undo each other, and a refused form leaves all as it was.
-- Assumes nothing.
use Prim.Native.Nat.{ℕ, ◌≤◌}
use native.Mathlib.Omega.{arith}
use mathlib.Core.Path.{◌≡◌, refl, ◌∙◌, sym, ap, ap₂}
use mathlib.Core.Bool.{true}
use mathlib.Core.List.{List}
use lib.ListN.{length, take, drop}
use lib.Seq.{take_at, drop_at}
use Rattle.meaning.specs.Bytes.{Bytes}
use Rattle.refusal.specs.declared.Refusal.{Refusal}
use Rattle.frame.specs.Writing.{over}
use Rattle.motors.specs.Register.{held, filled, sound_of}
use Rattle.motors.specs.declared.answer.Next.{Next}
use Rattle.motors.specs.declared.motor.Motor.{Motor}
use Rattle.motors.proofs.Sound.{sound_is, is_sound_lem, held_again, length_held}
use Rattle.form.specs.Layout.{form_length, form_of, count_in, motors_in}
use Rattle.form.specs.FormOne.{form_one, TwoBytePulse, TwoBytePulses}
use Rattle.form.specs.Reading.{read_by, check_of, read_of}
use Rattle.form.specs.Writing.{written_of, laid, buffer_after, Written}
use Rattle.form.proofs.Accepted.{Accepted, checked_as}
use Rattle.form.proofs.FormOne.{form_one_is_of_one_size, form_one_is_faithful}
use Rattle.form.proofs.InPlace.{the_check_is_the_answer, refused_leaves_the_run, refused_leaves_the_buffer}
use Rattle.form.proofs.Laying as laying
use Rattle.form.proofs.ReadBack.{accepted_back, motors_back}
use Rattle.form.proofs.Rows.{written_by}
use Rattle.form.proofs.WrittenBack.{number, motors_right, motors_ascend, form_again}
use Rattle.motors.specs.Answer.{Answer}
use Rattle.std.specs.Prelude.{Ok, Err}

pub length_form : (l : List Motor) → length (form_of form_one l) ≡ form_length form_one (length l)
length_form l = laying.length_form form_one form_one_is_of_one_size l

-- ---- read of written is the register
abbrev pub next : List Motor → ℕ → Next
next motors n = record { motors = motors; answer = Ok n }

module _ (run : List Motor) (count : ℕ) (ok : sound_of run count ≡ true) (pulses : TwoBytePulses (held run count)) where
  pub read_of_written_is_the_register : (other : List Motor) → length other ≡ 256 → read_of other (form_of form_one (held run count)) ≡ next run count
  read_of_written_is_the_register other full =
      let s = sound_is run count ok in
      let l = held run count in
      let few : length (held run count) ≤ 256 = omega (arith, length_held run count ok, s.at_most_256) in
      let same : motors_in form_one (form_of form_one l) ≡ l =
      motors_back form_one TwoBytePulse form_one_is_faithful l few s.all_right s.ascending pulses in
      ap (read_by form_one other (form_of form_one l))
      (ap (λ (n : ℕ). check_of n (form_of form_one l)) full
      ∙ accepted_back form_one TwoBytePulse form_one_is_faithful l few s.all_right s.ascending pulses)
      ∙ ap (λ (k : List Motor). next (filled k) (length k)) same
      ∙ ap₂ next (sym s.zeros_behind) (length_held run count ok)

-- ---- written of read is the bytes
module _ (run : List Motor) (b : List ℕ) where
  abbrev after : Next
  after = read_of run b

  pub a_refused_form_leaves_the_run_as_it_was : (r : Refusal) → after.answer ≡ Err r → after.motors ≡ run
  a_refused_form_leaves_the_run_as_it_was r e = refused_leaves_the_run run b r (the_check_is_the_answer run b ∙ e)

  module _ (n : ℕ) (e : after.answer ≡ Ok n) where
    counted : check_of (length run) b ≡ Ok n
    counted = the_check_is_the_answer run b ∙ e

    pub accepted : Accepted form_one b n
    accepted = rw counted at (checked_as form_one (length run) b)

    abbrev motors : List Motor
    motors = motors_in form_one b

    number_read : length motors ≡ count_in b
    number_read = number form_one TwoBytePulse form_one_is_faithful b n accepted

    pub places-read : after.motors ≡ filled motors
    places-read = ap (λ (a : Answer). (read_by form_one run b a).motors) counted

    pub the_count_is_the_one_stored : n ≡ count_in b
    the_count_is_the_one_stored = accepted.number

    count_read : n ≡ length motors
    count_read = the_count_is_the_one_stored ∙ sym number_read

    pub an_accepted_form_gives_a_sound_register : sound_of after.motors n ≡ true
    an_accepted_form_gives_a_sound_register =
        ap₂ sound_of places-read count_read
        ∙ is_sound_lem motors (omega (arith, number_read, accepted.at_most_256))
        (motors_right form_one TwoBytePulse form_one_is_faithful b n accepted)
        (motors_ascend form_one TwoBytePulse form_one_is_faithful b n accepted)

    module _ (bytes : Bytes b) where
      pub written_of_read_is_the_bytes : form_of form_one (held after.motors n) ≡ b
      written_of_read_is_the_bytes =
          ap (form_of form_one) (ap₂ held places-read count_read ∙ held_again motors)
          ∙ form_again form_one TwoBytePulse form_one_is_faithful b n accepted bytes

      pub a_form_read_and_written_again_is_the_same : (buffer : List ℕ) → length b ≤ length buffer
          → (written_of after.motors n (length buffer) ≡ Ok (length b)) × (buffer_after after.motors n buffer ≡ over b buffer)
      a_form_read_and_written_again_is_the_same buffer room =
          let n-is : form_length form_one n ≡ length b = ap (form_length form_one) the_count_is_the_one_stored ∙ sym accepted.as_long_as_it_says in
          let answered = written_by after.motors n (length buffer) 2 (an_accepted_form_gives_a_sound_register, (omega (arith, n-is), tt)) in (
            answered ∙ ap Ok n-is,
            ap (λ (w : Written). laid w after.motors n buffer) answered ∙ ap (λ (w : List ℕ). over w buffer) written_of_read_is_the_bytes,
          )

-- ---- writing changes the form's own bytes alone
pub a_refused_writing_changes_no_byte : (run : List Motor) (count : ℕ) (buffer : List ℕ) (r : Refusal)
    → written_of run count (length buffer) ≡ Err r → buffer_after run count buffer ≡ buffer
a_refused_writing_changes_no_byte = refused_leaves_the_buffer

module _ (run : List Motor) (count : ℕ) (buffer : List ℕ) (n : ℕ) (e : written_of run count (length buffer) ≡ Ok n) where
  abbrev form : List ℕ
  form = form_of form_one (held run count)

  -- What is written is the form, and the answer its length.
  pub the_form_stands_at_the_start : buffer_after run count buffer ≡ over form buffer
  the_form_stands_at_the_start = ap (λ (w : Written). laid w run count buffer) e

  pub no_byte_behind_the_form_is_changed : drop (length form) (buffer_after run count buffer) ≡ drop (length form) buffer
  no_byte_behind_the_form_is_changed =
      ap (drop (length form)) the_form_stands_at_the_start ∙ drop_at form (drop (length form) buffer) (length form) refl

-- A register written into a buffer and read from there is the register again.
pub a_register_written_and_read_again_is_the_same : (run : List Motor) (count : ℕ) → sound_of run count ≡ true → TwoBytePulses (held run count)
    → (buffer : List ℕ) → form_length form_one count ≤ length buffer → (other : List Motor) → length other ≡ 256
    → read_of other (take (form_length form_one count) (buffer_after run count buffer)) ≡ next run count
a_register_written_and_read_again_is_the_same run count ok pulses buffer room other full =
    let form = form_of form_one (held run count) in
    let size : length form ≡ form_length form_one count = length_form (held run count) ∙ ap (form_length form_one) (length_held run count ok) in
    ap (λ (w : List ℕ). read_of other (take (form_length form_one count) w))
    (the_form_stands_at_the_start run count buffer (form_length form_one count) (written_by run count (length buffer) 2 (ok, (room, tt))))
    ∙ ap (read_of other) (take_at form (drop (length form) buffer) (form_length form_one count) size)
    ∙ read_of_written_is_the_register run count ok pulses other full
