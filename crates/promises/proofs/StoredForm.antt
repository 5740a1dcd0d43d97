-- Demand 2 of the stored form is kept.
-- Assumes nothing.
use Prim.Native.Nat.{ℕ, ◌+◌, ◌*◌, ◌/◌, ◌%◌, ◌≤◌, ◌<◌}
use native.Mathlib.Omega.{arith}
use mathlib.Core.Path.{◌≡◌, refl, ◌∙◌, sym, ap}
use mathlib.Core.Bool.{true}
use mathlib.Core.List.{List, [], ◌∷◌}
use lib.ListN.{length, take, drop, length-drop}
use lib.Seq.{take-append-le, drop-append-le}
use borrow.Author.Tests.{eq-eqb, ne_eqb}
use Rattle.runs.proofs.ByPlace.{all_exactly_when_by_place}
use Rattle.runs.proofs.Filled.{filled_has_the_record}
use Rattle.motors.specs.Motor.{zeros}
use Rattle.motors.specs.Register.{held, sound_of}
use Rattle.motors.specs.declared.motor.Motor.{Motor}
use Rattle.motors.proofs.Sound.{length_held}
use Rattle.form.specs.Layout.{form_length, head_bytes, entry_bytes as form_entry, form_of, count_in, motor_in, motors_in}
use Rattle.form.specs.FormOne.{form_one, TwoBytePulse, TwoBytePulses}
use Rattle.form.specs.Reading.{read_of}
use Rattle.form.specs.Writing.{written_of, buffer_after as form_written, Written}
use Rattle.form.proofs.Accepted.{Accepted}
use Rattle.form.proofs.FormLaws as form
use Rattle.form.proofs.FormLaws.{a_register_written_and_read_again_is_the_same as written_and_read_again}
use Rattle.form.proofs.FormOne.{form_one_is_faithful}
use Rattle.form.proofs.InPlace.{written_where, laying_keeps_the_length, laying_ends, refused_leaves_the_buffer}
use Rattle.form.proofs.ReadBack.{entry_is, body_is}
use Rattle.form.proofs.Rows.{written_by}
use Rattle.form.proofs.WrittenBack.{number, at_place}
use Rattle.promises.specs.RegisterInRange.{InRange, at, RegisterInRange}
use Rattle.promises.specs.StoredBytes.{entry_at, body_at, HoldsStored, entry_bytes}
use Rattle.promises.specs.Demand2.Register.{held_after}
use Rattle.promises.specs.Demand2.StoredForm.{Restored, Stored, StoredForm}
use Rattle.promises.proofs.RegisterInRange.{at_held, row_19, so_sound}
use Rattle.promises.proofs.StoredBytes.{bodies_exactly_when, motor_is_stored}
use Rattle.motors.specs.Answer.{Answer}
use Rattle.std.specs.Prelude.{Ok, Err}

-- ---- reading
module _ (run : List Motor) (b : List ℕ) where
  module _ (n : ℕ) (e : (read_of run b).answer ≡ Ok n) where
    accepted : Accepted form_one b n
    accepted = form.accepted run b n e

    read_in_range : RegisterInRange (read_of run b).motors n
    read_in_range = row_19 _ n (form.an_accepted_form_gives_a_sound_register run b n e)

    -- The motor of its entry and body stands at each place.
    motor_at_lem : (i : ℕ) → i < count_in b → at (read_of run b).motors i ≡ motor_in form_one (count_in b) b i
    motor_at_lem i h =
        let many = number form_one TwoBytePulse form_one_is_faithful b n accepted in
        ap (λ (motors : List Motor). at motors i) (form.places-read run b n e)
        ∙ filled_has_the_record 256 zeros (motors_in form_one b) i (omega (arith, h, many))
        ∙ at_place form_one TwoBytePulse form_one_is_faithful b n accepted i h

    stored_at : (i : ℕ) → i < n → HoldsStored (at (read_of run b).motors i) b n i
    stored_at i h =
        let k : i < count_in b = omega (arith, h, accepted.number) in
        rw (motor_at_lem i k, accepted.number) (motor_is_stored b (count_in b) i ((bodies_exactly_when b (count_in b)).1 accepted.bodies_right_lem i k))

    restored : Restored b n (read_of run b).motors
    restored =
        record {
          the_run_has_256_places = read_in_range.of_256_places;
          each_motor_is_its_entry_and_body = stored_at;
          each_place_behind_is_zeros = read_in_range.every_other_place_is_zeros;
        }

  -- A form that is refused leaves the register as it was.
  still_in_range : (count : ℕ) → RegisterInRange run count → (a : Answer) → (read_of run b).answer ≡ a
      → RegisterInRange (read_of run b).motors (held_after count a)
  still_in_range count r (Ok n) e = read_in_range n e
  still_in_range count r (Err q) e = rw (form.a_refused_form_leaves_the_run_as_it_was run b q e) r

-- ---- writing
-- Line and NodeID of a record in range fill no more than their bytes.
entry_laid : (m : Motor) → InRange m → (place : ℕ) → form_entry m place ≡ entry_bytes m place
entry_laid m r place =
    let line : m.line % 256 ≡ m.line = omega (arith, r.line_0_to_3) in
    let high : m.node / 65536 % 256 ≡ m.node / 65536 = omega (arith, r.node_id_to_fffeffh) in
    rw (line, high)

module _ (run : List Motor) (count n : ℕ) (buffer : List ℕ) (e : written_of run count (length buffer) ≡ Ok n) where
  sound : sound_of run count ≡ true
  sound = (written_where run count (length buffer) n e).0

  of_its_length : n ≡ 3 + 11 * count
  of_its_length =
      let answered = written_by run count (length buffer) 2 (sound, ((written_where run count (length buffer) n e).1, tt)) in
      let same : Ok n ≡ Ok (3 + 11 * count) = sym e ∙ answered in
      cc

  abbrev whole : List ℕ
  whole = form_of form_one (held run count)

  many : length (held run count) ≡ count
  many = length_held run count sound

  size : length whole ≡ 3 + 11 * count
  size = form.length_form (held run count) ∙ ap (form_length form_one) many

  behind : drop n (form_written run count buffer) ≡ drop n buffer
  behind = rw (← (size ∙ sym of_its_length)) (form.no_byte_behind_the_form_is_changed run count buffer n e)

  -- What stands in the buffer within the form is the form's.
  part_of_it : (size place : ℕ) → place + size ≤ length whole → take size (drop place (form_written run count buffer)) ≡ take size (drop place whole)
  part_of_it size place h =
      let rest = drop (length whole) buffer in
      let room : size ≤ length (drop place whole) = rw length-drop (omega arith) in
      ap (λ (w : List ℕ). take size (drop place w)) (form.the_form_stands_at_the_start run count buffer n e)
      ∙ rw (drop-append-le place whole rest (omega arith), take-append-le size (drop place whole) rest room)

  begins : take 3 (form_written run count buffer) ≡ 1 ∷ count % 256 ∷ count / 256 ∷ []
  unfolding form_of
  begins = part_of_it 3 0 (omega (arith, size)) ∙ ap (head_bytes form_one) many

  module _ (i : ℕ) (h : i < count) where
    entry : take 6 (drop (entry_at i) (form_written run count buffer)) ≡ entry_bytes (at run i) (body_at count i)
    entry =
        part_of_it 6 (entry_at i) (omega (arith, size))
        ∙ entry_is form_one TwoBytePulse form_one_is_faithful (held run count) i (omega (arith, many))
        ∙ rw (many, at_held run count i h)
        (entry_laid (at run i) ((row_19 run count sound).every_record_held_is_in_range i h) (body_at count i))

    body : take 5 (drop (body_at count i) (form_written run count buffer)) ≡ form_one.body_of (at run i)
    body =
        part_of_it 5 (body_at count i) (omega (arith, size))
        ∙ ap (λ (k : ℕ). take 5 (drop (body_at k i) whole)) (sym many)
        ∙ body_is form_one TwoBytePulse form_one_is_faithful (held run count) i (omega (arith, many))
        ∙ ap form_one.body_of (at_held run count i h)

  stored : Stored run count (form_written run count buffer)
  stored =
      record {
        it_begins_with_01h_and_the_count = begins;
        each_motor_has_its_entry = entry;
        a_reading_is_a_body = λ i h one. body i h ∙ rw (eq-eqb (at run i).mark 1 one);
        no_reading_is_five_zeros = λ i h none. body i h ∙ rw (ne_eqb (at run i).mark 1 (λ one. omega (arith, one, none)));
      }

buffer_length : (run : List Motor) (count : ℕ) (buffer : List ℕ) → length (form_written run count buffer) ≡ length buffer
buffer_length run count buffer = by_answer (written_of run count (length buffer)) refl
  where
    by_answer : (w : Written) → written_of run count (length buffer) ≡ w → length (form_written run count buffer) ≡ length buffer
    by_answer (Ok n) e = sym (ap length (laying_ends run count buffer n e)) ∙ laying_keeps_the_length run count buffer count
    by_answer (Err r) e = ap length (refused_leaves_the_buffer run count buffer r e)

-- ---- both ways
small_pulses : (run : List Motor) (count : ℕ) → RegisterInRange run count → ((place : ℕ) → place < count → (at run place).pulse < 65536)
    → TwoBytePulses (held run count)
small_pulses run count r small = (all_exactly_when_by_place TwoBytePulse zeros (held run count)).1 λ i h.
    let k : i < count = omega (arith, h, length_held run count (so_sound run count r)) in
    rw (at_held run count i k) (small i k)

pub stored_form : StoredForm
stored_form =
    record {
      what_is_read = restored;
      what_is_written = stored;
      form_written_is_read = λ run count r small. written_and_read_again run count (so_sound run count r) (small_pulses run count r small);
      what_is_read_is_written = λ run b n e bytes. form.a_form_read_and_written_again_is_the_same run b n e (λ i within. bytes i);
      a_form_has_3_bytes_and_11_a_motor = of_its_length;
      no_byte_behind_the_form_is_changed = behind;
      the_buffer_keeps_its_length = buffer_length;
      the_count_is_the_one_stored = form.the_count_is_the_one_stored;
      what_is_read_is_sound = read_in_range;
      a_sound_register_stays_sound = λ run count b r. still_in_range run b count r (read_of run b).answer refl;
    }
