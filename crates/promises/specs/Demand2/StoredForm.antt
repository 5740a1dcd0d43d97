-- Demand 2, the stored form: each byte of it, what is written is read, and what is read is written.
-- Assumes nothing.
use Rattle.std.specs.Prelude.{ℕ, ◌+◌, ◌*◌, ◌/◌, ◌%◌, ◌≤◌, ◌<◌, ◌≡◌, List, [], ◌∷◌, ◌++◌, length, take, drop, Ok}
use Rattle.motors.specs.declared.motor.Motor.{Motor}
use Rattle.form.specs.{Reading.{read_of}, Writing.{written_of, buffer_after as form_written}}
use Rattle.promises.specs.Wire.{Bytes}
use Rattle.promises.specs.RegisterInRange.{Holds, at, RegisterInRange}
use Rattle.promises.specs.StoredBytes.{
  stored_count,
  entry_at,
  body_at,
  HoldsStored,
  entry_bytes,
  reading_bytes,
  five_zeros,
}
use Rattle.promises.specs.Demand2.Register.{held_after}

-- What stands in the run after a form of `n` motors is read: all 256 places are set.
pub record Restored (b : List ℕ) (n : ℕ) (motors : List Motor) : Type 0 where
  pub the_run_has_256_places : length motors ≡ 256
  pub each_motor_is_its_entry_and_body : (i : ℕ) → i < n → HoldsStored (at motors i) b n i
  pub each_place_behind_is_zeros : (place : ℕ) → n ≤ place → place < 256 → Holds (at motors place) 0 0 0 0 0 0

-- What stands at the start of a buffer after a register is written there.
pub record Stored (run : List Motor) (count : ℕ) (b : List ℕ) : Type 0 where
  pub it_begins_with_01h_and_the_count : take 3 b ≡ 1 ∷ count % 256 ∷ count / 256 ∷ []
  pub each_motor_has_its_entry :
      (i : ℕ) → i < count → take 6 (drop (entry_at i) b) ≡ entry_bytes (at run i) (body_at count i)
  pub a_reading_is_a_body : (i : ℕ) → i < count → (at run i).mark ≡ 1
      → take 5 (drop (body_at count i) b) ≡ reading_bytes (at run i)
  pub no_reading_is_five_zeros : (i : ℕ) → i < count → (at run i).mark ≡ 0
      → take 5 (drop (body_at count i) b) ≡ five_zeros

-- Of bytes below 256 and pulses of two bytes, as all of the code are.
pub record StoredForm : Type 0 where
  pub what_is_read : (run : List Motor) (b : List ℕ) (n : ℕ) → (read_of run b).answer ≡ Ok n
      → Restored b n (read_of run b).motors
  pub what_is_written :
      (run : List Motor) (count n : ℕ) (buffer : List ℕ) → written_of run count (length buffer) ≡ Ok n
      → Stored run count (form_written run count buffer)
  pub form_written_is_read :
      (run : List Motor) (count : ℕ) → RegisterInRange run count
      → ((place : ℕ) → place < count → (at run place).pulse < 65536)
      → (buffer : List ℕ) → 3 + 11 * count ≤ length buffer → (other : List Motor) → length other ≡ 256
      → read_of other (take (3 + 11 * count) (form_written run count buffer))
      ≡ record { motors = run; answer = Ok count }
  pub what_is_read_is_written :
      (run : List Motor) (b : List ℕ) (n : ℕ) → (read_of run b).answer ≡ Ok n → Bytes b
      → (buffer : List ℕ) → length b ≤ length buffer
      → (written_of (read_of run b).motors n (length buffer) ≡ Ok (length b))
      × (form_written (read_of run b).motors n buffer ≡ b ++ drop (length b) buffer)
  pub a_form_has_3_bytes_and_11_a_motor :
      (run : List Motor) (count n : ℕ) (buffer : List ℕ) → written_of run count (length buffer) ≡ Ok n
      → n ≡ 3 + 11 * count
  pub no_byte_behind_the_form_is_changed :
      (run : List Motor) (count n : ℕ) (buffer : List ℕ) → written_of run count (length buffer) ≡ Ok n
      → drop n (form_written run count buffer) ≡ drop n buffer
  pub the_buffer_keeps_its_length :
      (run : List Motor) (count : ℕ) (buffer : List ℕ) → length (form_written run count buffer) ≡ length buffer
  pub the_count_is_the_one_stored :
      (run : List Motor) (b : List ℕ) (n : ℕ) → (read_of run b).answer ≡ Ok n → n ≡ stored_count b
  pub what_is_read_is_sound : (run : List Motor) (b : List ℕ) (n : ℕ) → (read_of run b).answer ≡ Ok n
      → RegisterInRange (read_of run b).motors n
  -- row 19 never applies after a call, done or refused
  pub a_sound_register_stays_sound :
      (run : List Motor) (count : ℕ) (b : List ℕ) → RegisterInRange run count
      → RegisterInRange (read_of run b).motors (held_after count (read_of run b).answer)
