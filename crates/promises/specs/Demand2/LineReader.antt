-- Demand 2, the line reader: which byte joins the open bundle, which ends it, and what is handed out when it ends.
-- Assumes nothing.
use Rattle.std.specs.Prelude.{ℕ, ◌+◌, ◌-◌, ◌≤◌, ◌<◌, ◌≡◌, ◌≢◌, List, ◌∷◌, ◌++◌, length, replicate, Ok, Err, Some, None}
use Rattle.refusal.specs.declared.Refusal.{Refusal}
use Rattle.frame.specs.{Reading.{reading_of}, declared.{header.Header.{Header}}}
use Rattle.line.specs.{Reader.{fresh, step_of, close_of, ran_of}, declared.reader.{Reader.{Reader}, Stepped.{Stepped}}}
use Rattle.promises.specs.ReaderInRange.{ReaderInRange, open_bytes, zeros31, none_open, begun_with, without_answer}

-- What is handed out when the open bundle ends.
pub record HandedOut (r : Reader) (s : Stepped) : Type 0 where
  pub an_empty_bundle_is_never_reported : r.count ≡ 0 → (s.answer ≡ (Ok None)) × (s.bundle ≡ zeros31)
  pub a_frame_has_its_count_of_data_and_its_bytes_then_zeros :
      (h : Header) (n : ℕ) → r.count ≤ 31 → reading_of (open_bytes r) ≡ Ok (h, n)
      → (s.answer ≡ Ok (Some (h, n)))
      × ((n ≡ r.count - 11) × (s.bundle ≡ open_bytes r ++ replicate (31 - r.count) 0))
  pub a_refused_bundle_has_no_bytes :
      (q : Refusal) → r.count ≢ 0 → r.count ≤ 31 → reading_of (open_bytes r) ≡ Err q
      → (s.answer ≡ Err q) × (s.bundle ≡ zeros31)
  pub over_31_bytes_are_too_long : 31 < r.count → (s.answer ≡ Err Refusal.TooLong) × (s.bundle ≡ zeros31)

-- What a byte, with the silence before it, and the end of the recording make of a reader.
pub record Reads (r : Reader) : Type 0 where
  pub a_byte_after_less_than_30_joins :
      (byte silence : ℕ) → silence < 30 → r.count < 31
      → step_of r byte silence
      ≡ without_answer (record { kept = open_bytes r ++ byte ∷ replicate (30 - r.count) 0; count = r.count + 1 })
  pub the_32nd_byte_and_later_ones_are_not_kept :
      (byte silence : ℕ) → silence < 30 → 31 ≤ r.count
      → step_of r byte silence ≡ without_answer (record { kept = r.kept; count = 32 })
  pub the_first_silence_is_ignored :
      (byte silence : ℕ) → r.count ≡ 0 → step_of r byte silence ≡ without_answer (begun_with byte)
  pub a_byte_after_30_or_more_begins_a_bundle :
      (byte silence : ℕ) → 30 ≤ silence → (step_of r byte silence).reader ≡ begun_with byte
  pub a_silence_of_30_or_more_ends_the_bundle : (byte silence : ℕ) → 30 ≤ silence → HandedOut r (step_of r byte silence)
  pub a_close_leaves_no_bundle_open : (close_of r).reader ≡ none_open
  pub a_close_ends_the_bundle : HandedOut r (close_of r)
  pub it_stays_in_range : (byte silence : ℕ) → ReaderInRange (step_of r byte silence).reader

-- Bytes are handed out with a frame alone.
abbrev pub NoBytesWithoutAFrame : Stepped → Type 0
NoBytesWithoutAFrame s = ((h : Header) (n : ℕ) → s.answer ≢ Ok (Some (h, n))) → s.bundle ≡ zeros31

pub record LineReader : Type 0 where
  pub a_fresh_reader_has_no_bundle_open : fresh ≡ none_open
  -- of a reader that keeps 31 bytes, as all of the code do
  pub what_a_reader_in_range_does : (r : Reader) → ReaderInRange r → length r.kept ≡ 31 → Reads r
  -- by rows 7, 8 and 9 too
  pub a_step_without_a_frame_hands_out_zeros :
      (r : Reader) (byte silence : ℕ) → NoBytesWithoutAFrame (step_of r byte silence)
  pub a_close_without_a_frame_hands_out_zeros : (r : Reader) → NoBytesWithoutAFrame (close_of r)
  pub a_run_without_a_frame_hands_out_zeros :
      (r : Reader) (bytes silences : List ℕ) (place : ℕ) → NoBytesWithoutAFrame (ran_of r bytes silences place).stepped
