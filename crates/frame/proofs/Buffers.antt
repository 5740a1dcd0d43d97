-- The writer writes exactly when all is in range; the buffer changes at the frame's own bytes alone; and what stands there is read back.
-- Assumes nothing.
use Prim.Native.Nat.{ℕ, ◌+◌, ◌≤◌, ◌<◌}
use native.Mathlib.Omega.{arith}
use mathlib.Core.Path.{◌≡◌, refl, ◌∙◌, sym, ap}
use mathlib.Core.Logic.{◌↔◌, ◌⊎◌, inl, inr, ⊎_elim}
use mathlib.Core.List.{List, ◌++◌}
use lib.ListN.{length, take, drop}
use lib.Seq.{take_at, drop_at, length-take-le, drop-drop}
use Rattle.meaning.specs.Bytes.{Bytes}
use Rattle.meaning.specs.Tables.{no_row_applies, passed_or_answered}
use Rattle.refusal.specs.Number.{number_of}
use Rattle.refusal.specs.declared.Refusal.{Refusal}
use Rattle.frame.specs.Layout.{header_of, data_of}
use Rattle.frame.specs.Reading.{IsFrame, reading_of}
use Rattle.frame.specs.Writing.{writer_table, writing_of, Writable, refused_by, buffer_after, over, frame_of, Writing}
use Rattle.frame.specs.declared.header.Header.{Header}
use Rattle.frame.proofs.Rows.{told}
use Rattle.frame.proofs.Content.{length_data}
use Rattle.frame.proofs.Frames.{frame_is_read}
use Rattle.frame.proofs.Over.{length_over_at}
use Rattle.frame.proofs.ReadBack.{length_frame, written_is_a_frame, header_read_back, data_read_back}
use Rattle.frame.proofs.WrittenAgain.{written_again}
use Rattle.std.specs.Prelude.{Ok, Err}

module _ (room place : ℕ) (h : Header) (d : List ℕ) where
  pub writable_is_written : Writable room place h d → writing_of room place h d ≡ Ok (place + (11 + length d))
  unfolding writing_of
  writable_is_written w = no_row_applies (writer_table room place h d) (Ok (place + (11 + length d))) (search arith)

  -- Each row of the table has one of the writer's numbers, and where none applies all is in range.
  by_number : Writable room place h d ⊎ ((10 ≤ refused_by (writing_of room place h d)) × (refused_by (writing_of room place h d) ≤ 14))
  unfolding writing_of
  by_number =
      ⊎_elim (λ facts. inl (search arith)) inr
      (passed_or_answered (λ (a : Writing). (10 ≤ refused_by a) × (refused_by a ≤ 14)) (writer_table room place h d) (Ok (place + (11 + length d)))
      (search arith))

  pub written_exactly_when : Writable room place h d ↔ (refused_by (writing_of room place h d) ≡ 0)
  written_exactly_when = (λ w. ap refused_by (writable_is_written w), λ e. ⊎_elim (λ w. w) (λ l. absurd (omega arith)) by_number)

  numbered : (a : Writing) → (10 ≤ refused_by a) × (refused_by a ≤ 14) → (q : Refusal) × (a ≡ Err q) × (10 ≤ number_of q) × (number_of q ≤ 14)
  numbered (Ok n) l = absurd (omega arith)
  numbered (Err q) l = (q, refl, l.0, l.1)

  pub not_written_otherwise : ¬ Writable room place h d
      → (q : Refusal) × (writing_of room place h d ≡ Err q) × (10 ≤ number_of q) × (number_of q ≤ 14)
  not_written_otherwise n = ⊎_elim (λ w. absurd (n w)) (numbered (writing_of room place h d)) by_number

-- A refusal changes no byte of the buffer.
pub refused_writes_nothing : (buffer : List ℕ) (place : ℕ) (h : Header) (d : List ℕ) (q : Refusal) → writing_of (length buffer) place h d ≡ Err q
    → buffer_after buffer place h d ≡ buffer
refused_writes_nothing buffer place h d q e = sym (told buffer place h d (Err q) e).1

module _ (buffer : List ℕ) (place : ℕ) (h : Header) (d : List ℕ) (w : Writable (length buffer) place h d) where
  abbrev size : ℕ
  size = 11 + length d

  after_is : buffer_after buffer place h d ≡ take place buffer ++ over (frame_of h d) (drop place buffer)
  after_is = sym (told buffer place h d (Ok (place + size)) (writable_is_written (length buffer) place h d w)).1

  length_before : length (take place buffer) ≡ place
  length_before = length-take-le place buffer (omega arith)

  -- Before the frame nothing has changed,
  pub untouched_before : take place (buffer_after buffer place h d) ≡ take place buffer
  untouched_before = rw after_is (take_at (take place buffer) (over (frame_of h d) (drop place buffer)) place length_before)

  from_place : drop place (buffer_after buffer place h d) ≡ over (frame_of h d) (drop place buffer)
  from_place = rw after_is (drop_at (take place buffer) (over (frame_of h d) (drop place buffer)) place length_before)

  -- at the place stands the frame,
  pub stands_there : take size (drop place (buffer_after buffer place h d)) ≡ frame_of h d
  stands_there = rw from_place (take_at (frame_of h d) (drop (length (frame_of h d)) (drop place buffer)) size (length_frame h d))

  -- and behind it nothing has changed.
  pub untouched_behind : drop (place + size) (buffer_after buffer place h d) ≡ drop (place + size) buffer
  untouched_behind =
      rw (← drop-drop size place (buffer_after buffer place h d), from_place)
      (drop_at (frame_of h d) (drop (length (frame_of h d)) (drop place buffer)) size (length_frame h d) ∙ rw (length_frame h d, drop-drop))

  pub length_kept : length (buffer_after buffer place h d) ≡ length buffer
  length_kept = ap length after_is ∙ length_over_at (frame_of h d) buffer place (rw (length_frame h d) w.has_room)

  -- Reading what was written gives what was given, whatever stood in the buffer before, and wherever it was written.
  pub read_of_written : h.message < 256 → Bytes d
      → (reading_of (take size (drop place (buffer_after buffer place h d))) ≡ Ok (h, length d))
      × (data_of (take size (drop place (buffer_after buffer place h d))) ≡ d)
  read_of_written m b =
      rw stands_there (
        frame_is_read (frame_of h d) (written_is_a_frame h d w m b) ∙ rw (header_read_back h d w m b, length_frame h d) (ap (λ (n : ℕ). Ok (h, n)) (omega arith)),
        data_read_back h d w m b,
      )

-- What a frame says can be written wherever there is room, and writing it gives the frame's own bytes.
module _ (b : List ℕ) (f : IsFrame b) (y : Bytes b) where
  pub frame_is_writable : (room place : ℕ) → place + length b ≤ room → Writable room place (header_of b) (data_of b)
  frame_is_writable room place r =
      record {
        source_is_an_address = omega arith;
        destination_is_an_address = omega arith;
        sender_is_a_type = omega arith;
        receiver_is_a_type = omega arith;
        to_20_bytes = omega (arith, length_data b);
        has_a_message = f.has_a_message;
        has_room = omega (arith, length_data b);
      }

  pub written_of_read : (buffer : List ℕ) (place : ℕ) → place + length b ≤ length buffer
      → take (length b) (drop place (buffer_after buffer place (header_of b) (data_of b))) ≡ b
  written_of_read buffer place r =
      let n : 11 + length (data_of b) ≡ length b = omega (arith, length_data b) in
      ap (λ (k : ℕ). take k (drop place (buffer_after buffer place (header_of b) (data_of b)))) (sym n)
      ∙ stands_there buffer place (header_of b) (data_of b) (frame_is_writable (length buffer) place r)
      ∙ written_again b f y
