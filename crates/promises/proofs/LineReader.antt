-- The line reader's steps, its close and its runs, in plain numbers.
-- Assumes nothing.
use Prim.Native.Nat.{ℕ, suc, ◌+◌, ◌-◌, ◌≤◌, ◌<◌}
use native.Mathlib.Omega.{arith}
use mathlib.Core.Path.{◌≡◌, refl, ◌∙◌, sym, ap}
use mathlib.Core.Logic.{◌≢◌}
use mathlib.Core.Bool.{not}
use mathlib.Core.List.{List, [], ◌∷◌, ◌++◌}
use borrow.Author.Tests.{leb-true, leb-false, lt-ltb, le-ltb}
use lib.Dec.{eqb, leb, ltb}
use lib.ListN.{length, take, drop, replicate}
use lib.Seq.{length-take-le}
use Rattle.meaning.specs.Cases.{by_test}
use Rattle.meaning.specs.Choice.{either}
use Rattle.frame.specs.Layout.{header_of, data_count}
use Rattle.frame.specs.Reading.{reading_of, IsFrame, refused_by, Reading}
use Rattle.frame.specs.declared.header.Header.{Header}
use Rattle.frame.proofs.Frames.{frame_exactly_when, frame_is_read}
use Rattle.line.specs.Reader.{is_sound, fresh, begun, ending_silence, answered_by, ended_with, step_of, close_of, goes_on, run_of, ran_of}
use Rattle.line.specs.declared.reader.Reader.{Reader}
use Rattle.line.specs.declared.reader.Ran.{Ran}
use Rattle.line.proofs.Steps.{ended_empty, ended_too_long, ended_read, goes_on_as, step-ends, step_joins, close_ends}
use Rattle.promises.specs.ReaderInRange.{ReaderInRange, open_bytes, begun_with, without_answer}
use Rattle.promises.specs.Demand2.LineReader.{HandedOut, Reads, NoBytesWithoutAFrame, LineReader}
use Rattle.promises.proofs.ReaderInRange.{is_sound_lem, stays_in_range, kept_is, kept_with}
use Rattle.std.specs.Prelude.{Ok, Err, Some}
use Rattle.std.specs.Result.{result_unwrap_or}

-- ---- of a reader in range that keeps 31 bytes
module _ (r : Reader) (i : ReaderInRange r) (size : length r.kept ≡ 31) where
  joins : (byte silence : ℕ) → silence < 30 → r.count < 31
      → step_of r byte silence ≡ without_answer (record { kept = open_bytes r ++ byte ∷ replicate (30 - r.count) 0; count = r.count + 1 })
  joins byte silence h room = step_joins r byte silence (is_sound_lem r i) h ∙ rw (lt-ltb r.count 31 room, kept_with r i size byte room)

  beyond : (byte silence : ℕ) → silence < 30 → 31 ≤ r.count → step_of r byte silence ≡ without_answer (record { kept = r.kept; count = 32 })
  beyond byte silence h full = step_joins r byte silence (is_sound_lem r i) h ∙ rw (le-ltb r.count 31 full)

  first : (byte silence : ℕ) → r.count ≡ 0 → step_of r byte silence ≡ without_answer (begun_with byte)
  first byte silence e =
      by_test (leb 30 silence)
      (λ t. step-ends r byte silence (is_sound_lem r i) (leb-true 30 silence t) ∙ ended_empty r (begun byte) e)
      (λ t. joins byte silence (leb-false 30 silence t) (omega arith) ∙ rw e)

  begins : (byte silence : ℕ) → 30 ≤ silence → (step_of r byte silence).reader ≡ begun_with byte
  begins byte silence h = rw (step-ends r byte silence (is_sound_lem r i) h) (goes_on_as r (begun byte))

  frame_handed : (next : Reader) (h : Header) (n : ℕ) → r.count ≤ 31 → reading_of (open_bytes r) ≡ Ok (h, n)
      → ((ended_with r next).answer ≡ Ok (Some (h, n)))
      × ((n ≡ r.count - 11) × ((ended_with r next).bundle ≡ open_bytes r ++ replicate (31 - r.count) 0))
  frame_handed next h n few e =
      let f : IsFrame (open_bytes r) = (frame_exactly_when (open_bytes r)).1 (ap refused_by e) in
      let many = length-take-le r.count r.kept (omega arith) in
      let some : r.count ≢ 0 = omega (arith, f.from_11_bytes) in
      let same : Ok (header_of (open_bytes r), data_count (open_bytes r)) ≡ Ok (h, n) = sym (frame_is_read (open_bytes r) f) ∙ e in
      let data_count_lem : data_count (open_bytes r) ≡ n = ap (λ (x : Reading). (result_unwrap_or x (h, n)).1) same in
      rw (ended_read r next some few, e) (refl, (omega arith, kept_is r i size))

  handed : (next : Reader) → HandedOut r (ended_with r next)
  handed next =
      record {
        an_empty_bundle_is_never_reported = λ e. rw (ended_empty r next e) (refl, refl);
        a_frame_has_its_count_of_data_and_its_bytes_then_zeros = frame_handed next;
        a_refused_bundle_has_no_bytes = λ q some few e. rw (ended_read r next some few, e) (refl, refl);
        over_31_bytes_are_too_long = λ h. rw (ended_too_long r next (omega arith) h) (refl, refl);
      }

  reads : Reads r
  reads =
      record {
        a_byte_after_less_than_30_joins = joins;
        the_32nd_byte_and_later_ones_are_not_kept = beyond;
        the_first_silence_is_ignored = first;
        a_byte_after_30_or_more_begins_a_bundle = begins;
        a_silence_of_30_or_more_ends_the_bundle = λ byte silence h. rw (step-ends r byte silence (is_sound_lem r i) h) (handed (begun byte));
        a_close_leaves_no_bundle_open = rw (close_ends r (is_sound_lem r i)) (goes_on_as r fresh);
        a_close_ends_the_bundle = rw (close_ends r (is_sound_lem r i)) (handed fresh);
        it_stays_in_range = λ byte silence. stays_in_range r byte silence i;
      }

-- ---- without a frame, no byte is handed out
answered_none : (x : Reading) (kept : List ℕ) (next : Reader) → NoBytesWithoutAFrame (answered_by x kept next)
answered_none (Ok (h, n)) kept next none = absurd (none h n refl)
answered_none (Err q) kept next none = refl

ended_none : (r next : Reader) → NoBytesWithoutAFrame (ended_with r next)
unfolding ended_with
ended_none r next =
    either NoBytesWithoutAFrame (eqb r.count 0) (λ t none. refl) λ some.
    either NoBytesWithoutAFrame (ltb 31 r.count) (λ t none. refl) λ few.
    answered_none (reading_of (take r.count r.kept)) r.kept next

step-none : (r : Reader) (byte silence : ℕ) → NoBytesWithoutAFrame (step_of r byte silence)
unfolding step_of
step-none r byte silence =
    either NoBytesWithoutAFrame (not (is_sound r)) (λ t none. refl) λ fine.
    either NoBytesWithoutAFrame (leb ending_silence silence) (λ t. ended_none r (begun byte)) (λ t none. refl)

close_none : (r : Reader) → NoBytesWithoutAFrame (close_of r)
unfolding close_of
close_none r = either NoBytesWithoutAFrame (not (is_sound r)) (λ t none. refl) (λ t. ended_none r fresh)

abbrev RunNone : Ran → Type 0
RunNone x = NoBytesWithoutAFrame x.stepped

steps_none : (r : Reader) (bytes silences : List ℕ) (place : ℕ) → RunNone (run_of r bytes silences place)
unfolding run_of
steps_none r [] silences place = λ none. refl
steps_none r (byte ∷ bytes) [] place = λ none. refl
steps_none r (byte ∷ bytes) (silence ∷ silences) place =
    either RunNone (goes_on (step_of r byte silence).answer) (λ t. steps_none (step_of r byte silence).reader bytes silences (suc place))
    (λ t. step-none r byte silence)

run_none : (r : Reader) (bytes silences : List ℕ) (place : ℕ) → RunNone (ran_of r bytes silences place)
unfolding ran_of
run_none r bytes silences place =
    either RunNone (not (is_sound r)) (λ t none. refl) λ fine.
    either RunNone (not (eqb (length bytes) (length silences))) (λ t none. refl) λ same.
    either RunNone (ltb (length bytes) place) (λ t none. refl) λ within.
    steps_none r (drop place bytes) (drop place silences) place

pub line_reader : LineReader
line_reader =
    record {
      a_fresh_reader_has_no_bundle_open = refl;
      what_a_reader_in_range_does = reads;
      a_step_without_a_frame_hands_out_zeros = step-none;
      a_close_without_a_frame_hands_out_zeros = close_none;
      a_run_without_a_frame_hands_out_zeros = run_none;
    }
