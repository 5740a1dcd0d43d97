-- The rows of the transmitter's messages, read and written.
-- Assumes nothing.
use Prim.Native.Nat.{ℕ, ◌+◌, ◌<◌}
use native.Mathlib.Omega.{arith}
use mathlib.Core.Path.{◌≡◌, refl, ◌∙◌, sym, ap}
use mathlib.Core.Logic.{◌≢◌, ◌↔◌}
use mathlib.Core.Bool.{true}
use mathlib.Core.List.{List, [], ◌∷◌, ◌++◌}
use borrow.Author.Tests.{eqb-true, eqb-false}
use lib.Dec.{eqb}
use lib.ListN.{length}
use Rattle.meaning.specs.Cases.{by_test}
use Rattle.meaning.specs.Tests.{passed_by}
use Rattle.frame.specs.{
  Layout.{header_of, data_count, data_of, message},
  Reading.{bundle_table, reading_of, Reading},
  Writing.{frame_table, room_table, writing_with},
}
use Rattle.frame.proofs.Content as content
use Rattle.rts.specs.{
  Envelope.{envelope_of},
  Spelling.{spelled_by, Spelled},
  Fields.{four_of},
  Table.{number_of, data_of as content_of, in_range},
  Reading.{check_table, checked_by, listed, received_by, received_of},
  Writing.{header_of as message_header, field_row, written_of},
  declared.{envelope.Envelope.{Envelope}, message.Message.{Message}},
}
use Rattle.rts.proofs.Lines.{at_most_four, no_reserved_number}
use Rattle.rts.proofs.Spelling.{spelled_number, spelled_data, one_message, one_count, unlisted}
use Rattle.promises.specs.Numbers.{write_number, received_number}
use Rattle.promises.specs.Rows.{◌when◌, FirstOf, applies, passes, typed_rows, receive_rows, send_rows}
use Rattle.promises.proofs.First.{first, first_then, same_number, at_the_end, in_other_words, as_it_is, behind, never_applies}
use Rattle.std.specs.Prelude.{Ok, Some, None}

-- ---- read
module _ (b : List ℕ) where
  abbrev envelope : Envelope
  envelope = envelope_of (header_of b)

  abbrev spelling : Spelled
  spelling = spelled_by (message b) (four_of (data_of b))

  abbrev Fits : Message → Type 0
  Fits m = (number_of m ≡ message b) × (length (content_of m) ≡ data_count b)

  abbrev Said : Message → Type 0
  Said m = (number_of m ≡ message b) × ((content_of m ≡ data_of b) × ((in_range m).holds ≡ true))

  module _ (m : Message) (spelled : spelling ≡ Some m) where
    number : number_of m ≡ message b
    number = spelled_number (message b) (data_of b) m spelled

    -- The number says how many bytes there are.
    fits : (data_count b ≢ length (content_of m)) ↔ (¬ ((n : Message) × Fits n))
    fits = (
      λ differs (n, (e, l)). differs (sym l ∙ one_count n m (e ∙ sym number)),
      λ none same. none (m, (number, sym same)),
    )

    counted : ¬ (data_count b ≢ length (content_of m)) → data_count b ≡ length (content_of m)
    counted n = by_test (eqb (data_count b) (length (content_of m))) (eqb-true (data_count b) (length (content_of m)))
        (λ e. absurd (n (eqb-false (data_count b) (length (content_of m)) e)))

    -- The number and DATA say which message it is.
    module _ (same : data_count b ≡ length (content_of m)) where
      its_data : content_of m ≡ data_of b
      its_data = spelled_data (message b) (data_of b) m spelled (content.length_data b ∙ same)

      said : (in_range m).other ↔ (¬ ((n : Message) × Said n))
      said = (
        λ out (n, (e, (d, fine))).
            let alike : n ≡ m = one_message n m (e ∙ sym number) (d ∙ sym its_data) in
            (in_range m).never_both ((in_range m).is_fact (ap (λ (x : Message). (in_range x).holds) (sym alike) ∙ fine)) out,
        λ none. by_test (in_range m).holds (λ fine. absurd (none (m, (number, (its_data, fine))))) (in_range m).is_other,
      )

    checked : FirstOf (16 when (¬ ((n : Message) × Fits n)) ∷ 15 when (¬ ((n : Message) × Said n)) ∷ [])
        (received_number (checked_by envelope (data_count b) m))
    checked =
        same_number (in_other_words fits λ n. in_other_words (said (counted n)) λ k. at_the_end)
        (first received_number (check_table (data_count b) m) (Ok (envelope, m)) refl)

  abbrev Listed : Type 0
  Listed = (m : Message) × (number_of m ≡ message b)

  spelled_rows : (s : Spelled) → spelling ≡ s → FirstOf (typed_rows b) (received_number (listed envelope (data_count b) s))
  spelled_rows None none =
      let no_such : ¬ Listed = λ (m, e). unlisted (message b) (four_of (data_of b)) none m e in
      applies no_such
  spelled_rows (Some m) spelled =
      passes (λ (none : ¬ Listed). none (m, number m spelled)) (checked m spelled)

  pub read_message : FirstOf (receive_rows b) (received_number (received_of b))
  unfolding received_of reading_of
  read_message =
      first_then (λ (x : Reading). received_number (received_by b x)) (bundle_table b) (Ok (header_of b, data_count b))
      (typed_rows b) (λ facts. spelled_rows spelling refl)

-- ---- written
module _ (buffer : List ℕ) (place : ℕ) (e : Envelope) (m : Message) where
  pub write_message : FirstOf (send_rows (length buffer) place e m) (write_number (written_of (length buffer) place e m))
  unfolding writing_with
  write_message =
      behind (behind λ rows.
      same_number (in_other_words (passed_by (in_range m), (in_range m).is_other) λ k. as_it_is λ l. at_the_end)
      (never_applies named (never_applies few_enough rows)))
      (first write_number
      (frame_table (message_header e m) (content_of m) ++ field_row m ∷ room_table (length buffer) place (content_of m))
      (Ok (place + (11 + length (content_of m)))) refl)
    where
      few_enough : ¬ (20 < length (content_of m))
      few_enough over = omega (arith, at_most_four m)

      named : ¬ (number_of m ≡ 255)
      named is = omega (arith, no_reserved_number m)
