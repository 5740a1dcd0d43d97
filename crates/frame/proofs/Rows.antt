-- The code's answers are the tables': a row's, from the facts of the rows that are passed over and its own, or the rest.
-- Assumes nothing.
use Prim.Native.Nat.{ℕ, ◌+◌}
use mathlib.Core.Path.{◌≡◌, sym, ap}
use mathlib.Core.List.{List}
use lib.ListN.{length}
use Rattle.meaning.specs.Tables.{Applies, answer_at, decided}
use Rattle.frame.specs.Layout.{header_of, data_count}
use Rattle.frame.specs.Reading.{bundle_table, reading_of}
use Rattle.frame.specs.Writing.{frame_of, writer_table, writing_of, laid, buffer_after, Writing}
use Rattle.frame.specs.declared.header.Header.{Header}
use Rattle.std.specs.Prelude.{Ok}

-- The reader's.
pub read_by : (b : List ℕ) (passed : ℕ) → Applies passed (bundle_table b)
    → answer_at passed (bundle_table b) (Ok (header_of b, data_count b)) ≡ reading_of b
unfolding reading_of
read_by b passed facts = sym (decided passed (bundle_table b) (Ok (header_of b, data_count b)) facts)

module _ (buffer : List ℕ) (place : ℕ) (h : Header) (d : List ℕ) where
  -- The writer's answer decides what stands in the buffer.
  abbrev Told : Writing → Type 0
  Told a = (a ≡ writing_of (length buffer) place h d) × (laid a buffer place (frame_of h d) ≡ buffer_after buffer place h d)

  pub told : (a : Writing) → writing_of (length buffer) place h d ≡ a → Told a
  told a e = (sym e, ap (λ (x : Writing). laid x buffer place (frame_of h d)) (sym e))

  pub written_by : (passed : ℕ) → Applies passed (writer_table (length buffer) place h d)
      → Told (answer_at passed (writer_table (length buffer) place h d) (Ok (place + (11 + length d))))
  unfolding writing_of
  written_by passed facts =
      told (answer_at passed (writer_table (length buffer) place h d) (Ok (place + (11 + length d))))
      (decided passed (writer_table (length buffer) place h d) (Ok (place + (11 + length d))) facts)
