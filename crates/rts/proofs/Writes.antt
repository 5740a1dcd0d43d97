-- Of a message in range the typed writer is the frame writer; of another it refuses and changes no byte.
-- Assumes nothing.
use Prim.Native.Nat.{ℕ}
use native.Mathlib.Omega.{arith}
use mathlib.Core.Path.{◌≡◌, refl, ◌∙◌, ap}
use mathlib.Core.Bool.{true, false}
use mathlib.Core.List.{List, []}
use lib.ListN.{length}
use Rattle.meaning.specs.Tests.{opposite}
use Rattle.refusal.specs.declared.Refusal.{Refusal}
use Rattle.frame.specs.Writing.{writing_of, frame_of, laid, in_place_of_room, buffer_after as buffer_written, Writing}
use Rattle.frame.specs.declared.header.Header.{Header}
use Rattle.frame.proofs.Buffers.{not_written_otherwise, refused_writes_nothing}
use Rattle.frame.proofs.OneRowMore.{as_the_writer, behind_its_rows}
use Rattle.rts.specs.Table.{data_of, in_range}
use Rattle.rts.specs.Writing.{header_of, written_of, buffer_after}
use Rattle.rts.specs.declared.envelope.Envelope.{Envelope}
use Rattle.rts.specs.declared.message.Message.{Message}
use Rattle.std.specs.Prelude.{Ok, Err}

module _ (e : Envelope) (m : Message) where
  abbrev h : Header
  h = header_of e m

  pub written_as_a_frame : (room place : ℕ) → (in_range m).holds ≡ true → written_of room place e m ≡ writing_of room place h (data_of m)
  written_as_a_frame room place fine =
      as_the_writer room place h (data_of m) (opposite (in_range m)) Refusal.FieldOutOfRange ((in_range m).is_fact fine)

  pub buffer_as_a_frame : (buffer : List ℕ) (place : ℕ) → (in_range m).holds ≡ true
      → buffer_after buffer place e m ≡ buffer_written buffer place h (data_of m)
  buffer_as_a_frame buffer place fine =
      ap (λ (a : Writing). laid a buffer place (frame_of h (data_of m))) (written_as_a_frame (length buffer) place fine)

  pub refused_for_a_field : (room place : ℕ) → (in_range m).holds ≡ false
      → written_of room place e m ≡ in_place_of_room Refusal.FieldOutOfRange (writing_of 0 0 h (data_of m))
  refused_for_a_field room place out =
      behind_its_rows room place h (data_of m) (opposite (in_range m)) Refusal.FieldOutOfRange ((in_range m).is_other out)

  -- A refusal in the place of another is a refusal.
  keeps : (a : Writing) (buffer : List ℕ) (place : ℕ)
      → laid (in_place_of_room Refusal.FieldOutOfRange a) buffer place (frame_of h (data_of m)) ≡ buffer
  keeps (Ok next) buffer place = refl
  keeps (Err refusal) buffer place = refl

  pub no_byte_for_a_field : (buffer : List ℕ) (place : ℕ) → (in_range m).holds ≡ false → buffer_after buffer place e m ≡ buffer
  no_byte_for_a_field buffer place out =
      ap (λ (a : Writing). laid a buffer place (frame_of h (data_of m))) (refused_for_a_field (length buffer) place out)
      ∙ keeps (writing_of 0 0 h (data_of m)) buffer place

  -- Lent no room, the frame writer leaves none.
  pub nothing_stays_nothing : buffer_written [] 0 h (data_of m) ≡ []
  nothing_stays_nothing =
      let (q, refused, _, _) = not_written_otherwise 0 0 h (data_of m) (λ w. omega (arith, w.has_room)) in
      refused_writes_nothing [] 0 h (data_of m) q refused
