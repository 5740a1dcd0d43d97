-- The frame writer's answer to what the table says of the message; where a field is out of range, its answer without room.
-- Assumes nothing.
use Rattle.std.proofs.Common.{ℕ, ◌≡◌, ◌∙◌, sym, ap, ap₂, true, false, List, [], ◌++◌, length, take}
use Rattle.refusal.specs.declared.Refusal.{Refusal}
use Rattle.frame.specs.Writing.{writing_of, in_place_of_room, buffer_after as buffer_written}
use Rattle.frame.specs.declared.header.Header.{Header}
use Rattle.rts.specs.Envelope.{headed}
use Rattle.rts.specs.Table.{data_of, line_of}
use Rattle.rts.specs.Writing.{header_of, written_of, buffer_after}
use Rattle.rts.specs.declared.envelope.Envelope.{Envelope}
use Rattle.rts.specs.declared.message.Message.{Message}
use Rattle.rts.specs.declared.table.Line.{Line}
use Rattle.rts.proofs.Lines.{at_most_four}
use Rattle.rts.proofs.Spelling.{first_of_four}
use Rattle.rts.proofs.Writes.{
  written_as_a_frame,
  buffer_as_a_frame,
  refused_for_a_field,
  no_byte_for_a_field,
  nothing_stays_nothing,
}
use Rattle.rts.proofs.writing.write.Goals as goal

-- Of a line and a header that are what the table says, the frame writer's answers are the message's.
module _ (m : Message) (e : Envelope) {line : Line} {h : Header} (told : line ≡ line_of m) (made : h ≡ headed e line.number) where
  -- The same of the frame writer, whatever is asked of it.
  for_the_message : {A : Type 0} (f : Header → List ℕ → A) → f h (take line.count line.fields) ≡ f (header_of e m) (data_of m)
  for_the_message f =
      ap₂ f (made ∙ ap (λ (s : Line). headed e s.number) told)
      (ap (λ (s : Line). take s.count s.fields) told ∙ first_of_four (data_of m) (at_most_four m))

  fitting : (line_of m).fitting ≡ line.fitting
  fitting = sym (ap (λ (s : Line). s.fitting) told)

  module _ (buffer : List ℕ) (place : ℕ) where
    module _ (fine : line.fitting ≡ true) where
      written : writing_of (length buffer) place h (take line.count line.fields) ≡ written_of (length buffer) place e m
      written = for_the_message (writing_of (length buffer) place) ∙ sym (written_as_a_frame e m (length buffer) place (fitting ∙ fine))

      laid_out : buffer_written buffer place h (take line.count line.fields) ≡ buffer_after buffer place e m
      laid_out = for_the_message (buffer_written buffer place) ∙ sym (buffer_as_a_frame e m buffer place (fitting ∙ fine))

    module _ (out : line.fitting ≡ false) where
      refused : in_place_of_room Refusal.FieldOutOfRange (writing_of 0 0 h (take line.count line.fields)) ≡ written_of (length buffer) place e m
      refused =
          ap (in_place_of_room Refusal.FieldOutOfRange) (for_the_message (writing_of 0 0))
          ∙ sym (refused_for_a_field e m (length buffer) place (fitting ∙ out))

      unchanged : buffer_written [] 0 h (take line.count line.fields) ++ buffer ≡ buffer_after buffer place e m
      unchanged =
          ap (λ (l : List ℕ). l ++ buffer) (for_the_message (buffer_written [] 0) ∙ nothing_stays_nothing e m)
          ∙ sym (no_byte_for_a_field e m buffer place (fitting ∙ out))

pub returns-then-line-clause-value : goal.returns-then-line-clause-value
returns-then-line-clause-value c =
    let x = c.args in
    c.write.ensures.value
    ∙ written x.message x.envelope c.line-line.ensures c.header-header.ensures x.buffer.now x.place c.if-line.true

pub returns-then-line-clause-buffer_after : goal.returns-then-line-clause-buffer_after
returns-then-line-clause-buffer_after c =
    let x = c.args in
    c.write.ensures.buffer_after
    ∙ laid_out x.message x.envelope c.line-line.ensures c.header-header.ensures x.buffer.now x.place c.if-line.true

pub returns-clause-value : goal.returns-clause-value
returns-clause-value c =
    let x = c.args in
    c.in_place_of_room.ensures ∙ ap (in_place_of_room Refusal.FieldOutOfRange) c.write-2.ensures.value
    ∙ refused x.message x.envelope c.line-line.ensures c.header-header.ensures x.buffer.now x.place c.if-line.false

pub returns-clause-buffer_after : goal.returns-clause-buffer_after
returns-clause-buffer_after c =
    let x = c.args in
    ap (λ (l : List ℕ). l ++ x.buffer.now) c.write-2.ensures.buffer_after
    ∙ unchanged x.message x.envelope c.line-line.ensures c.header-header.ensures x.buffer.now x.place c.if-line.false
