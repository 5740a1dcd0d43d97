-- A typed message written as a frame (document 02, 2026-04): the frame writer's rows, and row 15 before its row 14.
-- Assumes nothing.
use Rattle.std.specs.Prelude.{ℕ, List, length, Err}
use Rattle.meaning.specs.Tests.{opposite}
use Rattle.meaning.specs.Tables.{Row, ◌when◌}
use Rattle.refusal.specs.declared.Refusal.{Refusal}
use Rattle.frame.specs.Writing.{writing_with, frame_of, laid, Writing}
use Rattle.frame.specs.declared.header.Header.{Header}
use Rattle.rts.specs.Envelope.{headed}
use Rattle.rts.specs.Table.{number_of, data_of, in_range}
use Rattle.rts.specs.declared.envelope.Envelope.{Envelope}
use Rattle.rts.specs.declared.message.Message.{Message}

-- The header of a message in this envelope.
abbrev pub header_of : Envelope → Message → Header
header_of e m = headed e (number_of m)

-- Row 15: a field is out of range.
abbrev pub field_row : Message → Row Writing
field_row m = Err Refusal.FieldOutOfRange when opposite (in_range m)

-- The first reason that applies, or the place after the frame.
abbrev pub written_of : (room place : ℕ) → Envelope → Message → Writing
written_of room place e m = writing_with (field_row m) room place (header_of e m) (data_of m)

-- The buffer at the end: the frame's own bytes from the place on, and nothing else changed; a refusal changes no byte.
abbrev pub buffer_after : List ℕ → (place : ℕ) → Envelope → Message → List ℕ
buffer_after buffer place e m =
    laid (written_of (length buffer) place e m) buffer place (frame_of (header_of e m) (data_of m))
