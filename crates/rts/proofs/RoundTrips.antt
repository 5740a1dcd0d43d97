-- Writing and reading undo each other: what is written is read back, and what was read is written as it stood.
-- Assumes nothing.
use Prim.Native.Nat.{ℕ, ◌+◌, ◌≤◌}
use native.Mathlib.Omega.{arith}
use mathlib.Core.Path.{◌≡◌, ◌∙◌, sym, ap, ap₂}
use mathlib.Core.Bool.{true}
use mathlib.Core.List.{List}
use lib.ListN.{length, take, drop}
use Rattle.meaning.specs.Bytes.{Bytes}
use Rattle.frame.specs.Layout as frame
use Rattle.frame.specs.Writing.{Writable, frame_of, buffer_after as buffer_written}
use Rattle.frame.specs.declared.header.Header.{Header}
use Rattle.frame.proofs.Buffers.{stands_there, written_of_read}
use Rattle.frame.proofs.ReadBack.{written_is_a_frame, header_read_back, data_read_back}
use Rattle.rts.specs.Envelope.{envelope_of, headed}
use Rattle.rts.specs.Reading.{received_of, Carries}
use Rattle.rts.specs.Table.{number_of, data_of, in_range}
use Rattle.rts.specs.Writing.{header_of, buffer_after}
use Rattle.rts.specs.declared.envelope.Envelope.{Envelope}
use Rattle.rts.specs.declared.message.Message.{Message}
use Rattle.rts.proofs.Carried.{carried_is_read}
use Rattle.rts.proofs.Lines.{no_reserved_number, bytes_in_range}
use Rattle.rts.proofs.Writes.{buffer_as_a_frame}
use Rattle.std.specs.Prelude.{Ok}

module _ (buffer : List ℕ) (place : ℕ) (e : Envelope) (m : Message) (fine : (in_range m).holds ≡ true) where
  module _ (w : Writable (length buffer) place (header_of e m) (data_of m)) where
    byte : number_of m ≤ 255
    byte = omega (arith, no_reserved_number m)

    frame_carries : Carries (frame_of (header_of e m) (data_of m)) e m
    frame_carries =
        let back = header_read_back (header_of e m) (data_of m) w (omega (arith, byte)) (bytes_in_range m fine) in
        record {
          is_a_frame = written_is_a_frame (header_of e m) (data_of m) w (omega (arith, byte)) (bytes_in_range m fine);
          says_its_number = sym (ap (λ (h : Header). h.message) back);
          says_its_data = sym (data_read_back (header_of e m) (data_of m) w (omega (arith, byte)) (bytes_in_range m fine));
          in_range_lem = fine;
          says_its_envelope = sym (ap envelope_of back);
        }

    pub written_is_read : received_of (take (11 + length (data_of m)) (drop place (buffer_after buffer place e m))) ≡ Ok (e, m)
    written_is_read =
        ap received_of
        (ap (λ (l : List ℕ). take (11 + length (data_of m)) (drop place l)) (buffer_as_a_frame e m buffer place fine)
        ∙ stands_there buffer place (header_of e m) (data_of m) w)
        ∙ carried_is_read (frame_of (header_of e m) (data_of m)) e m frame_carries

-- The header in whose envelope a bundle carries its message is the bundle's.
header_again : (b : List ℕ) (e : Envelope) (m : Message) → Carries b e m → header_of e m ≡ frame.header_of b
header_again b e m c = ap₂ headed c.says_its_envelope c.says_its_number

pub read_is_written : (b : List ℕ) (e : Envelope) (m : Message) → Carries b e m → Bytes b
    → (buffer : List ℕ) (place : ℕ) → place + length b ≤ length buffer
    → take (length b) (drop place (buffer_after buffer place e m)) ≡ b
read_is_written b e m c bytes buffer place room =
    ap (λ (l : List ℕ). take (length b) (drop place l))
    (buffer_as_a_frame e m buffer place c.in_range_lem ∙ ap₂ (buffer_written buffer place) (header_again b e m c) c.says_its_data)
    ∙ written_of_read b c.is_a_frame bytes buffer place room
