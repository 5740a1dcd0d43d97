-- What a frame says beside its message: the header without MSG (document 02, 2026-04).
-- Assumes nothing.
use Rattle.std.specs.Prelude.{ℕ}
use Rattle.frame.specs.declared.header.Header.{Header}
use Rattle.rts.specs.declared.envelope.Envelope.{Envelope}

abbrev pub envelope_of : Header → Envelope
envelope_of h =
    record {
      ack = h.ack;
      sender = h.sender;
      receiver = h.receiver;
      source = h.source;
      destination = h.destination;
    }

-- The header of a message of this number.
abbrev pub headed : Envelope → (number : ℕ) → Header
headed e number =
    record {
      message = number;
      ack = e.ack;
      sender = e.sender;
      receiver = e.receiver;
      source = e.source;
      destination = e.destination;
    }
