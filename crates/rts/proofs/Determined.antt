-- Every public contract of the crate is determined, what stands in the lent buffer included.
-- Assumes nothing.
use mathlib.Core.Path.{◌∙◌, sym}
use Rattle.meaning.specs.Determined.{Once, OnceLent}
use Rattle.rts.proofs.envelope.EnvelopeFromHeader.from.Kinds as envelope_kinds
use Rattle.rts.proofs.envelope.EnvelopeFromHeader.from.Reads as envelope
use Rattle.rts.proofs.message.Message.fields.Kinds as fields_kinds
use Rattle.rts.proofs.message.Message.fields.Reads as fields
use Rattle.rts.proofs.message.Message.number.Kinds as number_kinds
use Rattle.rts.proofs.message.Message.number.Reads as number
use Rattle.rts.proofs.message.Message.count.Kinds as count_kinds
use Rattle.rts.proofs.message.Message.count.Reads as count
use Rattle.rts.proofs.message.message_of.Kinds as message_of_kinds
use Rattle.rts.proofs.message.message_of.Reads as message_of_lem
use Rattle.rts.proofs.reading.read.Kinds as read_kinds
use Rattle.rts.proofs.reading.read.Reads as read
use Rattle.rts.proofs.writing.write.Kinds as write_kinds
use Rattle.rts.proofs.writing.write.Reads as write

pub record Determined : Type 0 where
  pub envelope_once : Once envelope_kinds.ps envelope_kinds.r envelope.Post
  pub fields_once : Once fields_kinds.ps fields_kinds.r fields.Post
  pub number_once : Once number_kinds.ps number_kinds.r number.Post
  pub count_once : Once count_kinds.ps count_kinds.r count.Post
  pub message_of_once : Once message_of_kinds.ps message_of_kinds.r message_of_lem.Post
  pub read_once : Once read_kinds.ps read_kinds.r read.Post
  pub write_once : OnceLent write_kinds.ps write_kinds.r write.Post (λ κs s. s.0.now)

pub determined : Determined
determined =
    record {
      envelope_once = λ κs a x y s t p q. p ∙ sym q;
      fields_once = λ κs a x y s t p q. p ∙ sym q;
      number_once = λ κs a x y s t p q. p ∙ sym q;
      count_once = λ κs a x y s t p q. p ∙ sym q;
      message_of_once = λ κs a x y s t p q. p ∙ sym q;
      read_once = λ κs a x y s t p q. p ∙ sym q;
      write_once = λ κs a x y s t p q. (p.0 ∙ sym q.0, p.1 ∙ sym q.1);
    }
