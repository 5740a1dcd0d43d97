-- The contracts of `rts`: a message's MSG and DATA, the message that they spell, a bundle read and a message written.
-- Assumes nothing.
use Rattle.std.specs.Prelude.{◌≡◌, [], ◌∷◌, length, take}
use mir.Syntax.{imm, mut, named, ty_int, ty_ref, ty_array, w8, w64}
use denote.Slice.{slice_ty}
use Rattle.rts.specs.{Spelling.{spelled_by}, Table.{number_of, data_of}, Reading.{received_of}, Writing.{written_of, buffer_after}}
use Rattle.rts.proofs as rts
use Rattle.rts.proofs.message.Message as Message
use Rattle.promises.specs.Contracts.Says.{types_of, Says, SaysLent}
use Rattle.promises.specs.Wire.{byte_at}

pub record RtsContracts : Type 0 where
  pub message_number_is :
      Says Message.number.Kinds.ps Message.number.Kinds.r Message.number.Reads.Pre Message.number.Reads.Post
      (λ κs (message, _). number_of message)
  pub message_count_is :
      Says Message.count.Kinds.ps Message.count.Kinds.r Message.count.Reads.Pre Message.count.Reads.Post
      (λ κs (message, _). length (data_of message))
  -- Behind DATA stand zeros, to the fourth byte.
  pub message_fields_is :
      Says Message.fields.Kinds.ps Message.fields.Kinds.r Message.fields.Reads.Pre Message.fields.Reads.Post
      (λ κs (message, _).
      byte_at (data_of message) 0 ∷ byte_at (data_of message) 1 ∷ byte_at (data_of message) 2 ∷ byte_at (data_of message) 3 ∷ [])
  pub message_of_is :
      Says rts.message_of.Kinds.ps rts.message_of.Kinds.r rts.message_of.Reads.Pre rts.message_of.Reads.Post
      (λ κs (number, (fields, _)). spelled_by number fields)
  pub a_message_is_of_a_byte_and_four_bytes : types_of rts.message_of.Kinds.ps ≡ ty_int w8 ∷ ty_array (ty_int w8) 4 ∷ []
  pub message_read_is :
      Says rts.read.Kinds.ps rts.read.Kinds.r rts.read.Reads.Pre rts.read.Reads.Post
      (λ κs (bundle, _). received_of bundle.now)
  pub a_bundle_is_bytes_lent_to_be_read : types_of rts.read.Kinds.ps ≡ slice_ty (ty_ref (named 0) imm (ty_int w8)) ∷ []
  pub message_write_is :
      SaysLent rts.write.Kinds.ps rts.write.Kinds.r rts.write.Reads.Pre rts.write.Reads.Post
      (λ κs (buffer, (place, (envelope, (message, _)))). written_of (length buffer.now) place envelope message)
      (λ κs (buffer, _). buffer.now)
      (λ κs (buffer, (place, (envelope, (message, _)))). buffer_after buffer.now place envelope message)
  -- The buffer and the place; behind them stand the envelope and the message.
  pub a_message_is_written_into_bytes_at_a_place_of_64_bits :
      take 2 (types_of rts.write.Kinds.ps) ≡ slice_ty (ty_ref (named 0) mut (ty_int w8)) ∷ ty_int w64 ∷ []
