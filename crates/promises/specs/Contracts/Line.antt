-- The contracts of `line`: the reader fresh, at one byte, at the end of the recording, over a run of bytes.
-- Assumes nothing.
use Rattle.std.specs.Prelude.{◌≡◌, [], ◌∷◌, drop}
use mir.Syntax.{ty_int, ty_ref, named, imm, w8, w16, w64}
use denote.Slice.{slice_ty}
use Rattle.line.specs.Reader.{fresh, step_of, close_of, ran_of}
use Rattle.line.proofs.reader.Reader as Reader
use Rattle.promises.specs.Contracts.Says.{types_of, Says}

pub record LineContracts : Type 0 where
  pub fresh_is :
      Says Reader.fresh.Kinds.ps Reader.fresh.Kinds.r Reader.fresh.Reads.Pre Reader.fresh.Reads.Post (λ κs _. fresh)
  pub step_is :
      Says Reader.step.Kinds.ps Reader.step.Kinds.r Reader.step.Reads.Pre Reader.step.Reads.Post
      (λ κs (reader, (byte, (silence, _))). step_of reader byte silence)
  pub close_is :
      Says Reader.close.Kinds.ps Reader.close.Kinds.r Reader.close.Reads.Pre Reader.close.Reads.Post
      (λ κs (reader, _). close_of reader)
  pub run_is :
      Says Reader.run.Kinds.ps Reader.run.Kinds.r Reader.run.Reads.Pre Reader.run.Reads.Post
      (λ κs (reader, (bytes, (silences, (place, _)))). ran_of reader bytes.now silences.now place)
  -- Behind the reader: a byte and a silence of 16 bits; bytes and silences of 16 bits, both lent to be read, and a place.
  pub step_takes_a_silence_of_16_bits : drop 1 (types_of Reader.step.Kinds.ps) ≡ ty_int w8 ∷ ty_int w16 ∷ []
  pub run_takes_silences_of_16_bits :
      drop 1 (types_of Reader.run.Kinds.ps)
      ≡ slice_ty (ty_ref (named 0) imm (ty_int w8)) ∷ slice_ty (ty_ref (named 1) imm (ty_int w16)) ∷ ty_int w64 ∷ []
