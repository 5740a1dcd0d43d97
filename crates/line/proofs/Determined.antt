-- Every public contract of the crate is determined.
-- Assumes nothing.
use mathlib.Core.Path.{◌∙◌, sym}
use Rattle.meaning.specs.Determined.{Once}
use Rattle.line.proofs.reader.Reader.fresh.Kinds as fresh_kinds
use Rattle.line.proofs.reader.Reader.fresh.Reads as fresh
use Rattle.line.proofs.reader.Reader.step.Kinds as step_kinds
use Rattle.line.proofs.reader.Reader.step.Reads as step
use Rattle.line.proofs.reader.Reader.close.Kinds as close_kinds
use Rattle.line.proofs.reader.Reader.close.Reads as close
use Rattle.line.proofs.reader.Reader.run.Kinds as run_kinds
use Rattle.line.proofs.reader.Reader.run.Reads as run

pub record Determined : Type 0 where
  pub fresh_once : Once fresh_kinds.ps fresh_kinds.r fresh.Post
  pub step_once : Once step_kinds.ps step_kinds.r step.Post
  pub close_once : Once close_kinds.ps close_kinds.r close.Post
  pub run_once : Once run_kinds.ps run_kinds.r run.Post

pub determined : Determined
determined =
    record {
      fresh_once = λ κs a x y s t p q. p ∙ sym q;
      step_once = λ κs a x y s t p q. p ∙ sym q;
      close_once = λ κs a x y s t p q. p ∙ sym q;
      run_once = λ κs a x y s t p q. p ∙ sym q;
    }
