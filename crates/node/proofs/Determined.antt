-- Every public contract of the crate is determined.
-- Assumes nothing.
use mathlib.Core.Path.{◌∙◌, sym}
use Rattle.meaning.specs.Determined.{Once}
use Rattle.node.proofs.frames.on_frame.Kinds as on_frame_kinds
use Rattle.node.proofs.frames.on_frame.Reads as on_frame
use Rattle.node.proofs.turn.Reply.none.Kinds as none_kinds
use Rattle.node.proofs.turn.Reply.none.Reads as none

pub record Determined : Type 0 where
  pub on_frame_once : Once on_frame_kinds.ps on_frame_kinds.r on_frame.Post
  pub none_once : Once none_kinds.ps none_kinds.r none.Post

pub determined : Determined
determined =
    record {
      on_frame_once = λ κs a x y s t p q. p ∙ sym q;
      none_once = λ κs a x y s t p q. p ∙ sym q;
    }
