-- The contracts of `node`: a bundle that reaches it, and no reply.
-- Assumes nothing.
use Rattle.std.specs.Prelude.{replicate}
use Rattle.node.specs.Frames.{turn_of}
use Rattle.node.proofs as node
use Rattle.node.proofs.turn.Reply as Reply
use Rattle.promises.specs.Contracts.Says.{Says}

pub record NodeContracts : Type 0 where
  pub on_frame_is :
      Says node.on_frame.Kinds.ps node.on_frame.Kinds.r node.on_frame.Reads.Pre node.on_frame.Reads.Post
      (λ κs (node, (groups, (bundle, _))). turn_of node groups bundle.now)
  pub reply_none_is :
      Says Reply.none.Kinds.ps Reply.none.Kinds.r Reply.none.Reads.Pre Reply.none.Reads.Post
      (λ κs _. record { count = 0; bytes = replicate 31 0 })
