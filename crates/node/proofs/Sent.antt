-- Whatever the node sends is a reply message, so that no node that hears it answers it.
-- Assumes nothing.
use Prim.Native.Nat.{ℕ}
use mathlib.Core.Path.{◌≡◌, ap, sym, subst}
use mathlib.Core.Bool.{true}
use mathlib.Core.List.{List}
use lib.ListN.{take}
use Rattle.meaning.specs.Cases.{zero_is_one}
use Rattle.meaning.specs.Choice.{either}
use Rattle.meaning.specs.Membership.{IsOneOf}
use Rattle.frame.specs.Layout.{message, header_of}
use Rattle.frame.specs.declared.header.Header.{Header}
use Rattle.board.specs.Groups.{Groups}
use Rattle.board.specs.Node.{sound}
use Rattle.board.specs.Typed.{Typed, TypedTable}
use Rattle.board.specs.declared.whole.Node.{Node}
use Rattle.messages.specs.Outcome.{content_of}
use Rattle.node.specs.Meant.{replies}
use Rattle.node.specs.Replies.{is_said, message_of, reply_to, answered}
use Rattle.node.specs.Frames.{turn_of}
use Rattle.node.specs.declared.turn.Reply.{Reply}
use Rattle.node.specs.declared.turn.Turn.{Turn}
use Rattle.node.proofs.Replied.{a_reply_is_a_frame}
use Rattle.node.proofs.Answered.{answerable}
use Rattle.node.proofs.Bundles.{came_to, every_turn}
use Rattle.node.proofs.Laws.{introduced, sayable, every_message_says_a_reply}
use Rattle.std.specs.Prelude.{Ok, Some}

-- MSG of a reply is its first byte.
abbrev pub SendsAReply : Turn → Type 0
SendsAReply t = (r : Reply) → t.answer ≡ Ok (Some r) → IsOneOf (message (take r.count r.bytes)) replies

module _ (n : Node) (g : Groups) (b : List ℕ) (s : sound n ≡ true) (t : Typed n) (u : TypedTable g) where
  answered_sends : SendsAReply (answered n.settings (header_of b) (came_to n g b))
  answered_sends =
      let o = came_to n g b in
      let a = answerable n.settings (header_of b) (introduced n g b s) o (sayable n g b s t u) in
      let read = (a_reply_is_a_frame n.settings (header_of b) (message_of o.say) (content_of o) a).addressed in
      either SendsAReply (is_said o.say (header_of b).ack)
      (λ e r k.
      let it : reply_to n.settings (header_of b) (message_of o.say) (content_of o) ≡ r = cc in
      subst (λ (x : Reply). IsOneOf (message (take x.count x.bytes)) replies) it
      (subst (λ (m : ℕ). IsOneOf m replies) (sym (ap (λ (x : Header). x.message) read)) (every_message_says_a_reply n g b)))
      (λ e r k. absurd (zero_is_one (cc)))

  pub every_message_sent_is_a_reply : SendsAReply (turn_of n g b)
  every_message_sent_is_a_reply =
      every_turn n g b SendsAReply (λ q r k. absurd (zero_is_one (cc))) (λ r k. absurd (zero_is_one (cc))) (λ e f m. answered_sends)
