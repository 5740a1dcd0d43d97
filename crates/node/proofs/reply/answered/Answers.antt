-- Said; and the reply as the frame writer leaves it.
-- Assumes nothing.
use Rattle.std.proofs.Common.{◌≡◌, ◌∙◌, List, ℕ, replicate, refl, sym, ap, ap₂}
use Rattle.std.specs.Prelude.{Ok, Err}
use Rattle.std.specs.Result.{result_unwrap_or}
use Rattle.meaning.specs.Chosen.{chosen}
use Rattle.frame.specs.Writing.{Writing, writing_of, buffer_after}
use Rattle.frame.specs.declared.header.Header.{Header}
use Rattle.board.specs.declared.settings.Settings.{Settings}
use Rattle.messages.specs.Outcome.{content_of}
use Rattle.messages.specs.declared.outcome.Outcome.{Outcome}
use Rattle.node.specs.Turn.{reply, silent, replied}
use Rattle.node.specs.Replies.{is_said, message_of, say_header, reply_to, length_of}
use Rattle.node.proofs.reply.answered.Goals as goal

told : (w : Writing) → result_unwrap_or w 0 ≡ length_of w
told (Ok place) = refl
told (Err r) = refl

-- What the writer answered and left in the buffer is the reply.
module _ (s : Settings) (h : Header) (o : Outcome) where
  written : (writing : Writing) (count : ℕ) (bytes : List ℕ) → writing ≡ writing_of 31 0 (say_header s h o) (content_of o)
      → bytes ≡ buffer_after (replicate 31 0) 0 (say_header s h o) (content_of o)
      → count ≡ result_unwrap_or writing 0
      → replied o.node o.change (reply count bytes) ≡ replied o.node o.change (reply_to s h (message_of o.say) (content_of o))
  unfolding reply_to
  written writing count bytes w b e = ap₂ (λ n l. replied o.node o.change (reply n l)) (e ∙ told writing ∙ ap length_of w) b

pub returns : goal.returns
returns c =
    let w = c.write_reply in
    let o = c.args.outcome in
    written c.args.settings c.args.request o w.result c.unwrap_or-count.result w.new.buffer w.ensures.value w.ensures.buffer_after c.unwrap_or-count.ensures
    ∙ sym (chosen (is_said o.say c.args.request.ack) (replied o.node o.change (reply_to c.args.settings c.args.request (message_of o.say) (content_of o)))
    (silent o.node o.change) (sym c.is_said.ensures ∙ c.if-not-is_said.false))
