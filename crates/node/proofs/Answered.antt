-- Whatever is answered is a frame to the asker; whatever is not answered has no reply.
-- Assumes nothing.
use Prim.Native.Nat.{ℕ, ◌≤◌, ◌<◌}
use mathlib.Core.Path.{◌≡◌, refl, subst}
use mathlib.Core.List.{List}
use lib.ListN.{length}
use Rattle.meaning.specs.Bytes.{Bytes}
use Rattle.meaning.specs.Cases.{zero_is_one}
use Rattle.meaning.specs.Choice.{either}
use Rattle.refusal.specs.declared.Refusal.{Refusal}
use Rattle.frame.specs.declared.header.Header.{Header}
use Rattle.board.specs.declared.settings.Settings.{Settings}
use Rattle.board.specs.declared.whole.Node.{Node}
use Rattle.messages.specs.Outcome.{content_of}
use Rattle.messages.specs.declared.outcome.Outcome.{Outcome}
use Rattle.node.specs.Turn.{silent, replied, refused_by}
use Rattle.node.specs.Replies.{is_said, message_of, reply_header, reply_to, answered, IsReplyWith, Proper}
use Rattle.node.proofs.Replied.{Answerable, a_reply_is_a_frame}
use Rattle.board.specs.Groups.{Change}

module _ (s : Settings) (h : Header) where
  pub silence_is_proper : (n : Node) (change : Change) → Proper s h (silent n change)
  silence_is_proper n change =
      record {
        a_frame_to_the_asker = λ r e. absurd (zero_is_one (cc));
        no_reply_in_silence = λ e. refl;
        no_reply_when_refused = λ q e. refl;
      }

  pub refusal_is_proper : (n : Node) (r : Refusal) → Proper s h (refused_by n r)
  refusal_is_proper n r =
      record {
        a_frame_to_the_asker = λ r e. absurd (zero_is_one (cc));
        no_reply_in_silence = λ e. refl;
        no_reply_when_refused = λ q e. refl;
      }

  reply_is_proper : (n : Node) (change : Change) (message : ℕ) (content : List ℕ) → Answerable s h message content
      → Proper s h (replied n change (reply_to s h message content))
  reply_is_proper n change message content a =
      record {
        a_frame_to_the_asker = λ r e.
            let it : reply_to s h message content ≡ r = cc in
            (message, content, subst (IsReplyWith (reply_header s h message) content) it (a_reply_is_a_frame s h message content a));
        no_reply_in_silence = λ e. absurd (zero_is_one (cc));
        no_reply_when_refused = λ r e. absurd (zero_is_one (cc));
      }

-- Own and asker's address and type fit a frame.
pub record Introduced (s : Settings) (h : Header) : Type 0 where
  pub own_address : s.id.0 ≤ 0xFFFFFF
  pub own_type : s.kind ≤ 15
  pub asker_address : h.source.0 ≤ 0xFFFFFF
  pub asker_type : h.sender ≤ 15

-- What an outcome says fits a frame.
pub record Sayable (o : Outcome) : Type 0 where
  pub named : message_of o.say < 255
  pub few : length (content_of o) ≤ 20
  pub bytes : Bytes (content_of o)

module _ (s : Settings) (h : Header) (i : Introduced s h) (o : Outcome) (f : Sayable o) where
  pub answerable : Answerable s h (message_of o.say) (content_of o)
  answerable =
      record {
        own_address = i.own_address;
        own_type = i.own_type;
        asker_address = i.asker_address;
        asker_type = i.asker_type;
        named = f.named;
        few = f.few;
        bytes = f.bytes;
      }

  pub every_answer_is_proper : Proper s h (answered s h o)
  every_answer_is_proper =
      either (Proper s h) (is_said o.say h.ack)
      (λ e. reply_is_proper s h o.node o.change (message_of o.say) (content_of o) answerable)
      (λ e. silence_is_proper s h o.node o.change)
