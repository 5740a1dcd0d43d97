-- How a message is answered (document 01, under the message table).
-- Assumes nothing.
use Rattle.std.specs.Prelude.{if◌then◌else◌, ℕ, ◌+◌, ◌-◌, ◌≡◌, ◌≢◌, Bool, true, false, List, length, take, drop, replicate, Ok, Err, Some, None}
use Rattle.refusal.specs.declared.Refusal.{Refusal}
use Rattle.frame.specs.Layout.{header_of, data_of}
use Rattle.frame.specs.Reading.{IsFrame}
use Rattle.frame.specs.Writing.{writing_of, buffer_after, Writing}
use Rattle.frame.specs.declared.header.Header.{Header}
use Rattle.board.specs.declared.settings.Settings.{Settings}
use Rattle.board.specs.declared.whole.Node.{Node}
use Rattle.messages.specs.Outcome.{content_of}
use Rattle.messages.specs.declared.outcome.Outcome.{Outcome}
use Rattle.messages.specs.declared.outcome.Say.{Say}
use Rattle.messages.specs.declared.outcome.Say.TheVariants.{Done, Post, Refuse}
use Rattle.node.specs.Turn.{reply, no_reply, reply_in, silent, replied}
use Rattle.node.specs.declared.turn.Reply.{Reply}
use Rattle.node.specs.declared.turn.Turn.{Turn}

-- A GET is answered by its POST alone, ACK bit or no. All else is answered only with the ACK bit.
abbrev pub is_said : Say → (ack : Bool) → Bool
is_said Done ack = ack
is_said (Post message) ack = true
is_said (Refuse code) ack = ack

-- SET and CTRL are answered 7Fh, a refusal 6Fh.
abbrev pub message_of : Say → ℕ
message_of Done = 0x7F
message_of (Post message) = message
message_of (Refuse code) = 0x6F

-- Own NodeID and type as sender; DEST and receiver type are the request's SOURCE and sender type; ACK 0.
abbrev pub reply_header : Settings → Header → (message : ℕ) → Header
reply_header s h message =
    record {
      message = message;
      ack = false;
      sender = s.kind;
      receiver = h.sender;
      source = s.id;
      destination = h.source;
    }

-- The header of what an outcome says.
abbrev pub say_header : Settings → Header → Outcome → Header
say_header s h o = reply_header s h (message_of o.say)

-- The place after a frame written at the start is its length.
abbrev pub length_of : Writing → ℕ
length_of (Ok place) = place
length_of (Err r) = 0

-- The reply is what the frame writer makes of 31 zeros.
unfoldable pub reply_to : Settings → Header → (message : ℕ) → (content : List ℕ) → Reply
reply_to s h message content =
    reply (length_of (writing_of 31 0 (reply_header s h message) content)) (buffer_after (replicate 31 0) 0 (reply_header s h message) content)

abbrev pub answered : Settings → Header → Outcome → Turn
answered s h o =
    if is_said o.say h.ack
    then replied o.node o.change (reply_to s h (message_of o.say) (content_of o))
    else silent o.node o.change

-- ---- in the paper's words
-- These bytes are a frame with this header and this DATA, and zeros behind it.
pub record IsReplyWith (header : Header) (content : List ℕ) (r : Reply) : Type 0 where
  pub length_told : r.count ≡ 11 + length content
  pub is_a_frame : IsFrame (take r.count r.bytes)
  pub addressed : header_of (take r.count r.bytes) ≡ header
  pub says : data_of (take r.count r.bytes) ≡ content
  pub zeros_behind : drop r.count r.bytes ≡ replicate (31 - r.count) 0

-- A turn's reply, if there is one, is a frame from this node to the asker; if there is none, all is zero.
pub record Proper (s : Settings) (h : Header) (t : Turn) : Type 0 where
  pub a_frame_to_the_asker : (r : Reply) → t.answer ≡ Ok (Some r)
      → (message : ℕ) × (content : List ℕ) × IsReplyWith (reply_header s h message) content r
  pub no_reply_in_silence : t.answer ≡ Ok None → reply_in t ≡ no_reply
  pub no_reply_when_refused : (r : Refusal) → t.answer ≡ Err r → reply_in t ≡ no_reply

-- Neither the node nor the group table is changed.
pub record Unchanged (n : Node) (t : Turn) : Type 0 where
  pub node_kept : t.node ≡ n
  pub table_kept : t.change ≡ None

-- Neither node nor table is changed, and nothing is said.
pub record Untouched (n : Node) (t : Turn) : Type 0 where
  pub unchanged : Unchanged n t
  pub not_answered : (r : Reply) → t.answer ≢ Ok (Some r)
  pub nothing_said : reply_in t ≡ no_reply
