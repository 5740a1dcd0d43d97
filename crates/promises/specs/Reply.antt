-- A reply by its bytes (document 01, under the message table): a frame of the node to the asker, then zeros.
-- Assumes nothing.
use Rattle.std.specs.Prelude.{ℕ, ◌+◌, ◌-◌, ◌<◌, ◌≡◌, List, length, take, drop, replicate, Some, None, Ok, Err}
use Rattle.refusal.specs.declared.Refusal.{Refusal}
use Rattle.frame.specs.Reading.{reading_of}
use Rattle.board.specs.declared.whole.Node.{Node}
use Rattle.node.specs.Turn.{Answer}
use Rattle.node.specs.declared.turn.{Reply.{Reply}, Turn.{Turn}}
use Rattle.promises.specs.Numbers.{read_number}
use Rattle.promises.specs.Wire.{raw, message, sender, receiver, source, destination, data_of}

-- The bytes that go out.
abbrev pub sent : Reply → List ℕ
sent r = take r.count r.bytes

-- The reply of a node to a bundle, with this MSG and this DATA.
pub record IsReply (n : Node) (b : List ℕ) (msg : ℕ) (content : List ℕ) (r : Reply) : Type 0 where
  pub length_told : r.count ≡ 11 + length content
  pub is_a_frame : read_number (reading_of (sent r)) ≡ 0
  pub says_its_message : message (sent r) ≡ msg
  pub without_the_ack_bit : raw (sent r) 1 < 128
  pub from_the_nodes_type : sender (sent r) ≡ n.settings.kind
  pub to_the_askers_type : receiver (sent r) ≡ sender b
  pub from_the_node : source (sent r) ≡ n.settings.id.0
  pub to_the_asker : destination (sent r) ≡ source b
  pub its_data : data_of (sent r) ≡ content
  pub thirty_one_bytes : length r.bytes ≡ 31
  pub zeros_behind : drop r.count r.bytes ≡ replicate (31 - r.count) 0

-- Nothing is said: no byte, and 31 zeros.
abbrev pub no_reply : Reply
no_reply = record { count = 0; bytes = replicate 31 0 }

-- The reply that an answer has, no byte where it has none.
abbrev pub reply_of : Answer → Reply
reply_of (Ok None) = no_reply
reply_of (Ok (Some r)) = r
reply_of (Err refusal) = no_reply

abbrev pub reply_in : Turn → Reply
reply_in t = reply_of t.answer

-- The node replies.
abbrev pub Replied : Turn → Type 0
Replied t = t.answer ≡ Ok (Some (reply_in t))

-- Silence and no change.
abbrev pub ignored : Node → Turn
ignored n = record { node = n; change = None; answer = Ok None }

-- What a node makes of a bundle has a reply to it where it says so, and else none.
pub record Proper (n : Node) (b : List ℕ) (t : Turn) : Type 0 where
  pub a_frame_to_the_asker : Replied t → (msg : ℕ) × (content : List ℕ) × IsReply n b msg content (reply_in t)
  pub no_reply_in_silence : t.answer ≡ Ok None → reply_in t ≡ no_reply
  pub no_reply_when_refused : (r : Refusal) → t.answer ≡ Err r → reply_in t ≡ no_reply

-- Neither node nor table is changed, and nothing is said.
pub record Untouched (n : Node) (t : Turn) : Type 0 where
  pub node_kept : t.node ≡ n
  pub table_kept : t.change ≡ None
  pub not_answered : ¬ Replied t
  pub nothing_said : reply_in t ≡ no_reply
