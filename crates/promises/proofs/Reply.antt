-- What the node replies is a reply by its bytes; what it leaves unsaid is none.
-- Assumes nothing.
use Prim.Native.Nat.{ℕ, ◌-◌, ◌≤◌, ◌<◌}
use native.Mathlib.Omega.{arith}
use mathlib.Core.Path.{◌≡◌, ◌∙◌, sym, ap}
use mathlib.Core.List.{List}
use lib.ListN.{length, length-take, length-drop, length-replicate}
use borrow.Author.Tests.{leb-false}
use Rattle.meaning.specs.Bytes.{Bytes}
use Rattle.frame.specs.Layout.{header_of}
use Rattle.frame.specs.declared.header.Header.{Header}
use Rattle.frame.proofs.Content.{length_data}
use Rattle.frame.proofs.Frames.{frame_exactly_when}
use Rattle.board.specs.declared.whole.Node.{Node}
use Rattle.node.specs.Replies.{reply_header, reply_to, IsReplyWith}
use Rattle.node.specs.Replies as node
use Rattle.node.specs.declared.turn.Reply.{Reply}
use Rattle.node.specs.declared.turn.Turn.{Turn}
use Rattle.node.proofs.Replied.{Answerable, a_reply_is_a_frame}
use Rattle.promises.specs.Wire.{raw}
use Rattle.promises.specs.BoardInRange.{BoardInRange}
use Rattle.promises.specs.Reply.{sent, IsReply, Proper, Untouched, reply_in}

module _ (n : Node) (b : List ℕ) where
  -- A header and DATA that are read from the bytes, told by the bytes.
  module _ (message : ℕ) (content : List ℕ) (r : Reply) (is : IsReplyWith (reply_header n.settings (header_of b) message) content r) where
    keeps_31_bytes : length r.bytes ≡ 31
    keeps_31_bytes =
        let told = is.length_told in
        let frame = is.is_a_frame.from_11_bytes in
        let few = is.is_a_frame.to_31_bytes in
        let said = sym (length_data (sent r)) ∙ ap length is.says in
        let rest = sym (length-drop r.count r.bytes) ∙ ap length is.zeros_behind ∙ length-replicate (31 - r.count) 0 in
        omega (arith, told, frame, few, said, rest, length-take r.count r.bytes)

    by_its_bytes : IsReply n b message content r
    by_its_bytes =
        record {
          length_told = is.length_told;
          is_a_frame = (frame_exactly_when (sent r)).0 is.is_a_frame;
          says_its_message = ap (λ (h : Header). h.message) is.addressed;
          without_the_ack_bit = leb-false 128 (raw (sent r) 1) (ap (λ (h : Header). h.ack) is.addressed);
          from_the_nodes_type = ap (λ (h : Header). h.sender) is.addressed;
          to_the_askers_type = ap (λ (h : Header). h.receiver) is.addressed;
          from_the_node = ap (λ (h : Header). h.source.0) is.addressed;
          to_the_asker = ap (λ (h : Header). h.destination.0) is.addressed;
          its_data = is.says;
          thirty_one_bytes = keeps_31_bytes;
          zeros_behind = is.zeros_behind;
        }

  module _ (message : ℕ) (content : List ℕ) (s : BoardInRange n) (named : message < 255) (few : length content ≤ 20) (bytes : Bytes content) where
    answerable : Answerable n.settings (header_of b) message content
    answerable =
        record {
          own_address = omega (arith, s.settings_in_range.node_id_to_fffeffh);
          own_type = s.settings_in_range.type_to_15;
          asker_address = omega arith;
          asker_type = omega arith;
          named = named;
          few = few;
          bytes = bytes;
        }

    pub a_reply_by_its_bytes : IsReply n b message content (reply_to n.settings (header_of b) message content)
    a_reply_by_its_bytes =
        by_its_bytes message content (reply_to n.settings (header_of b) message content)
        (a_reply_is_a_frame n.settings (header_of b) message content answerable)

  -- The same of some MSG and DATA.
  some_reply : (r : Reply) → (message : ℕ) × (content : List ℕ) × IsReplyWith (reply_header n.settings (header_of b) message) content r
      → (message : ℕ) × (content : List ℕ) × IsReply n b message content r
  some_reply r (message, content, is) = (message, content, by_its_bytes message content r is)

  pub proper_by_its_bytes : (t : Turn) → node.Proper n.settings (header_of b) t → Proper n b t
  proper_by_its_bytes t p =
      record {
        a_frame_to_the_asker = λ e. some_reply (reply_in t) (p.a_frame_to_the_asker (reply_in t) e);
        no_reply_in_silence = p.no_reply_in_silence;
        no_reply_when_refused = p.no_reply_when_refused;
      }

pub untouched : (n : Node) (t : Turn) → node.Untouched n t → Untouched n t
untouched n t u =
    record {
      node_kept = u.unchanged.node_kept;
      table_kept = u.unchanged.table_kept;
      not_answered = u.not_answered (reply_in t);
      nothing_said = u.nothing_said;
    }
