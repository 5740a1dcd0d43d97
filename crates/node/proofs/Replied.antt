-- A reply is a frame by the frame's own rules, to the asker, and zeros behind it.
-- Assumes nothing.
use Prim.Native.Nat.{ℕ, ◌+◌, ◌-◌, ◌≤◌, ◌<◌}
use native.Mathlib.Omega.{arith}
use mathlib.Core.Path.{◌≡◌, ◌∙◌, sym, ap}
use mathlib.Core.List.{List}
use lib.ListN.{length, take, drop, replicate, length-replicate, replicate-append-replicate}
use lib.Seq.{drop_at}
use Rattle.meaning.specs.Bytes.{Bytes}
use Rattle.frame.specs.Writing.{Writable, frame_of}
use Rattle.frame.specs.declared.header.Header.{Header}
use Rattle.frame.proofs.Buffers.{writable_is_written, stands_there, untouched_behind}
use Rattle.frame.proofs.ReadBack.{written_is_a_frame, header_read_back, data_read_back}
use Rattle.board.specs.declared.settings.Settings.{Settings}
use Rattle.node.specs.Replies.{reply_header, reply_to, length_of, IsReplyWith}

-- What a reply needs to be written: addresses and types that fit, DATA of at most 20 bytes.
pub record Answerable (s : Settings) (h : Header) (message : ℕ) (content : List ℕ) : Type 0 where
  pub own_address : s.id.0 ≤ 0xFFFFFF
  pub own_type : s.kind ≤ 15
  pub asker_address : h.source.0 ≤ 0xFFFFFF
  pub asker_type : h.sender ≤ 15
  pub named : message < 255
  pub few : length content ≤ 20
  pub bytes : Bytes content

abbrev zeros : ℕ → List ℕ
zeros n = replicate n 0

drop_zeros : (k : ℕ) → k ≤ 31 → drop k (zeros 31) ≡ zeros (31 - k)
drop_zeros k h =
    let e : k + (31 - k) ≡ 31 = omega arith in
    ap (λ (n : ℕ). drop k (zeros n)) (sym e)
    ∙ ap (λ (l : List ℕ). drop k l) (sym (replicate-append-replicate k (31 - k) 0))
    ∙ drop_at (zeros k) (zeros (31 - k)) k (length-replicate k 0)

module _ (s : Settings) (h : Header) (message : ℕ) (content : List ℕ) (a : Answerable s h message content) where
  abbrev header : Header
  header = reply_header s h message

  abbrev size : ℕ
  size = 11 + length content

  writable : Writable 31 0 header content
  writable =
      record {
        source_is_an_address = a.own_address;
        destination_is_an_address = a.asker_address;
        sender_is_a_type = a.own_type;
        receiver_is_a_type = a.asker_type;
        to_20_bytes = a.few;
        has_a_message = λ e. omega arith;
        has_room = omega arith;
      }

  counted : (reply_to s h message content).count ≡ size
  unfolding reply_to
  counted = ap length_of (writable_is_written 31 0 header content writable) ∙ omega arith

  stands : take size (reply_to s h message content).bytes ≡ frame_of header content
  unfolding reply_to
  stands = stands_there (zeros 31) 0 header content writable

  behind : drop size (reply_to s h message content).bytes ≡ drop size (zeros 31)
  unfolding reply_to
  behind =
      let e : 0 + size ≡ size = omega arith in
      rw e at (untouched_behind (zeros 31) 0 header content writable)

  whole : take (reply_to s h message content).count (reply_to s h message content).bytes ≡ frame_of header content
  whole = ap (λ (k : ℕ). take k (reply_to s h message content).bytes) counted ∙ stands

  pub a_reply_is_a_frame : IsReplyWith header content (reply_to s h message content)
  a_reply_is_a_frame =
      let m : message < 256 = omega arith in
      record {
        length_told = counted;
        is_a_frame = rw whole (written_is_a_frame header content writable m a.bytes);
        addressed = rw whole (header_read_back header content writable m a.bytes);
        says = rw whole (data_read_back header content writable m a.bytes);
        zeros_behind =
            ap (λ (k : ℕ). drop k (reply_to s h message content).bytes) counted ∙ behind ∙ drop_zeros size (omega arith)
            ∙ ap (λ (k : ℕ). zeros (31 - k)) (sym counted);
      }
