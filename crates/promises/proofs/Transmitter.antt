-- The transmitter's messages: each line of the table is in range by its own rules, and the crate's laws in the words of the promises.
-- Assumes nothing.
use Prim.Native.Nat.{ℕ, ◌+◌, ◌%◌, ◌/◌, ◌≤◌}
use native.Mathlib.Omega.{arith}
use mathlib.Core.Path.{◌≡◌, refl, ◌∙◌, sym, ap, ap₂, subst}
use mathlib.Core.Logic.{◌≢◌, ◌↔◌, inl, inr, ⊎_elim}
use mathlib.Core.Bool.{Bool, true, false, false≢true}
use mathlib.Core.List.{List}
use borrow.Author.Tests.{leb-true, le-leb}
use lib.Dec.{leb}
use lib.ListN.{length, take, drop}
use Rattle.meaning.specs.Cases.{by_test}
use Rattle.meaning.specs.Tests.{holds_by}
use Rattle.frame.specs.Writing.{writing_of, buffer_after as frame_written, Writing}
use Rattle.frame.proofs.Buffers.{refused_writes_nothing}
use Rattle.rts.specs.{
  Spelling.{spelled_by},
  Table.{number_of, data_of as content_of, in_range},
  Reading.{received_of, Carries},
  Writing.{written_of, buffer_after},
  declared.{
    envelope.Envelope.{Envelope},
    message.Message.{Message},
    message.Message.TheVariants.{
      CtrlPosition,
      CtrlTilt,
      CtrlDim,
      SetChannelMode,
      SetTiltFramecount,
      SetDimFramecount,
      SetSunAuto,
      SetDctLock,
      SetChannel,
      SetOpenProg,
      SetIp,
      GetChannelMode,
      GetTiltFramecount,
      GetDimFramecount,
      GetDctLock,
      PostChannelMode,
      PostTiltFramecount,
      PostDimFramecount,
      PostDctLock,
    },
  },
}
use Rattle.rts.proofs.Carried.{carried_is_read, read_is_carried}
use Rattle.rts.proofs.Spelling.{spelled_exactly_when, unlisted_exactly_when, one_message}
use Rattle.rts.proofs.Writes.{written_as_a_frame, buffer_as_a_frame, no_byte_for_a_field}
use Rattle.rts.proofs.RoundTrips.{written_is_read, read_is_written}
use Rattle.promises.specs.Wire.{Bytes, raw, sender, receiver, source}
use Rattle.promises.specs.Numbers.{write_number}
use Rattle.promises.specs.Demand2.Frames.{CanBeWritten, FrameAt}
use Rattle.promises.specs.Demand2.Transmitter.{MSG, InRange, Has, Messages, MessageSays, header_of, Transmitter}
use Rattle.promises.proofs.Frames.{to_rules, from_rules, to_writable, frames}
use Rattle.std.specs.Prelude.{Ok, Err, None}

-- ---- the messages
-- In range by the rules that the tests of its row say.
row : {m : Message} {rules : Type 0} → ((in_range m).fact → rules) → (rules → (in_range m).fact) → Has m (content_of m) rules
row {m} says said =
    record {
      its_data = refl;
      in_range_exactly_when = (λ fine. says ((in_range m).is_fact fine), λ rules. holds_by (in_range m) (said rules));
    }

-- Below 63 bits 6 and 7 are 0, and bit 0 is 0 in even numbers.
even : (locked : ℕ) → (in_range (PostDctLock locked)).fact → (locked % 2 ≡ 0) × (locked / 64 ≡ 0)
even locked f =
    let last : locked % 2 ≡ 0 = ⊎_elim (λ e. absurd (false≢true (sym e))) (λ e. e) f.1.1 in
    (last, omega (arith, f.1.0))

messages : Messages
messages =
    record {
      CTRL_POSITION = λ channel order. row (λ f. search arith) (λ r. search (arith, inl));
      CTRL_TILT = λ channel direction value. row (λ f. search arith) (λ r. search (arith, inl));
      CTRL_DIM = λ channel direction value. row (λ f. search arith) (λ r. search (arith, inl));
      SET_CHANNEL_MODE = λ channel ergonomics movement modulis. row (λ f. search arith) (λ r. search (arith, inl));
      SET_TILT_FRAMECOUNT = λ channel us ce. row (λ f. search arith) (λ r. search (arith, inl));
      SET_DIM_FRAMECOUNT = λ channel count. row (λ f. search arith) (λ r. search (arith, inl));
      SET_SUN_AUTO = λ channel off. row (λ f. search arith) (λ r. search (arith, inl));
      SET_DCT_LOCK = λ input lock. row (λ f. search arith) (λ r. search (arith, inl));
      SET_CHANNEL = λ channel. row (λ f. search arith) (λ r. search (arith, inl));
      SET_OPEN_PROG = λ channel. row (λ f. search arith) (λ r. search (arith, inl));
      SET_IP = λ channel. row (λ f. search arith) (λ r. search (arith, inl));
      GET_CHANNEL_MODE = λ channel. row (λ f. search arith) (λ r. search (arith, inl));
      GET_TILT_FRAMECOUNT = λ channel. row (λ f. search arith) (λ r. search (arith, inl));
      GET_DIM_FRAMECOUNT = λ channel. row (λ f. search arith) (λ r. search (arith, inl));
      GET_DCT_LOCK = row (λ f. tt) (λ r. refl);
      POST_CHANNEL_MODE = λ channel ergonomics movement modulis. row (λ f. search arith) (λ r. search (arith, inl));
      POST_TILT_FRAMECOUNT = λ channel us ce. row (λ f. search arith) (λ r. search (arith, inl));
      POST_DIM_FRAMECOUNT = λ channel count. row (λ f. search arith) (λ r. search (arith, inl));
      POST_DCT_LOCK = λ locked. row (even locked) (λ r. search (arith, inl, inr));
    }

no_other : (m : Message) → number_of m ≡ MSG m
no_other (CtrlPosition d) = refl
no_other (CtrlTilt d) = refl
no_other (CtrlDim d) = refl
no_other (SetChannelMode d) = refl
no_other (SetTiltFramecount d) = refl
no_other (SetDimFramecount d) = refl
no_other (SetSunAuto d) = refl
no_other (SetDctLock d) = refl
no_other (SetChannel c) = refl
no_other (SetOpenProg c) = refl
no_other (SetIp c) = refl
no_other (GetChannelMode c) = refl
no_other (GetTiltFramecount c) = refl
no_other (GetDimFramecount c) = refl
no_other GetDctLock = refl
no_other (PostChannelMode d) = refl
no_other (PostTiltFramecount d) = refl
no_other (PostDimFramecount d) = refl
no_other (PostDctLock locked) = refl

unlisted : (number : ℕ) (fields : List ℕ) → (spelled_by number fields ≡ None) ↔ ((m : Message) → MSG m ≢ number)
unlisted number fields =
    let exactly = unlisted_exactly_when number fields in
    (λ none m e. exactly.0 none m (no_other m ∙ e), λ none. exactly.1 (λ m e. none m (sym (no_other m) ∙ e)))

-- ---- what is read
abbrev envelope : Bool → (sender receiver source destination : ℕ) → Envelope
envelope bit sender receiver source destination =
    record {
      ack = bit;
      sender = sender;
      receiver = receiver;
      source = record { 0 = source };
      destination = record { 0 = destination };
    }

-- A bit told by a test is the test.
same_bit : (bit test : Bool) → (bit ≡ true) ↔ (test ≡ true) → bit ≡ test
same_bit true test same = sym (same.0 refl)
same_bit false true same = same.1 refl
same_bit false false same = refl

module _ (b : List ℕ) (e : Envelope) (m : Message) where
  to_says : Carries b e m → MessageSays b e m
  to_says c =
      let own = c.says_its_envelope in
      record {
        it_is_a_frame = to_rules c.is_a_frame;
        its_msg = sym c.says_its_number;
        its_data = sym c.says_its_data;
        in_range_lem = c.in_range_lem;
        its_ack_bit = (
          λ t. leb-true 128 (raw b 1) (sym (ap (λ (x : Envelope). x.ack) own) ∙ t),
          λ h. ap (λ (x : Envelope). x.ack) own ∙ le-leb 128 (raw b 1) h,
        );
        its_type_of_the_sender = ap (λ (x : Envelope). x.sender) own;
        its_type_of_the_receiver = ap (λ (x : Envelope). x.receiver) own;
        its_source = ap (λ (x : Envelope). x.source.0) own;
        its_dest = ap (λ (x : Envelope). x.destination.0) own;
      }

  from_says : MessageSays b e m → Carries b e m
  from_says s =
      let bit = same_bit e.ack (leb 128 (raw b 1))
      (λ t. le-leb 128 (raw b 1) (s.its_ack_bit.0 t), λ t. s.its_ack_bit.1 (leb-true 128 (raw b 1) t)) in
      record {
        is_a_frame = from_rules s.it_is_a_frame;
        says_its_number = sym s.its_msg;
        says_its_data = sym s.its_data;
        in_range_lem = s.in_range_lem;
        says_its_envelope =
            ap₂ (λ (x : Bool) (y : ℕ). envelope x y e.receiver e.source.0 e.destination.0) bit s.its_type_of_the_sender
            ∙ ap₂ (λ (x y : ℕ). envelope (leb 128 (raw b 1)) (sender b) x y e.destination.0) s.its_type_of_the_receiver s.its_source
            ∙ ap (envelope (leb 128 (raw b 1)) (sender b) (receiver b) (source b)) s.its_dest;
      }

  read : (received_of b ≡ Ok (e, m)) ↔ MessageSays b e m
  read = (λ r. to_says (read_is_carried b e m r), λ s. carried_is_read b e m (from_says s))

-- ---- what is written
module _ (buffer : List ℕ) (place : ℕ) (e : Envelope) (m : Message) where
  abbrev size : ℕ
  size = 11 + length (content_of m)

  abbrev after : List ℕ
  after = frame_written buffer place (header_of e m) (content_of m)

  by_the_frame_writer : InRange m
      → (written_of (length buffer) place e m ≡ writing_of (length buffer) place (header_of e m) (content_of m))
      × (buffer_after buffer place e m ≡ after)
  by_the_frame_writer fine = (written_as_a_frame e m (length buffer) place fine, buffer_as_a_frame e m buffer place fine)

  -- What holds of the buffer as it was, and of the one with the frame in it, holds of what stands there at the end.
  at_the_end : (P : List ℕ → Type 0) → P buffer → (CanBeWritten (length buffer) place (header_of e m) (content_of m) → P after)
      → P (buffer_after buffer place e m)
  at_the_end P kept written =
      by_test (in_range m).holds
      (λ fine. subst P (sym (by_the_frame_writer fine).1) (by (writing_of (length buffer) place (header_of e m) (content_of m)) refl))
      (λ out. subst P (sym (no_byte_for_a_field e m buffer place out)) kept)
    where
      by : (a : Writing) → writing_of (length buffer) place (header_of e m) (content_of m) ≡ a → P after
      by (Ok next) is =
          written ((frames.written_exactly_when_in_range buffer place (header_of e m) (content_of m)).1 (ap write_number is))
      by (Err refusal) is =
          subst P (sym (refused_writes_nothing buffer place (header_of e m) (content_of m) refusal is)) kept

  before : take place (buffer_after buffer place e m) ≡ take place buffer
  before =
      at_the_end (λ (l : List ℕ). take place l ≡ take place buffer) refl
      (frames.no_byte_before_the_frame_is_changed buffer place (header_of e m) (content_of m))

  behind : drop (place + size) (buffer_after buffer place e m) ≡ drop (place + size) buffer
  behind =
      at_the_end (λ (l : List ℕ). drop (place + size) l ≡ drop (place + size) buffer) refl
      (frames.no_byte_behind_the_frame_is_changed buffer place (header_of e m) (content_of m))

  module _ (fine : InRange m) (w : CanBeWritten (length buffer) place (header_of e m) (content_of m)) where
    each_byte : FrameAt (buffer_after buffer place e m) place (header_of e m) (content_of m)
    each_byte =
        subst (λ (l : List ℕ). FrameAt l place (header_of e m) (content_of m)) (sym (by_the_frame_writer fine).1)
        (frames.each_byte_is_written_as_header_and_data_say buffer place (header_of e m) (content_of m) w)

    next : written_of (length buffer) place e m ≡ Ok (place + size)
    next =
        (by_the_frame_writer fine).0 ∙ frames.the_answer_is_the_place_after_the_frame buffer place (header_of e m) (content_of m) w

again : (b : List ℕ) → Bytes b → (e : Envelope) (m : Message) → received_of b ≡ Ok (e, m)
    → (buffer : List ℕ) (place : ℕ) → place + length b ≤ length buffer
    → take (length b) (drop place (buffer_after buffer place e m)) ≡ b
again b bytes e m r = read_is_written b e m (read_is_carried b e m r) (λ i within. bytes i)

pub transmitter : Transmitter
transmitter =
    record {
      messages = messages;
      a_msg_and_four_bytes_spell_the_message_whose_data_they_begin_with = spelled_exactly_when;
      there_is_no_other_message = no_other;
      any_other_msg_is_unlisted = unlisted;
      one_message_for_msg_and_data = one_message;
      a_message_is_read_exactly_when_a_frame_says_it = read;
      in_range_it_is_written_by_the_frame_writer = by_the_frame_writer;
      each_byte_is_written_as_envelope_and_message_say = each_byte;
      the_answer_is_the_place_after_the_message = next;
      no_byte_before_the_message_is_changed = before;
      no_byte_behind_the_message_is_changed = behind;
      a_message_written_is_read = λ buffer place e m fine w. written_is_read buffer place e m fine (to_writable w);
      a_message_read_and_written_again_gives_its_own_bytes = again;
    }
