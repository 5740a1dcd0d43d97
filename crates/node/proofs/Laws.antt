-- What the node does with any bundle, whatever its state.
-- Assumes nothing.
use Prim.Native.Nat.{ℕ, ◌≤◌, ◌<◌}
use native.Mathlib.Omega.{arith}
use mathlib.Core.Path.{◌≡◌, refl, ◌∙◌, sym, subst}
use mathlib.Core.Bool.{Bool, true, false}
use mathlib.Core.List.{List, [], ◌∷◌}
use lib.Dec.{lit<}
use lib.ListN.{length-take}
use Rattle.meaning.specs.Cases.{by_test, zero_is_one}
use Rattle.meaning.specs.Choice.{either}
use Rattle.meaning.specs.Membership.{IsOneOf, as_first, as_later, one_of}
use Rattle.refusal.specs.declared.Refusal.{Refusal}
use Rattle.frame.specs.Layout.{message, source, header_of, data_of, data_count}
use Rattle.frame.specs.Reading.{IsFrame}
use Rattle.frame.specs.declared.header.Header.{Header}
use Rattle.frame.proofs.Frames.{frame_is_read}
use Rattle.board.specs.Groups.{Groups, Change, put}
use Rattle.board.specs.Node.{sound}
use Rattle.board.specs.Settings.{in_range}
use Rattle.board.specs.Typed.{Typed, TypedTable}
use Rattle.board.specs.declared.settings.Settings.{Settings}
use Rattle.board.specs.declared.whole.Node.{Node}
use Rattle.board.proofs.Sound.{settings_facts, parts_of}
use Rattle.messages.specs.Outcome.{acts, refuses}
use Rattle.messages.specs.Table.{Get}
use Rattle.messages.specs.declared.code.Code.{Code}
use Rattle.messages.specs.declared.outcome.Outcome.{Outcome}
use Rattle.messages.proofs.Gets.{Idle, a_get_is_idle}
use Rattle.messages.proofs.States.{InTable, Carried, Safe, nothing_done, every_message_is_safe}
use Rattle.messages.proofs.Contents.{all_told, at_most_20_bytes, all_bytes}
use Rattle.node.specs.Meant.{meant, replies, Meant}
use Rattle.node.specs.Turn.{silent, refused_by}
use Rattle.node.specs.Replies.{is_said, message_of, answered, Unchanged, Untouched, Proper}
use Rattle.node.specs.Frames.{turn_of}
use Rattle.node.specs.declared.turn.Turn.{Turn}
use Rattle.node.proofs.Passing.{the_four_conditions, meant_by_the_four}
use Rattle.node.proofs.Turns.{by_row_33, by_reading, carried_out, passed_over}
use Rattle.node.proofs.Bundles.{came_to, every_turn}
use Rattle.node.proofs.Answered.{Introduced, Sayable, silence_is_proper, refusal_is_proper, every_answer_is_proper}
use Rattle.std.specs.Prelude.{Some, None, Err}

-- A frame meant for a sound node is carried out by the message table; any other is met with silence and no change.
module _ (n : Node) (g : Groups) (b : List ℕ) (s : sound n ≡ true) (f : IsFrame b) where
  abbrev request : Header
  request = header_of b

  pub meant_is_carried_out : Meant n.settings g request → turn_of n g b ≡ answered n.settings request (came_to n g b)
  meant_is_carried_out m = by_reading n g b s ∙ carried_out n g b request (data_count b) (frame_is_read b f)
      (meant_by_the_four n.settings g request m)

  not_meant : ¬ Meant n.settings g request → meant n.settings g request ≡ false
  not_meant k = by (meant n.settings g request) (λ e. k (the_four_conditions n.settings g request e))
    where
      by : (t : Bool) → (t ≡ true → ⊥) → t ≡ false
      by true k = absurd (k refl)
      by false k = refl

  pub not_meant_is_silent : ¬ Meant n.settings g request → turn_of n g b ≡ silent n None
  not_meant_is_silent k = by_reading n g b s ∙ passed_over n g b request (data_count b) (frame_is_read b f) (not_meant k)

  -- An accepted SET or CTRL without the ACK bit is silent.
  pub accepted_without_ack_is_silent : Meant n.settings g request → request.ack ≡ false → (after : Node) (change : Change)
      → came_to n g b ≡ acts after change → turn_of n g b ≡ silent after change
  accepted_without_ack_is_silent m a after change o = meant_is_carried_out m ∙ rw (o, a)

  -- Refused by a code: no change.
  pub refused_by_a_code_leaves_all : Meant n.settings g request → (code : Code) → came_to n g b ≡ refuses n code → Unchanged n (turn_of n g b)
  refused_by_a_code_leaves_all m code o =
      rw (meant_is_carried_out m, o)
      (either (Unchanged n) request.ack (λ e. record { node_kept = refl; table_kept = refl })
      (λ e. record { node_kept = refl; table_kept = refl }))

module _ (n : Node) (g : Groups) (b : List ℕ) where
  -- A reply message is never answered, whatever its ACK bit, and changes nothing.
  pub a_reply_message_is_never_answered : IsOneOf (message b) replies → Untouched n (turn_of n g b)
  a_reply_message_is_never_answered i =
      every_turn n g b (Untouched n)
      (λ q. record { unchanged = record { node_kept = refl; table_kept = refl }; not_answered = λ r e. zero_is_one (cc); nothing_said = refl })
      (record { unchanged = record { node_kept = refl; table_kept = refl }; not_answered = λ r e. zero_is_one (cc); nothing_said = refl })
      (λ s f m. absurd ((the_four_conditions n.settings g (header_of b) m).no_reply_lem i))

  -- A 7Fh is not answered with a 7Fh, so that two nodes never chatter.
  pub no_chatter : message b ≡ 0x7F → Untouched n (turn_of n g b)
  no_chatter e = a_reply_message_is_never_answered (subst (λ (m : ℕ). IsOneOf m replies) (sym e) (one_of 0x7F replies refl))

  -- A GET changes nothing.
  unchanged_by : (o : Outcome) → Idle n o → Unchanged n (answered n.settings (header_of b) o)
  unchanged_by o i =
      either (Unchanged n) (is_said o.say (header_of b).ack)
      (λ e. record { node_kept = i.node_kept; table_kept = i.table_kept })
      (λ e. record { node_kept = i.node_kept; table_kept = i.table_kept })

  pub a_get_changes_neither_node_nor_table : Get (message b) → Unchanged n (turn_of n g b)
  a_get_changes_neither_node_nor_table k =
      every_turn n g b (Unchanged n)
      (λ q. record { node_kept = refl; table_kept = refl })
      (record { node_kept = refl; table_kept = refl })
      (λ s f m. unchanged_by (came_to n g b) (a_get_is_idle n g (source b) (data_of b) (message b) k))

  -- A refusal by a number returns the node, keeps the table and gives no reply.
  abbrev Harmless : Turn → Type 0
  Harmless t = (r : Refusal) → t.answer ≡ Err r → t ≡ refused_by n r

  answered_is_not_refused : (h : Header) (o : Outcome) → Harmless (answered n.settings h o)
  answered_is_not_refused h o =
      either Harmless (is_said o.say h.ack) (λ e r k. absurd (zero_is_one (cc))) (λ e r k. absurd (zero_is_one (cc)))

  pub refused_by_a_number_changes_nothing : (r : Refusal) → (turn_of n g b).answer ≡ Err r → turn_of n g b ≡ refused_by n r
  refused_by_a_number_changes_nothing =
      every_turn n g b Harmless
      (λ q r k. cc)
      (λ r k. absurd (zero_is_one (cc)))
      (λ s f m. answered_is_not_refused (header_of b) (came_to n g b))

-- What three bytes spell is an address, and four bits a type.
asker_address : (b : List ℕ) → (source b).0 ≤ 0xFFFFFF
asker_address b = omega arith

asker_type : (b : List ℕ) → (header_of b).sender ≤ 15
asker_type b = omega arith

-- An own address and type that are in range fit a frame.
ranges : (c : Settings) → in_range c ≡ true → (c.id.0 ≤ 0xFFFFFF) × (c.kind ≤ 15)
ranges c e =
    let (id, (from-1, (to_15, behind))) = settings_facts c e in
    (omega (arith, id.1), to_15)

-- Whatever is said is a reply message, which is below FFh.
abbrev pub SaysAReply : Outcome → Type 0
SaysAReply o = IsOneOf (message_of o.say) replies

pub every_message_says_a_reply : (n : Node) (g : Groups) (b : List ℕ) → SaysAReply (came_to n g b)
every_message_says_a_reply n g b =
    all_told SaysAReply n g (source b) (message b) (data_of b)
    (record {
      done = λ after change. one_of 0x7F replies refl;
      refused = λ code. one_of 0x6F replies refl;
      position = one_of 0x0D replies refl;
      status = one_of 0x0F replies refl;
      ip = λ e. one_of 0x35 replies refl;
      lock = one_of 0x36 replies refl;
      address = one_of 0x60 replies refl;
      group = λ e. one_of 0x61 replies refl;
      label = one_of 0x65 replies refl;
      version = one_of 0x75 replies refl;
      serial = one_of 0x6C replies refl;
    })

-- Each of a list is below a bound.
abbrev AllBelow : ℕ → List ℕ → Type 0
AllBelow bound [] = Unit {0}
AllBelow bound (k ∷ l) = (k < bound) × AllBelow bound l

one_below : (bound m : ℕ) (l : List ℕ) → AllBelow bound l → IsOneOf m l → m < bound
one_below bound m [] a x = elim x [ ]
one_below bound m (k ∷ l) a (as_first e) = subst (λ (x : ℕ). x < bound) (sym e) a.0
one_below bound m (k ∷ l) a (as_later i) = one_below bound m l a.1 i

reply_below_ffh : (m : ℕ) → IsOneOf m replies → m < 255
reply_below_ffh m i = one_below 255 m replies (search lit<) i

module _ (n : Node) (g : Groups) (b : List ℕ) (s : sound n ≡ true) where
  -- The board never refuses its own state: what a sound node becomes is sound.
  abbrev Kept : Turn → Type 0
  Kept t = Carried n t.node t.change

  answered_keeps : (o : Outcome) → Safe n o → Kept (answered n.settings (header_of b) o)
  answered_keeps o k = either Kept (is_said o.say (header_of b).ack) (λ e. k) (λ e. k)

  pub every_state_passes_row_33_again : Carried n (turn_of n g b).node (turn_of n g b).change
  every_state_passes_row_33_again =
      every_turn n g b Kept (λ q. nothing_done n s) (nothing_done n s)
      (λ t f m. answered_keeps (came_to n g b) (every_message_is_safe n s g (source b) (message b) (data_of b) (asker_address b)))

  pub introduced : Introduced n.settings (header_of b)
  introduced =
      let r = ranges n.settings (parts_of n s).settings_in_range in
      record { own_address = r.0; own_type = r.1; asker_address = asker_address b; asker_type = asker_type b }

  -- Of numbers that fit their types, what is said fits a frame.
  pub sayable : Typed n → TypedTable g → Sayable (came_to n g b)
  sayable t u =
      let o = came_to n g b in
      record {
        named = reply_below_ffh (message_of o.say) (every_message_says_a_reply n g b);
        few = omega (arith, length-take o.count o.content, at_most_20_bytes n g (source b) (message b) (data_of b));
        bytes = all_bytes n s t g u (source b) (message b) (data_of b);
      }

  -- Every reply is a frame from this node to the asker; in silence or when refused there is none.
  pub every_reply_is_a_frame_to_the_asker : Typed n → TypedTable g → Proper n.settings (header_of b) (turn_of n g b)
  every_reply_is_a_frame_to_the_asker t u =
      every_turn n g b (Proper n.settings (header_of b))
      (λ q. refusal_is_proper n.settings (header_of b) n q)
      (silence_is_proper n.settings (header_of b) n None)
      (λ e f m. every_answer_is_proper n.settings (header_of b) introduced (came_to n g b) (sayable t u))

-- An entry that a turn puts is one of the sixteen; a node that is not sound puts none.
pub an_entry_put_is_one_of_the_sixteen : (n : Node) (g : Groups) (b : List ℕ) (index low middle high : ℕ)
    → (turn_of n g b).change ≡ Some (put index low middle high) → index ≤ 15
an_entry_put_is_one_of_the_sixteen n g b index low middle high e =
    subst InTable e
    (by_test (sound n)
    (λ s. (every_state_passes_row_33_again n g b s).entry_in_table)
    (λ broken. rw (by_row_33 n g b broken) tt))
