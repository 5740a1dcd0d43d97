-- A board that was set up is in range, and its numbers fit their types, whatever has reached it since; so all that it sends is a reply.
-- Assumes nothing.
use Prim.Native.Nat.{ℕ}
use mathlib.Core.Path.{sym, ap, subst}
use mathlib.Core.List.{List}
use Rattle.board.specs.declared.events.After.{After}
use Rattle.board.specs.declared.settings.Settings.{Settings}
use Rattle.board.specs.declared.whole.Node.{Node}
use Rattle.node.specs.Frames.{turn_of}
use Rattle.node.proofs.Laws as laws
use Rattle.node.proofs.Laws.{every_state_passes_row_33_again}
use Rattle.node.proofs.Sent.{SendsAReply, every_message_sent_is_a_reply}
use Rattle.promises.specs.BoardInRange.{SettingsInRange, BoardInRange}
use Rattle.promises.specs.Groups.{Groups}
use Rattle.promises.specs.Typed.{SettingsTyped, Typed, TypedTable}
use Rattle.promises.specs.Reply.{Proper, reply_in}
use Rattle.promises.specs.Demand2.Board.{Became, set_up_lem, having_heard, at_a_pulse, blocked, cleared, powered_up_lem, SinceSetUp}
use Rattle.promises.proofs.BoardInRange.{in_range_lem, is_sound_lem}
use Rattle.promises.proofs.Typed.{for_its_laws}
use Rattle.promises.proofs.Reply.{proper_by_its_bytes}
use Rattle.promises.proofs.Events.{events}
use Rattle.promises.proofs.Fitting.{fitting}

module _ (n : Node) (g : Groups) (b : List ℕ) (s : BoardInRange n) where
  pub turned_in_range : BoardInRange (turn_of n g b).node
  turned_in_range = in_range_lem (turn_of n g b).node (every_state_passes_row_33_again n g b (is_sound_lem n s)).still_sound

  pub sends_a_reply : Typed n → TypedTable g → SendsAReply (turn_of n g b)
  sends_a_reply t u = every_message_sent_is_a_reply n g b (is_sound_lem n s) (for_its_laws n t) u

  pub replies_properly : Typed n → TypedTable g → Proper n b (turn_of n g b)
  replies_properly t u =
      proper_by_its_bytes n b (turn_of n g b) (laws.every_reply_is_a_frame_to_the_asker n g b (is_sound_lem n s) (for_its_laws n t) u)

module _ (s : Settings) (r : SettingsInRange s) (h : SettingsTyped s) where
  abbrev Kept : Node → Groups → Type 0
  Kept n g = BoardInRange n × (Typed n × TypedTable g)

  kept : (n : Node) (g : Groups) → Became s n g → Kept n g
  kept n g set_up_lem =
      let (e, i) = events.set_up_gives_the_fresh_node s r in
      (subst BoardInRange (sym (ap (λ (a : After). a.node) e)) i, (fitting.a_fresh_node_fits s h, fitting.a_fresh_table_fits))
  kept n g (having_heard {n = m} {g = l} before b) =
      let (i, (t, u)) = kept m l before in
      (turned_in_range m l b i, (fitting.a_turn_leaves_a_node_that_fits m l b t, fitting.a_turn_leaves_a_table_that_fits m l b t u))
  kept n g (at_a_pulse {n = m} before p) =
      let (i, (t, u)) = kept m g before in (events.at_a_pulse_still_sound m p i, (fitting.at_a_pulse_it_still_fits m p t, u))
  kept n g (blocked {n = m} before cause) =
      let (i, (t, u)) = kept m g before in (events.blocked_still_sound m cause i, (fitting.blocked_it_still_fits m cause t, u))
  kept n g (cleared {n = m} before) =
      let (i, (t, u)) = kept m g before in (events.cleared_still_sound m i, (fitting.cleared_it_still_fits m t, u))
  kept n g (powered_up_lem {n = m} before) =
      let (i, (t, u)) = kept m g before in (events.powered_up_still_sound m i, (fitting.powered_up_it_still_fits m t, u))

  pub since_set_up : (n : Node) (g : Groups) → Became s n g → SinceSetUp n g
  since_set_up n g before =
      let (i, (t, u)) = kept n g before in
      record {
        it_is_sound = i;
        its_numbers_fit = t;
        its_table_fits = u;
        all_that_it_sends_is_a_reply = λ b. sends_a_reply n g b i t u (reply_in (turn_of n g b));
        every_reply_of_it_is_a_frame_to_the_asker = λ b. replies_properly n g b i t u;
      }
