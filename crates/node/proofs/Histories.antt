-- A history keeps the board sound, its settings as they were and its numbers fitting their types; so all that was set up is so ever after.
-- Assumes nothing.
use Prim.Native.Nat.{ℕ, zero, suc, ◌<◌}
use native.Mathlib.Omega.{arith}
use mathlib.Core.Path.{◌≡◌}
use mathlib.Core.Bool.{true}
use mathlib.Core.List.{List, [], ◌∷◌, map}
use lib.ListN.{get_or, take, drop}
use Rattle.meaning.specs.Choice.{either}
use Rattle.frame.specs.Layout.{inverted, message, source, header_of, data_of, data_count}
use Rattle.board.specs.Groups.{Groups}
use Rattle.board.specs.Node.{sound}
use Rattle.board.specs.Settings.{in_range}
use Rattle.board.specs.Typed.{Typed, SettingsTyped}
use Rattle.board.specs.declared.settings.Settings.{Settings}
use Rattle.board.specs.declared.whole.Node.{Node}
use Rattle.board.proofs.Sound.{fresh_is_sound, at_pulse_keeps_sound, blocked_keeps_sound, cleared_keeps_sound, power_up_keeps_sound}
use Rattle.board.proofs.Fitting.{
  ChangeFits,
  fresh_is_typed,
  at_pulse_typed,
  blocked_typed,
  cleared_typed,
  powered_up_typed,
  applied_typed,
  no_groups_typed,
}
use Rattle.messages.proofs.Fitting.{Fitting, every_message_fits}
use Rattle.messages.specs.declared.outcome.Outcome.{Outcome}
use Rattle.node.specs.Replies.{is_said, answered, Proper}
use Rattle.node.specs.Frames.{turn_of}
use Rattle.node.specs.Histories.{State, begun, Input, bundle, pulse, blocked, cleared, power_up, after, lived, Fits}
use Rattle.node.specs.declared.turn.Turn.{Turn}
use Rattle.node.proofs.Bundles.{came_to, every_turn}
use Rattle.node.proofs.Laws.{every_state_passes_row_33_again, every_reply_is_a_frame_to_the_asker}
use Rattle.node.proofs.Sent.{SendsAReply, every_message_sent_is_a_reply}

-- ---- sound
after_keeps_sound : (w : State) (i : Input) → sound w.node ≡ true → sound (after w i).node ≡ true
after_keeps_sound w (bundle b) s = (every_state_passes_row_33_again w.node w.groups b s).still_sound
after_keeps_sound w (pulse p) s = at_pulse_keeps_sound w.node s p
after_keeps_sound w (blocked cause) s = blocked_keeps_sound w.node s cause
after_keeps_sound w cleared s = cleared_keeps_sound w.node s
after_keeps_sound w power_up s = power_up_keeps_sound w.node s

pub a_history_keeps_sound : (w : State) (l : List Input) → sound w.node ≡ true → sound (lived w l).node ≡ true
unfolding lived
a_history_keeps_sound w [] s = s
a_history_keeps_sound w (i ∷ later) s = a_history_keeps_sound (after w i) later (after_keeps_sound w i s)

-- ---- numbers that fit their types
inverted_fits : (l : List ℕ) (place : ℕ) → get_or (map inverted l) place 0 < 256
inverted_fits [] place = omega arith
inverted_fits (x ∷ l) zero = omega arith
inverted_fits (x ∷ l) (suc place) = inverted_fits l place

-- What a turn leaves.
pub record TurnFits (t : Turn) : Type 0 where
  pub node_fits : Typed t.node
  pub change_fits : ChangeFits t.change

module _ (n : Node) (g : Groups) (b : List ℕ) (t : Typed n) where
  answered_fits : (o : Outcome) → Fitting o → TurnFits (answered n.settings (header_of b) o)
  answered_fits o f =
      either TurnFits (is_said o.say (header_of b).ack)
      (λ e. record { node_fits = f.node_fits; change_fits = f.change_fits })
      (λ e. record { node_fits = f.node_fits; change_fits = f.change_fits })

  pub turn-fits : TurnFits (turn_of n g b)
  turn-fits =
      every_turn n g b TurnFits
      (λ q. record { node_fits = t; change_fits = tt })
      (record { node_fits = t; change_fits = tt })
      (λ s f m. answered_fits (came_to n g b)
      (every_message_fits n t (data_of b) (inverted_fits (take (data_count b) (drop 9 b))) g (source b) (message b)))

after_fits : (w : State) (i : Input) → Fits w → Fits (after w i)
after_fits w (bundle b) f =
    let t = turn-fits w.node w.groups b f.node_fits in
    record {
      node_fits = t.node_fits;
      table_fits = applied_typed w.groups (turn_of w.node w.groups b).change t.change_fits f.table_fits;
    }
after_fits w (pulse p) f = record { node_fits = at_pulse_typed w.node f.node_fits p; table_fits = f.table_fits }
after_fits w (blocked cause) f = record { node_fits = blocked_typed w.node f.node_fits cause; table_fits = f.table_fits }
after_fits w cleared f = record { node_fits = cleared_typed w.node f.node_fits; table_fits = f.table_fits }
after_fits w power_up f = record { node_fits = powered_up_typed w.node f.node_fits; table_fits = f.table_fits }

pub a_history_keeps_what_fits : (w : State) (l : List Input) → Fits w → Fits (lived w l)
unfolding lived
a_history_keeps_what_fits w [] f = f
a_history_keeps_what_fits w (i ∷ later) f = a_history_keeps_what_fits (after w i) later (after_fits w i f)

-- ---- from set-up on
module _ (s : Settings) (r : in_range s ≡ true) (h : SettingsTyped s) (l : List Input) where
  pub sound_from_set_up : sound (lived (begun s) l).node ≡ true
  sound_from_set_up = a_history_keeps_sound (begun s) l (fresh_is_sound s r)

  pub fits_from_set_up : Fits (lived (begun s) l)
  fits_from_set_up = a_history_keeps_what_fits (begun s) l (record { node_fits = fresh_is_typed s h; table_fits = no_groups_typed })

  -- The board and its table once all that has happened.
  abbrev now : State
  now = lived (begun s) l

  pub every_reply_since_set_up_is_a_frame_to_the_asker : (b : List ℕ) → Proper now.node.settings (header_of b) (turn_of now.node now.groups b)
  every_reply_since_set_up_is_a_frame_to_the_asker b =
      every_reply_is_a_frame_to_the_asker now.node now.groups b sound_from_set_up fits_from_set_up.node_fits fits_from_set_up.table_fits

  pub every_message_sent_since_set_up_is_a_reply : (b : List ℕ) → SendsAReply (turn_of now.node now.groups b)
  every_message_sent_since_set_up_is_a_reply b =
      every_message_sent_is_a_reply now.node now.groups b sound_from_set_up fits_from_set_up.node_fits fits_from_set_up.table_fits
