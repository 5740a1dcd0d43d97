-- Numbers that fit their types go on fitting them: by the board's own laws.
-- Assumes nothing.
use mathlib.Core.Bool.{not}
use Rattle.meaning.specs.Choice.{either}
use Rattle.board.specs.Events.{set_up, after_pulse, after_blocked, after_cleared, after_power_up}
use Rattle.board.specs.Settings.{in_range}
use Rattle.board.specs.declared.events.After.{After}
use Rattle.board.specs.declared.settings.Settings.{Settings}
use Rattle.board.proofs.Fitting.{
  fresh_is_typed,
  at_pulse_typed,
  blocked_typed,
  cleared_typed,
  powered_up_typed,
  applied_typed,
  no_groups_typed,
}
use Rattle.node.specs.Frames.{turn_of}
use Rattle.node.proofs.Histories.{turn-fits}
use Rattle.promises.specs.Typed.{SettingsTyped, Typed}
use Rattle.promises.specs.Demand2.Fitting.{Fitting}
use Rattle.promises.proofs.Typed.{settings_for_its_laws, for_its_laws, by_its_laws}

set_up_fits : (s : Settings) → SettingsTyped s → Typed (set_up s).node
unfolding set_up
set_up_fits s h =
    let t = by_its_laws _ (fresh_is_typed s (settings_for_its_laws s h)) in
    either (λ (a : After). Typed a.node) (not (in_range s)) (λ e. t) (λ e. t)

pub fitting : Fitting
fitting =
    record {
      a_fresh_node_fits = set_up_fits;
      a_fresh_table_fits = no_groups_typed;
      a_turn_leaves_a_node_that_fits = λ n g b t. by_its_laws (turn_of n g b).node (turn-fits n g b (for_its_laws n t)).node_fits;
      a_turn_leaves_a_table_that_fits = λ n g b t. applied_typed g (turn_of n g b).change (turn-fits n g b (for_its_laws n t)).change_fits;
      at_a_pulse_it_still_fits = λ n p t. by_its_laws (after_pulse n p).node (at_pulse_typed n (for_its_laws n t) p);
      blocked_it_still_fits = λ n cause t. by_its_laws (after_blocked n cause).node (blocked_typed n (for_its_laws n t) cause);
      cleared_it_still_fits = λ n t. by_its_laws (after_cleared n).node (cleared_typed n (for_its_laws n t));
      powered_up_it_still_fits = λ n t. by_its_laws (after_power_up n).node (powered_up_typed n (for_its_laws n t));
    }
