-- Demand 2, the board: numbers that fit their types go on fitting them, whatever reaches the board.
-- Assumes nothing.
use Rattle.std.specs.Prelude.{ℕ, List}
use Rattle.travel.specs.declared.Pulse.{Pulse}
use Rattle.board.specs.{
  Events.{set_up, after_pulse, after_blocked, after_cleared, after_power_up},
  Groups.{no_groups, applied},
  declared.{settings.Settings.{Settings}, whole.Node.{Node}},
}
use Rattle.node.specs.Frames.{turn_of}
use Rattle.promises.specs.Groups.{Groups}
use Rattle.promises.specs.Typed.{SettingsTyped, Typed, TypedTable}

pub record Fitting : Type 0 where
  pub a_fresh_node_fits : (s : Settings) → SettingsTyped s → Typed (set_up s).node
  pub a_fresh_table_fits : TypedTable no_groups
  pub a_turn_leaves_a_node_that_fits : (n : Node) (g : Groups) (b : List ℕ) → Typed n → Typed (turn_of n g b).node
  pub a_turn_leaves_a_table_that_fits : (n : Node) (g : Groups) (b : List ℕ) → Typed n → TypedTable g
      → TypedTable (applied g (turn_of n g b).change)
  pub at_a_pulse_it_still_fits : (n : Node) (p : Pulse) → Typed n → Typed (after_pulse n p).node
  pub blocked_it_still_fits : (n : Node) (cause : ℕ) → Typed n → Typed (after_blocked n cause).node
  pub cleared_it_still_fits : (n : Node) → Typed n → Typed (after_cleared n).node
  pub powered_up_it_still_fits : (n : Node) → Typed n → Typed (after_power_up n).node
