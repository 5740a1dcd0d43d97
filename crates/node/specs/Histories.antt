-- The board with its group table, and its history: bundles from the line and events of the motor and the supply, one
-- after another.
-- Assumes nothing.
use Rattle.std.specs.Prelude.{ℕ, List, [], ◌∷◌, ◌++◌, take, Some, None, Ok, Err}
use Rattle.travel.specs.declared.Pulse.{Pulse}
use Rattle.board.specs.Events.{after_pulse, after_blocked, after_cleared, after_power_up}
use Rattle.board.specs.Groups.{Groups, no_groups, applied}
use Rattle.board.specs.Node.{fresh}
use Rattle.board.specs.Typed.{Typed, TypedTable}
use Rattle.board.specs.declared.settings.Settings.{Settings}
use Rattle.board.specs.declared.whole.Node.{Node}
use Rattle.node.specs.Frames.{turn_of}
use Rattle.node.specs.Turn.{Answer}
use Rattle.node.specs.declared.turn.Turn.{Turn}

-- The node and, beside it, its group table.
pub record State : Type 0 where
  pub node : Node
  pub groups : Groups

abbrev pub state : Node → Groups → State
state n groups = record { node = n; groups = groups }

-- A board that was just set up, with its fresh table.
abbrev pub begun : Settings → State
begun s = state (fresh s) no_groups

-- What a bundle leads to: node and table as one, and the answer.
pub record Heard : Type 0 where
  pub left : State
  pub answer : Answer

abbrev pub heard_by : Groups → Turn → Heard
heard_by groups t = record { left = state t.node (applied groups t.change); answer = t.answer }

abbrev pub heard : State → List ℕ → Heard
heard w b = heard_by w.groups (turn_of w.node w.groups b)

-- What reaches the board: a bundle of wire bytes, or an event.
pub data Input : Type 0 where
  bundle : List ℕ → Input
  pulse : Pulse → Input
  blocked : (cause : ℕ) → Input
  cleared : Input
  power_up : Input

-- An event leaves the group table as it is.
abbrev pub after : State → Input → State
after w (bundle b) = (heard w b).left
after w (pulse p) = state (after_pulse w.node p).node w.groups
after w (blocked cause) = state (after_blocked w.node cause).node w.groups
after w cleared = state (after_cleared w.node).node w.groups
after w power_up = state (after_power_up w.node).node w.groups

-- The replies to it: one, by its wire bytes, or none.
abbrev pub spoken : Answer → List (List ℕ)
spoken (Ok None) = []
spoken (Ok (Some r)) = take r.count r.bytes ∷ []
spoken (Err q) = []

abbrev pub said : State → Input → List (List ℕ)
said w (bundle b) = spoken (heard w b).answer
said w (pulse p) = []
said w (blocked cause) = []
said w cleared = []
said w power_up = []

-- A history: the state at its end, and the replies in their order.
unfoldable pub lived : State → List Input → State
lived w [] = w
lived w (i ∷ later) = lived (after w i) later

unfoldable pub said_in : State → List Input → List (List ℕ)
said_in w [] = []
said_in w (i ∷ later) = said w i ++ said_in (after w i) later

-- The numbers of a state fit their types.
pub record Fits (w : State) : Type 0 where
  pub node_fits : Typed w.node
  pub table_fits : TypedTable w.groups
