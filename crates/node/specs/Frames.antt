-- What a bundle leads to (document 01, rows 33 and 1 to 6, "Is the frame for this node?").
-- Assumes nothing.
use Rattle.std.specs.Prelude.{if◌then◌else◌, ℕ, not, List, Ok, Err, None}
use Rattle.refusal.specs.declared.Refusal.{Refusal}
use Rattle.frame.specs.Layout.{data_of}
use Rattle.frame.specs.Reading.{reading_of, Reading}
use Rattle.board.specs.Node.{sound}
use Rattle.board.specs.declared.whole.Node.{Node}
use Rattle.board.specs.Groups.{Groups}
use Rattle.messages.specs.Table.{outcome_of}
use Rattle.node.specs.Meant.{meant}
use Rattle.node.specs.Turn.{silent, refused_by}
use Rattle.node.specs.Replies.{answered}
use Rattle.node.specs.declared.turn.Turn.{Turn}

-- A frame is carried out if it is meant for this node; else silence and no change. What is no frame is refused by its
-- number.
abbrev pub turn_by : Node → Groups → List ℕ → Reading → Turn
turn_by n groups b (Ok (h, count)) =
    if meant n.settings groups h
    then answered n.settings h (outcome_of n groups h.source h.message (data_of b))
    else silent n None
turn_by n groups b (Err r) = refused_by n r

-- Row 33 first, then rows 1 to 6, then the message.
unfoldable pub turn_of : Node → Groups → List ℕ → Turn
turn_of n groups b = if not (sound n) then refused_by n Refusal.BrokenNode else turn_by n groups b (reading_of b)
