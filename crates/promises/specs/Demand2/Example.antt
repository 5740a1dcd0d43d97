-- Demand 2, the board: one MOVETO of which all that the effects ask is so, worked out.
-- Assumes nothing.
use Rattle.std.specs.Prelude.{ℕ, false, List, [], ◌∷◌, Some, None}
use Rattle.board.specs.declared.whole.Node.{Node}
use Rattle.node.specs.Frames.{turn_of}
use Rattle.promises.specs.Wire.{data_of}
use Rattle.promises.specs.BoardParts.{address, pulse, plain_plate, drive, empty_table, with_drive, fresh_node}
use Rattle.promises.specs.Demand2.Turns.{CarriedOut}
use Rattle.promises.specs.Demand2.Codes.{Accepted, move_rows}
use Rattle.promises.specs.Demand2.Effects.{Arrives, AimedAt}

-- A board just set up: 05:04:03, type 2, travel 1,000.
abbrev pub new_board : Node
new_board = fresh_node (record { id = address 0x050403; kind = 2; travel = pulse 1000; plate = plain_plate })

-- MOVETO down from FF:FF:00 to it, with the ACK bit: raw 03 8F 02 00 FF FF 03 04 05 00 00 00 00.
abbrev pub move_down : List ℕ
move_down =
    0xFC ∷ 0x70 ∷ 0xFD ∷ 0xFF ∷ 0x00 ∷ 0x00 ∷ 0xFC ∷ 0xFB ∷ 0xFA ∷ 0xFF ∷ 0xFF ∷ 0xFF ∷ 0xFF ∷ 0x0A ∷ 0x55 ∷ []

pub record Example : Type 1 where
  pub it_arrives : Arrives new_board empty_table move_down
  pub no_code_refuses_it : Accepted (move_rows new_board (data_of move_down))
  pub it_is_aimed_at_the_down_limit : AimedAt new_board (data_of move_down) (pulse 1000)
  pub so_the_motor_runs_down :
      CarriedOut new_board move_down (turn_of new_board empty_table move_down)
      (with_drive new_board (drive (pulse 0) (Some (pulse 1000)) 0 1 1 false)) None
