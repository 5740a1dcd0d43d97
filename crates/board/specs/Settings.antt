-- The settings and their ranges (document 01, row 32; document 02, 2026-01).
-- Assumes nothing.
use Rattle.std.specs.Prelude.{Bool, ◌&&◌, leb}
use Rattle.frame.specs.Address.{a_node_id}
use Rattle.board.specs.Plate.{plate_in_range}
use Rattle.board.specs.declared.settings.Settings.{Settings}

-- A NodeID, type 1 to 15, travel from 100 (a pulse is 16 bits, so that 65,535 is no test), a plate.
abbrev pub in_range : Settings → Bool
in_range s =
    (a_node_id s.id).holds && (leb 1 s.kind && (leb s.kind 15 && (leb 100 s.travel.0 && plate_in_range s.plate)))
