-- The plate and its ranges (document 02, 2026-01; row 32).
-- Assumes nothing.
use Rattle.std.specs.Prelude.{Bool, ◌&&◌, leb}
use Rattle.serial.specs.Serial.{is_origin}
use Rattle.board.specs.declared.plate.Plate.{Plate}

-- A reference of 24 bits, a capital letter, the characters of maker, year and week.
abbrev pub plate_in_range : Plate → Bool
plate_in_range p = leb p.reference 0xFFFFFF && (leb 0x41 p.letter && (leb p.letter 0x5A && is_origin p.origin))
