-- Demand 2, the board: what a label is (2026-01).
-- Assumes nothing.
use Rattle.std.specs.Prelude.{ℕ, ◌<◌, ◌≡◌, ◌↔◌, true, List, length}
use Rattle.board.specs.Label.{is_label}
use Rattle.promises.specs.Wire.{byte_at}
use Rattle.promises.specs.BoardInRange.{IsCharacter}

pub record Labels : Type 0 where
  pub labels_are_told :
      (label : List ℕ)
      → (is_label label ≡ true) ↔ ((place : ℕ) → place < length label → IsCharacter (byte_at label place))
