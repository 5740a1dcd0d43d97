-- What a bundle leads to, from the rows that did not apply and the one that decides.
-- Assumes nothing.
use Prim.Native.Nat.{ℕ}
use mathlib.Core.Path.{◌≡◌, ◌∙◌, ap}
use mathlib.Core.Bool.{true, false, not}
use mathlib.Core.List.{List}
use Rattle.meaning.specs.Chosen.{chosen, passed}
use Rattle.refusal.specs.declared.Refusal.{Refusal}
use Rattle.frame.specs.Layout.{data_of}
use Rattle.frame.specs.Reading.{reading_of}
use Rattle.frame.specs.declared.header.Header.{Header}
use Rattle.board.specs.Groups.{Groups}
use Rattle.board.specs.Node.{sound}
use Rattle.board.specs.declared.whole.Node.{Node}
use Rattle.messages.specs.Table.{outcome_of}
use Rattle.messages.specs.declared.outcome.Outcome.{Outcome}
use Rattle.node.specs.Meant.{meant}
use Rattle.node.specs.Turn.{silent, refused_by}
use Rattle.node.specs.Replies.{answered}
use Rattle.node.specs.Frames.{turn_by, turn_of}
use Rattle.std.specs.Prelude.{Ok, Err, None}

module _ (n : Node) (g : Groups) (b : List ℕ) where
  pub by_row_33 : sound n ≡ false → turn_of n g b ≡ refused_by n Refusal.BrokenNode
  unfolding turn_of
  by_row_33 broken = chosen (not (sound n)) (refused_by n Refusal.BrokenNode) (turn_by n g b (reading_of b)) (ap not broken)

module _ (n : Node) (g : Groups) (b : List ℕ) (fine : sound n ≡ true) where
  pub by_reading : turn_of n g b ≡ turn_by n g b (reading_of b)
  unfolding turn_of
  by_reading = passed (not (sound n)) (refused_by n Refusal.BrokenNode) (turn_by n g b (reading_of b)) (ap not fine)

module _ (n : Node) (g : Groups) (b : List ℕ) where
  pub by_row_1_to_6 : (r : Refusal) → reading_of b ≡ Err r → turn_by n g b (reading_of b) ≡ refused_by n r
  by_row_1_to_6 r e = ap (turn_by n g b) e

module _ (n : Node) (g : Groups) (b : List ℕ) (h : Header) (count : ℕ) (read : reading_of b ≡ Ok (h, count)) where
  -- What the message comes to.
  abbrev pub worked : Outcome
  worked = outcome_of n g h.source h.message (data_of b)

  pub carried_out : meant n.settings g h ≡ true → turn_by n g b (reading_of b) ≡ answered n.settings h worked
  carried_out m =
      ap (turn_by n g b) read
      ∙ chosen (meant n.settings g h) (answered n.settings h worked) (silent n None) m

  pub passed_over : meant n.settings g h ≡ false → turn_by n g b (reading_of b) ≡ silent n None
  passed_over m =
      ap (turn_by n g b) read
      ∙ passed (meant n.settings g h) (answered n.settings h worked) (silent n None) m
