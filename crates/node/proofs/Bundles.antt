-- What holds of a refusal, of silence and of every carried-out message holds of every turn.
-- Assumes nothing.
use Prim.Native.Nat.{ℕ}
use mathlib.Core.Path.{◌≡◌, refl, ◌∙◌, sym, ap, subst}
use mathlib.Core.Bool.{true, not}
use mathlib.Core.List.{List}
use borrow.Author.Tests.{not-false}
use Rattle.meaning.specs.Choice.{either}
use Rattle.refusal.specs.declared.Refusal.{Refusal}
use Rattle.frame.specs.Layout.{message, source, header_of, data_of}
use Rattle.frame.specs.Reading.{IsFrame, reading_of, Reading}
use Rattle.frame.specs.Reading as reading
use Rattle.frame.proofs.Frames.{frame_is_read, frame_exactly_when}
use Rattle.board.specs.Groups.{Groups}
use Rattle.board.specs.Node.{sound}
use Rattle.board.specs.declared.whole.Node.{Node}
use Rattle.messages.specs.Table.{outcome_of}
use Rattle.messages.specs.declared.outcome.Outcome.{Outcome}
use Rattle.node.specs.Meant.{meant}
use Rattle.node.specs.Turn.{silent, refused_by}
use Rattle.node.specs.Replies.{answered}
use Rattle.node.specs.Frames.{turn_by, turn_of}
use Rattle.node.specs.declared.turn.Turn.{Turn}
use Rattle.std.specs.Prelude.{Ok, Err, None}

module _ (n : Node) (g : Groups) (b : List ℕ) where
  -- What the message of a frame comes to.
  abbrev pub came_to : Outcome
  came_to = outcome_of n g (source b) (message b) (data_of b)

module _ (n : Node) (g : Groups) (b : List ℕ) (P : Turn → Type 0) where
  by_reading : (r : Reading) → reading_of b ≡ r
      → ((q : Refusal) → P (refused_by n q))
      → P (silent n None)
      → (IsFrame b → meant n.settings g (header_of b) ≡ true → P (answered n.settings (header_of b) (came_to n g b)))
      → P (turn_by n g b r)
  by_reading (Err q) e refused ignored carried = refused q
  by_reading (Ok (h, count)) e refused ignored carried =
      let f : IsFrame b = (frame_exactly_when b).1 (ap reading.refused_by e) in
      subst (λ (r : Reading). P (turn_by n g b r)) (sym (frame_is_read b f) ∙ e)
      (either P (meant n.settings g (header_of b)) (λ m. carried f m) (λ m. ignored))

  pub every_turn : ((q : Refusal) → P (refused_by n q))
      → P (silent n None)
      → (sound n ≡ true → IsFrame b → meant n.settings g (header_of b) ≡ true → P (answered n.settings (header_of b) (came_to n g b)))
      → P (turn_of n g b)
  unfolding turn_of
  every_turn refused ignored carried =
      either P (not (sound n)) (λ e. refused Refusal.BrokenNode) λ e.
      by_reading (reading_of b) refl refused ignored (carried (not-false (sound n) e))
