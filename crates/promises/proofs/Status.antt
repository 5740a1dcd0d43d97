-- The status is the number of the first of its tests that holds.
-- Assumes nothing.
use mathlib.Core.Path.{◌≡◌, refl, sym, ap, ◌∙◌}
use mathlib.Core.Bool.{true, false, false≢true}
use mathlib.Core.List.{[], ◌∷◌}
use Rattle.meaning.specs.Tests.{succeeds}
use Rattle.travel.specs.declared.Pulse.{Pulse}
use Rattle.board.specs.Drive.{is_running, Motion}
use Rattle.board.specs.Node.{status_of}
use Rattle.board.specs.declared.whole.Node.{Node}
use Rattle.promises.specs.Rows.{◌when◌, FirstOf, none_applies}
use Rattle.promises.proofs.First.{finds, row}
use Rattle.std.specs.Prelude.{Some, None}

running_to : (motion : Motion) → is_running motion ≡ true → (target : Pulse) × (motion ≡ Some target)
running_to None e = absurd (false≢true e)
running_to (Some target) e = (target, refl)

still : (motion : Motion) → is_running motion ≡ false → ¬ ((target : Pulse) × (motion ≡ Some target))
still motion e (target, runs) = false≢true (sym e ∙ ap is_running runs)

pub status :
    (n : Node)
    → FirstOf
    (3 when (n.lock.locked ≡ true) ∷ 2 when (n.drive.blocked ≡ true) ∷ 1 when ((target : Pulse) × (n.drive.motion ≡ Some target)) ∷ [])
    (status_of n)
status n =
    row (λ k. k) (succeeds n.lock.locked) λ free.
    row (λ k. k) (succeeds n.drive.blocked) λ clear.
    row (λ k. k) (finds (is_running n.drive.motion) (running_to n.drive.motion) (still n.drive.motion)) λ stands.
    none_applies refl
