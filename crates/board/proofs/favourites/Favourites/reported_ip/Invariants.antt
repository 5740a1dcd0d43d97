-- What is found from here on is what is found from the start.
-- Assumes nothing.
use Rattle.std.proofs.Common.{◌≡◌, ◌+◌, ◌-◌, ◌≤◌, drop}
use Rattle.board.specs.Favourites.{first_at}
use Rattle.board.proofs.favourites.Favourites.reported_ip.Given as goal

abbrev pub invariant-loop-number : goal.invariant-loop-number
invariant-loop-number l =
    (l.number ≤ 16) × (first_at (l.number + 1) (drop l.number l.self.slots) l.position ≡ first_at 1 l.self.slots l.position)

abbrev pub decreases-loop-number : goal.decreases-loop-number
decreases-loop-number l = 16 - l.number
