-- The places passed hold the IPs 1 to the number reached.
-- Assumes nothing.
use Rattle.std.proofs.Common.{◌≡◌, length, take}
use Rattle.board.specs.Favourites.{shared_to}
use Rattle.board.proofs.favourites.Favourites.shared_out.Given as goal

abbrev pub invariant-loop-place : goal.invariant-loop-place
invariant-loop-place l = (length l.slots ≡ 16) × (take l.place l.slots ≡ shared_to l.n l.travel l.place)
