-- What is passed is the raw bytes inverted, over the first of the part.
-- Assumes nothing.
use Rattle.std.proofs.Common.{◌≡◌, map, take}
use Rattle.frame.specs.Layout.{inverted}
use Rattle.frame.specs.Writing.{over}
use Rattle.frame.proofs.writing.lay_inverted.Given as goal

abbrev pub invariant-loop-place : goal.invariant-loop-place
invariant-loop-place l = l.part ≡ over (map inverted (take l.place l.raw)) l.fn.part
