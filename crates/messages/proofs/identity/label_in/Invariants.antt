-- The places passed hold the first bytes of DATA.
-- Assumes nothing.
use Rattle.std.proofs.Common.{length, ◌≡◌, take}
use Rattle.frame.specs.Layout.{data_of}
use Rattle.messages.specs.Identity.{first_of}
use Rattle.messages.proofs.identity.label_in.Given as goal

abbrev pub invariant-loop-place : goal.invariant-loop-place
invariant-loop-place l = record {
  all_sixteen : length l.label ≡ 16;
  laid : take l.place l.label ≡ first_of l.place (data_of l.bundle);
}
