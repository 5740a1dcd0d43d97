-- The number of eight bytes is zero where they are.
-- Assumes nothing.
use Rattle.std.proofs.Common.{◌≡◌, ◌<◌, length, get_or, ℕ, rules}
use Rattle.line.proofs.Zeros.{eight_zero}
use Rattle.line.proofs.beyond.is_zero.Goals as goal

pub returns : goal.returns
returns c =
    let long : length c.args.eight ≡ 8 = search rules in
    let bytes : (i : ℕ) → get_or c.args.eight i 0 < 256 = λ i. search rules in
    rw c.from_le_bytes.ensures (eight_zero c.args.eight long bytes)
