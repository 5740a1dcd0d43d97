-- Each return is its row's answer: the tests passed so far are the facts of the rows passed over.
-- Assumes nothing.
use Rattle.std.proofs.Common.{arith, rules}
use Rattle.frame.proofs.Rows.{read_by}
use Rattle.frame.proofs.reading.read.Goals as goal

pub returns-then-count-lt-BESIDE_DATA : goal.returns-then-count-lt-BESIDE_DATA
returns-then-count-lt-BESIDE_DATA c = read_by c.args.bundle.now 0 (omega arith)

pub returns-then-count-gt-LONGEST : goal.returns-then-count-gt-LONGEST
returns-then-count-gt-LONGEST c = read_by c.args.bundle.now 1 (search rules)

pub returns-then-length-ne0 : goal.returns-then-length-ne0
returns-then-length-ne0 c = read_by c.args.bundle.now 2 (search rules)

pub returns-then-from-count : goal.returns-then-from-count
returns-then-from-count c = read_by c.args.bundle.now 3 (search rules)

pub returns-then-sum-pair : goal.returns-then-sum-pair
returns-then-sum-pair c = read_by c.args.bundle.now 4 (search rules)

pub returns-then-bundle : goal.returns-then-bundle
returns-then-bundle c = read_by c.args.bundle.now 5 (search rules)

pub returns : goal.returns
returns c = rw c.header.ensures (read_by c.args.bundle.now 6 (search rules))
