use native.Mathlib.Omega.{arith}
use borrow.Author.Tests.{le-leb, lt-leb}
use Rattle.circuit.specs.Table.{pin_read}
use Rattle.circuit.proofs.pin_read.Goals as goal

pub returns-then-p-count : goal.returns-then-p-count
unfolding pin_read
returns-then-p-count c = rw (le-leb c.args.p c.args.count (omega arith))

pub returns-else-p-count : goal.returns-else-p-count
unfolding pin_read
returns-else-p-count c = rw (lt-leb c.args.p c.args.count (omega arith))
