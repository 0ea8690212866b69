use mathlib.Core.Path.{◌∙◌, sym}
use native.Mathlib.Omega.{arith}
use borrow.Author.Tests.{lt-ltb}
use Rattle.lanes.proofs.Bits.{bit-all, bit_below}
use Rattle.tally.proofs.first_lanes.Goals as goal

pub returns-then-count-ge64 : goal.returns-then-count-ge64
returns-then-count-ge64 c = λ t h. bit-all t h ∙ sym (lt-ltb t _ (omega arith))

pub returns : goal.returns
returns c = λ t h. bit_below t _ h (omega arith)
