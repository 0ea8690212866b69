use native.Mathlib.Omega.{arith}
use Rattle.listing.proofs.Totals.{counts-none, count_low, counts-more, counts_all}
use Rattle.listing.proofs.count_verdicts.Goals as goal

pub loop-n-init : goal.loop-n-init
loop-n-init c = counts-none _

pub overflow_add-counts : goal.overflow_add-counts
overflow_add-counts c = omega (arith, count_low _ _ c.from.result _ c.loop-n.invariant (omega arith))

pub loop-n-preserved : goal.loop-n-preserved
loop-n-preserved c = counts-more _ _ _ _ c.loop-n.invariant (omega arith) c.from.ensures

pub returns : goal.returns
returns c = counts_all _ _ c.loop-n.n (omega (arith, c.loop-n-test.false)) c.loop-n.invariant
