use native.Mathlib.Omega.{arith}
use Rattle.imply.proofs.Steps.{found_none, found-more, found_all}
use Rattle.imply.proofs.conflicts.Goals as goal

pub loop-n-init : goal.loop-n-init
loop-n-init c = found_none _

pub loop-n-preserved : goal.loop-n-preserved
loop-n-preserved c = found-more _ _ _ _ _ c.read.ensures c.conflicts-found.ensures c.loop-n.invariant

pub returns : goal.returns
returns c = λ t vs e h. found_all t _ vs _ _ (omega (arith, e, c.loop-n-test.false)) c.loop-n.invariant h
