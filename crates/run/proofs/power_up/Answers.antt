use native.Mathlib.Omega.{arith}
use Rattle.run.proofs.Laws.{power_none, power_more, power_all}
use Rattle.run.proofs.power_up.Goals as goal

pub loop-s-init : goal.loop-s-init
loop-s-init c = λ lane. power_none c.args.c.now lane _

pub loop-s-preserved : goal.loop-s-preserved
loop-s-preserved c = λ lane.
    power_more _ lane _ _ _ c.store.ensures (omega (arith, c.loop-s-test.true, c.requires.0)) (omega (arith, c.loop-s-test.true, c.loop-s.auto.state, c.requires.1)) (c.loop-s.invariant lane)

pub returns : goal.returns
returns c = λ lane. power_all c.args.c.now lane _ c.loop-s.s (omega (arith, c.loop-s-test.false, c.requires.0)) (c.loop-s.invariant lane)
