use native.Mathlib.Omega.{arith}
use Rattle.starts.proofs.Laws.{start_none, start-more}
use Rattle.starts.proofs.load_starts.Goals as goal

pub loop-i-init : goal.loop-i-init
loop-i-init c = λ lane h. start_none lane _ _

pub loop-i-preserved : goal.loop-i-preserved
loop-i-preserved c = λ lane h.
    start-more lane _ _ _ _ _ c.store.ensures (omega (arith, c.loop-i-test.true, c.loop-i.auto.state, c.requires.2)) (c.numbered.ensures lane h) (c.loop-i.invariant lane h)
