use native.Mathlib.Omega.{arith}
use Rattle.model.proofs.Runs.{length-values_below}
use Rattle.unit.proofs.Laws.{stuck-row, values-none, values-more, values-all}
use Rattle.unit.proofs.simulate_unit.Goals.{In-loop-n}
use Rattle.unit.proofs.simulate_unit.Goals as goal

pub loop-n-init : goal.loop-n-init
loop-n-init c = λ t f ins st s li ei l e. values-none _ f ins st t _

pub loop-n-preserved : goal.loop-n-preserved
loop-n-preserved c = λ t f ins st s li ei l e.
    let below = c.loop-n-test.true in
    let line = c.simulate_line.ensures in
    let lane = c.loop-n.invariant t f ins st s li ei l e in
    let at = stuck-row t _ _ f _ _ s (omega (arith, c.requires.3, below)) c.from-row.ensures in
    values-more _ f ins st t _ _ _ _ line.put (omega (arith, below, c.requires.5, c.loop-n.auto.words)) lane (line.holds t f ins st _ at li ei l e lane (length-values_below _ f ins st _))

pub returns : goal.returns
returns c = λ t f ins st s li ei l e. values-all _ f ins st t _ _ (omega (arith, c.requires.2)) (c.loop-n.invariant t f ins st s li ei l e)
