use mathlib.Core.Path.{refl}
use native.Mathlib.Omega.{arith}
use Rattle.lists.specs.Field.{overwritten}
use Rattle.lists.proofs.Field.{row_more}
use Rattle.model.specs.Values.{X}
use Rattle.lanes.proofs.Laws.{lane-read}
use Rattle.run.proofs.Laws.{three-at}
use Rattle.run.proofs.write_state.Goals as goal

pub loop-s-init : goal.loop-s-init
unfolding overwritten
loop-s-init c = λ st l e w. refl

pub loop-s-preserved : goal.loop-s-preserved
loop-s-preserved c = λ st l e w.
    let below = c.loop-s-test.true in
    row_more st _ _ _ _ _ X refl (c.lane.ensures _ (three-at st c.loop-s.s w) (lane-read _ _ st _ _ _ c.read-x.ensures refl l (omega (arith, e, below))))
    (omega (arith, e, below)) (omega (arith, below, c.requires.2)) (c.loop-s.invariant st l e w)
