use mathlib.Core.Path.{refl}
use native.Mathlib.Omega.{arith}
use Rattle.lists.specs.Field.{overwritten}
use Rattle.lists.proofs.Field.{row_more, row-all}
use Rattle.model.specs.Values.{X}
use Rattle.model.specs.Implication.{where_x}
use Rattle.lanes.proofs.Laws.{lane-read}
use Rattle.rows.proofs.Turns.{extra-at, length-extra}
use Rattle.rows.proofs.extra_row.Goals as goal

pub loop-s-init : goal.loop-s-init
unfolding overwritten
loop-s-init c = λ st l e w. refl

pub loop-s-preserved : goal.loop-s-preserved
loop-s-preserved c = λ st l e w.
    let loop = c.loop-s in
    let pre = c.requires in
    let below = c.loop-s-test.true in
    let value = c.lane-value.ensures _ (omega (arith, w.at loop.s)) (lane-read _ _ st _ _ _ c.read.ensures refl l (omega (arith, e, below))) in
    row_more (where_x _ st) _ _ _ _ _ X refl (extra-at _ st _ _ _ _ below pre.0 e value c.if_x.ensures) (rw (length-extra _ st _ pre.0 e) below) (omega (arith, below, pre.3)) (loop.invariant st l e w)

pub returns : goal.returns
returns c = λ st l e w.
    let loop = c.loop-s in
    row-all (where_x _ st) _ _ loop.s (rw (length-extra _ st _ c.requires.0 e) (omega arith)) (loop.invariant st l e w)
