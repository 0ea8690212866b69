use native.Mathlib.Omega.{arith}
use Prim.Native.Nat.{◌-◌, ◌/◌}
use Rattle.model.specs.Values.{X}
use Rattle.lanes.proofs.Laws.{shows-x, shows-single}
use Rattle.imply.proofs.Picked.{picked-behind, picked_before, none-other}
use Rattle.imply.proofs.others.Goals as goal

pub returns-then-this-eq1 : goal.returns-then-this-eq1
returns-then-this-eq1 g c = λ t vs e few h. rw (none-other vs c.args.i (c.args.k / 2) (omega arith) (omega arith) (omega arith)) (shows-x t X (omega arith))

pub returns-then-i : goal.returns-then-i
returns-then-i g c = λ t vs e few h.
    let half = c.args.k / 2 in
    let same = rw e at (picked-behind vs c.args.i (omega arith) (omega arith)) in
    rw (← same) (c.with_rest.ensures t vs _ (λ j l. h j (omega arith)) (shows-single t _ _ _ (h (g.row.P - 1) (omega arith)) half (omega arith) (omega arith)))

pub returns : goal.returns
returns g c = λ t vs e few h.
    let half = c.args.k / 2 in
    let same = rw e at (picked_before vs c.args.i (omega arith) (omega arith) (omega arith)) in
    rw (← same) (c.with_rest-2.ensures t vs _ (λ j l. h j (omega arith)) (shows-single t _ _ _ (h (g.row.P - 2) (omega arith)) half (omega arith) (omega arith)))
