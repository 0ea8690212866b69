use native.Mathlib.Omega.{arith}
use Rattle.lists.proofs.Field.{row_fits}
use Rattle.best.proofs.Merit.{merits_more}
use Rattle.best.proofs.set_merits.Goals as goal

pub loop-u-preserved : goal.loop-u-preserved
loop-u-preserved c =
    let u = c.loop-u.u in
    let below = c.loop-u-test.true in
    merits_more c.args.units c.args.size c.args.states.now c.args.nout.now u _ c.loop-u.merits below (omega arith) c.requires.1
    (omega (arith, row_fits c.args.size u c.args.units below)) c.requires.5 c.count_x-unknown.ensures.0 c.loop-u.invariant
