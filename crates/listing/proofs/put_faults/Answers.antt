use mathlib.Core.Path.{refl}
use native.Mathlib.Omega.{arith}
use Rattle.listing.proofs.Laws.{lines_none, lines_more}
use Rattle.listing.proofs.put_faults.Goals as goal

pub loop-j-init : goal.loop-j-init
loop-j-init c = (omega arith, refl, lines_none _ _ _ _)

pub put_fault-at-requires : goal.put_fault-at-requires
put_fault-at-requires c =
    let ready = c.requires in
    let below = c.loop-j-test.true in
    (omega (arith, ready.faults, below), omega (arith, ready.recorded, below), omega (arith, ready.grouped, below), omega (arith, ready.room, below, c.loop-j.invariant.0, c.loop-j.invariant.1))

pub loop-j-preserved : goal.loop-j-preserved
loop-j-preserved c =
    let inv = c.loop-j.invariant in
    let line = c.put_fault-at.ensures in (
      omega (arith, inv.0, line.1),
      omega (arith, inv.1, c.put_fault-at.auto.out),
      lines_more _ _ _ _ inv.2 line.0,
    )
