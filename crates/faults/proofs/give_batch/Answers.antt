use native.Mathlib.Omega.{arith}
use Rattle.faults.proofs.Batch.{batch_none, batch_more, batch_all, named_more, blank-named}
use Rattle.faults.proofs.give_batch.Goals as goal

pub loop-t-init : goal.loop-t-init
loop-t-init c = let blank = c.requires.0 in (batch_none _ _ blank (omega arith), blank-named blank)

pub loop-t-preserved : goal.loop-t-preserved
loop-t-preserved c =
    let f = c.fault_of-f.ensures in
    let inv = c.loop-t.invariant in (
      c.give.ensures.1 _ _ (batch_more _ _ f.line f.pin f.value) inv.0,
      named_more inv.1 (omega arith) (omega arith) f.line c.give.ensures.0,
    )

pub returns : goal.returns
returns c = batch_all (omega arith) c.loop-t.invariant.0 c.loop-t.invariant.1
