use native.Mathlib.Omega.{arith}
use mathlib.Core.Path.{refl}
use Rattle.faults.proofs.Laws.{within-less}
use Rattle.faults.proofs.clear_rows.Goals as goal

pub loop-m-preserved : goal.loop-m-preserved
loop-m-preserved c = within-less c.loop-m.invariant refl c.store.ensures (omega arith)
