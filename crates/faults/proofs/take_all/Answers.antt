use mathlib.Core.Path.{refl}
use native.Mathlib.Omega.{arith}
use Rattle.faults.proofs.Laws.{all-taken}
use Rattle.faults.proofs.take_all.Goals as goal

pub returns : goal.returns
returns c =
    all-taken refl c.store.ensures c.requires.0 (omega arith) (omega arith) (omega arith)
