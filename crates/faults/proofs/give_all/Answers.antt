use mathlib.Core.Path.{refl}
use native.Mathlib.Omega.{arith}
use Rattle.faults.proofs.Laws.{all-only, all-stuck}
use Rattle.faults.proofs.give_all.Goals as goal

pub returns : goal.returns
returns c =
    let blank = c.requires.0 in (
      all-only _ refl c.store.ensures blank,
      all-stuck _ refl c.store.ensures blank (omega arith) (omega arith) (omega arith) (omega arith) c.all.ensures,
    )
