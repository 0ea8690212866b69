use native.Mathlib.Omega.{arith}
use Rattle.lists.proofs.Scan.{count_below-bound}
use Rattle.lanes.specs.Lane.{bit}
use Rattle.sequences.proofs.Endings.add.Goals as goal

pub overflow_add-result : goal.overflow_add-result
overflow_add-result c = let count = c.count in omega (arith, count.ensures, c.requires.0, count_below-bound (λ t. bit t c.args.ends.differing) 64)

pub overflow_add-result-2 : goal.overflow_add-result-2
overflow_add-result-2 c =
    omega (arith, c.count-2.ensures, c.requires.1, count_below-bound (λ t. bit t c.args.ends.clashing) 64)

pub overflow_add-result-3 : goal.overflow_add-result-3
overflow_add-result-3 c =
    omega (arith, c.count-3.ensures, c.requires.2, count_below-bound (λ t. bit t c.args.ends.surviving) 64)
