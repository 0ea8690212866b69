use Rattle.std.proofs.Common.{arith}
use Rattle.model.specs.Inputs.{fault_count}
use Rattle.record.proofs.Laws.{records-none}
use Rattle.sieve.proofs.Laws.{sieved-all}
use Rattle.sieve.proofs.sieve.Goals as goal

pub loop-from-init : goal.loop-from-init
loop-from-init c = (omega arith, c.requires.2, records-none _ _)

-- a list of no fault
pub returns : goal.returns
unfolding fault_count
returns c =
    let inv = c.loop-from.invariant in
    (inv.1, sieved-all _ _ c.early_units-units.result (omega (arith, c.early_units-units.ensures, c.requires.0.sizes.units)) _ (omega (arith, inv.0, c.loop-from-test.false)) inv.2)

-- behind the last batch
pub returns-2 : goal.returns-2
unfolding fault_count
returns-2 c =
    let batch = c.sieve_batch.ensures in
    (batch.0, sieved-all _ _ c.early_units-units.result (omega (arith, c.early_units-units.ensures, c.requires.0.sizes.units)) _ (grind (arith, c.block-size.ensures.2)) (batch.1.records _ c.loop-from.invariant.2))
