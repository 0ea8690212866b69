-- The records and marks of the faults below `from` are written, and no lane has a fault.
use Rattle.std.proofs.Common.{◌≤◌}
use Rattle.model.specs.Inputs.{fault_at}
use Rattle.faults.specs.Given.{Blank}
use Rattle.record.specs.Record.{RecordsOf}
use Rattle.sieve.specs.Sieve.{early}
use Rattle.sieve.proofs.sieve.Given as goal

abbrev pub invariant-loop-from : goal.invariant-loop-from
invariant-loop-from l =
    (l.from ≤ l.count) × (Blank l.given.hits l.given.masks) × (RecordsOf (λ j. early l.setup.circuit.now l.setup.test.now l.units (fault_at l.fs j)) l.from l.initial.res l.res)
