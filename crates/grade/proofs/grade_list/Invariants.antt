-- The records of the faults below `from` stand, behind them are records and marks as the sieve left them, and no lane has a fault.
use Rattle.std.proofs.Common.{◌-◌, ◌≤◌}
use Rattle.model.specs.Inputs.{fault_count, fault_at}
use Rattle.model.specs.Grade.{grade}
use Rattle.faults.specs.Given.{Blank}
use Rattle.record.specs.Record.{RecordsOf}
use Rattle.stages.specs.Stages.{Standing}
use Rattle.sieve.specs.Sieve.{Sieved}
use Rattle.grade.proofs.grade_list.Given as goal

abbrev pub invariant-loop-from : goal.invariant-loop-from
invariant-loop-from l =
    (l.from ≤ fault_count l.fs) × (Blank l.given.hits l.given.masks) × (Standing l.setup.circuit.now l.setup.test.now l.work)
    × (Sieved l.setup.circuit.now l.setup.test.now l.fs l.from (fault_count l.fs) l.res) × (RecordsOf (λ j. grade l.setup.circuit.now l.setup.test.now (fault_at l.fs j) l.plan l.k) l.from l.initial.res l.res)

abbrev pub decreases-loop-from : goal.decreases-loop-from
decreases-loop-from l = l.count - l.from
