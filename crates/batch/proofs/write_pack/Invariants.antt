-- The records of the faults below j stand, what is behind them is as it was, and `lane` counts the marks that were there from `from` on.
use Rattle.std.proofs.Common.{◌≡◌, ◌+◌, List, ℕ}
use Rattle.model.specs.Inputs.{fault_at}
use Rattle.model.specs.Grade.{grade}
use Rattle.faults.specs.Given.{Blank}
use Rattle.record.specs.Record.{RecordsOf}
use Rattle.stages.specs.Stages.{Standing}
use Rattle.sieve.specs.Sieve.{marks_below}
use Rattle.batch.specs.Batch.{SameFrom}
use Rattle.batch.proofs.write_pack.Given as goal

abbrev pub invariant-loop-j : goal.invariant-loop-j
invariant-loop-j l = record {
  blank : Blank l.given.hits l.given.masks;
  stands : Standing l.setup.circuit.now l.setup.test.now l.work;
  counted : marks_below l.initial.res l.from + l.lane ≡ marks_below l.initial.res l.j;
  behind : SameFrom l.j l.initial.res l.res;
  records : (old : List ℕ) → RecordsOf (λ j. grade l.setup.circuit.now l.setup.test.now (fault_at l.fs j) l.plan l.k) l.from old l.initial.res
      → RecordsOf (λ j. grade l.setup.circuit.now l.setup.test.now (fault_at l.fs j) l.plan l.k) l.j old l.res;
}
