-- The entries are written up to `at`.
use Rattle.std.proofs.Common.{List, ℕ, ◌-◌, ◌≤◌}
use Rattle.model.specs.Inputs.{F, Fault}
use Rattle.take.specs.Take.{Prepared}
use Rattle.weigh.specs.Weigh.{Weighing, Entries}
use Rattle.weigh.proofs.weigh.Given as goal

abbrev pub invariant-loop-at : goal.invariant-loop-at
invariant-loop-at l = record {
  begin : l.initial.at ≤ l.at;
  within : l.at ≤ l.to;
  entries : (f : Fault) (pairs : List (ℕ × ℕ)) (stop left : ℕ) → Prepared l.setup.circuit.now l.setup.test.now l.free l.states l.list l.given.hits.now l.given.masks.now left f
      → Weighing l.setup.circuit.now l.setup.test.now f pairs (F l.setup.circuit.now) stop l.states l.list l.m l.times l.initial.extras → l.to ≤ stop
      → Entries l.setup.circuit.now l.setup.test.now f pairs l.m l.times l.initial.at l.at l.initial.table l.extras l.table;
}

abbrev pub decreases-loop-at : goal.decreases-loop-at
decreases-loop-at l = l.to - l.at
