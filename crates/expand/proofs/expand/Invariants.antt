-- The walk stands at position `at`: all pairs before it are settled.
use Rattle.std.proofs.Common.{◌*◌, ◌-◌, ◌≤◌}
use Rattle.model.specs.Inputs.{F, L, Fault}
use Rattle.expand.specs.Expand.{Before, Ready, Walked}
use Rattle.expand.proofs.expand.Given as goal

abbrev pub invariant-loop-at : goal.invariant-loop-at
invariant-loop-at l = record {
  begun : l.size ≤ l.at;
  within : l.at ≤ l.end;
  walked : (f : Fault) → Ready l.setup.circuit.now l.setup.test.now l.free l.states l.given.hits.now l.given.masks.now l.left f → Walked l.setup.circuit.now l.setup.test.now f l.at l.list l.walk;
  met : Before (L l.setup.circuit.now l.setup.test.now * F l.setup.circuit.now) l.walk;
}

abbrev pub decreases-loop-at : goal.decreases-loop-at
decreases-loop-at l = l.end - l.at
