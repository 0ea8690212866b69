-- The first n pairs of the plan are gone through, and m of them taken.
use Rattle.std.proofs.Common.{◌≤◌}
use Rattle.model.specs.Inputs.{Fault}
use Rattle.model.specs.Sequences.{taken_of}
use Rattle.sequences.specs.Ends.{Taken}
use Rattle.take.specs.Take.{Prepared}
use Rattle.take.proofs.take_pairs.Given as goal

abbrev pub invariant-loop-n : goal.invariant-loop-n
invariant-loop-n l = record {
  most : l.m ≤ l.k;
  taken : (f : Fault) → Prepared l.setup.circuit.now l.setup.test.now l.free l.states l.list l.given.hits.now l.given.masks.now l.left f → Taken l.setup.circuit.now l.setup.test.now f (taken_of l.setup.circuit.now l.setup.test.now f l.plan l.k l.n) l.m l.times l.extras;
}
