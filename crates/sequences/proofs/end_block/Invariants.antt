-- Each lane goes on at unit u, in a state from which it ends as from unit 0, or its end is told.
use mathlib.Core.List.{List}
use Prim.Native.Nat.{ℕ, ◌+◌}
use Rattle.lists.specs.Field.{Rows}
use Rattle.model.specs.Inputs.{O, L, Fault}
use Rattle.model.specs.Simulation.{free_outputs}
use Rattle.unit.specs.Unit.{Stuck}
use Rattle.sequences.specs.Ends.{Lists}
use Rattle.sequences.proofs.Units.{LaneAt}
use Rattle.sequences.proofs.end_block.Given as goal

abbrev pub invariant-loop-u : goal.invariant-loop-u
invariant-loop-u l =
    (lane : ℕ) (f : Fault) (pairs : List (ℕ × ℕ)) → Stuck lane l.given.hits.now l.given.masks.now f → Rows (O l.setup.circuit.now) (L l.setup.circuit.now l.setup.test.now) l.free (free_outputs l.setup.circuit.now l.setup.test.now) → Lists l.setup.circuit.now l.setup.test.now f pairs l.m l.list l.times l.extras
    → LaneAt l.setup.circuit.now l.setup.test.now f pairs (l.base + lane) l.u lane l.wanted l.state l.ends
