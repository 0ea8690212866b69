-- The sequences below `base` are counted.
use mathlib.Core.Path.{◌≡◌}
use mathlib.Core.List.{List}
use Prim.Native.Nat.{ℕ, ◌%◌, ◌<◌, ◌≤◌}
use Rattle.lists.specs.Field.{Rows}
use Rattle.model.specs.Inputs.{O, L, Fault}
use Rattle.model.specs.Simulation.{free_outputs}
use Rattle.unit.specs.Unit.{Stuck}
use Rattle.sequences.specs.Ends.{Lists}
use Rattle.sequences.proofs.Blocks.{Few, CountedBelow}
use Rattle.sequences.proofs.count_endings.Given as goal

abbrev pub invariant-loop-base : goal.invariant-loop-base
invariant-loop-base l =
    (l.base ≤ l.total) × (l.base < l.total → (l.base % 64 ≡ 0) × Few l.base l.found)
    × ((f : Fault) (pairs : List (ℕ × ℕ)) → ((lane : ℕ) → lane < 64 → Stuck lane l.given.hits.now l.given.masks.now f) → Rows (O l.setup.circuit.now) (L l.setup.circuit.now l.setup.test.now) l.free (free_outputs l.setup.circuit.now l.setup.test.now) → Lists l.setup.circuit.now l.setup.test.now f pairs l.m l.list l.times l.extras
    → CountedBelow l.setup.circuit.now l.setup.test.now f pairs l.base l.found)
