-- Every starting state below base differs, whatever fault all lanes have.
use mathlib.Core.Path.{◌≡◌}
use mathlib.Core.Bool.{not}
use Prim.Native.Nat.{ℕ, ◌%◌, ◌<◌}
use Rattle.lists.specs.Field.{Rows}
use Rattle.model.specs.Inputs.{O, L, Fault}
use Rattle.model.specs.Simulation.{free_outputs}
use Rattle.model.specs.Starts.{differs}
use Rattle.unit.specs.Unit.{Stuck}
use Rattle.starts.proofs.Laws.{NoneBelow}
use Rattle.starts.proofs.lowest_never.Given as goal

abbrev pub invariant-loop-base : goal.invariant-loop-base
invariant-loop-base l =
    (l.base % 64 ≡ 0)
    × ((f : Fault) → ((lane : ℕ) → lane < 64 → Stuck lane l.given.hits.now l.given.masks.now f) → Rows (O l.setup.circuit.now) (L l.setup.circuit.now l.setup.test.now) l.free (free_outputs l.setup.circuit.now l.setup.test.now) → NoneBelow (λ s. not (differs l.setup.circuit.now l.setup.test.now f s)) l.base l.starts)
