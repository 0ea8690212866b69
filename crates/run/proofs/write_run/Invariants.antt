-- The two tables begin with the rows of the units below u, and the state is the run's at u.
use mathlib.Core.Path.{◌≡◌}
use mathlib.Core.List.{List}
use Prim.Native.Nat.{ℕ}
use lib.ListN.{length, take}
use Rattle.lists.specs.Scan.{gather}
use Rattle.lists.specs.Field.{overwritten}
use Rattle.model.specs.Inputs.{F, Fault}
use Rattle.model.specs.Accepted.{ThreeValued}
use Rattle.model.specs.Simulation.{state_at, outputs_at}
use Rattle.lanes.specs.Lane.{Lane}
use Rattle.unit.specs.Unit.{Stuck}
use Rattle.run.proofs.write_run.Given as goal

abbrev pub invariant-loop-u : goal.invariant-loop-u
invariant-loop-u l =
    (f : Fault) (st : List ℕ) → Stuck l.lane l.given.hits.now l.given.masks.now f → Lane l.lane l.initial.state st → length st ≡ F l.setup.circuit.now → ThreeValued st
    → Lane l.lane l.state (state_at l.setup.circuit.now l.setup.test.now f st l.u) × (l.responses ≡ overwritten (gather (λ u. outputs_at l.setup.circuit.now l.setup.test.now f st u) l.u) l.initial.responses) × (l.states ≡ overwritten (gather (λ u. take l.bits (state_at l.setup.circuit.now l.setup.test.now f st u)) l.u) l.initial.states)
