-- The lanes found are those in which some output opposes at a unit below u, and the state is the run's at u.
use mathlib.Core.Path.{◌≡◌}
use mathlib.Core.List.{List}
use Prim.Native.Nat.{ℕ}
use lib.ListN.{length}
use Rattle.lists.specs.Scan.{any_below}
use Rattle.lists.specs.Field.{row_of}
use Rattle.model.specs.Inputs.{F, O, Fault}
use Rattle.model.specs.Values.{some_oppose}
use Rattle.model.specs.Simulation.{state_at, outputs_at}
use Rattle.lanes.specs.Lane.{bit, Lane}
use Rattle.unit.specs.Unit.{Stuck}
use Rattle.run.proofs.opposing_ever.Given as goal

abbrev pub invariant-loop-u : goal.invariant-loop-u
invariant-loop-u l =
    (lane : ℕ) (f : Fault) (st : List ℕ) → Stuck lane l.given.hits.now l.given.masks.now f → Lane lane l.initial.state st → length st ≡ F l.setup.circuit.now
    → Lane lane l.state (state_at l.setup.circuit.now l.setup.test.now f st l.u) × (bit lane l.found ≡ any_below (λ u. some_oppose (row_of (O l.setup.circuit.now) l.free u) (outputs_at l.setup.circuit.now l.setup.test.now f st u)) l.u)
