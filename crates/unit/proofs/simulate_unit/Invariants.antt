-- The words hold, in each lane, the values of the lines below n.
use mathlib.Core.Path.{◌≡◌}
use mathlib.Core.List.{List}
use Prim.Native.Nat.{ℕ}
use lib.ListN.{length}
use Rattle.model.specs.Inputs.{I, F, Fault}
use Rattle.model.specs.Simulation.{values_below}
use Rattle.lanes.specs.Lane.{Lane}
use Rattle.unit.specs.Unit.{Stuck}
use Rattle.unit.proofs.simulate_unit.Given as goal

abbrev pub invariant-loop-n : goal.invariant-loop-n
invariant-loop-n l =
    (t : ℕ) (f : Fault) (ins st : List ℕ) → Stuck t l.given.hits.now l.given.masks.now f → Lane t l.inputs ins → length ins ≡ I l.c → Lane t l.state st → length st ≡ F l.c → Lane t l.words (values_below l.c f ins st l.n)
