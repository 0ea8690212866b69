-- The lanes of the pairs below p are found where an output opposes.
use mathlib.Core.Path.{◌≡◌}
use mathlib.Core.List.{List}
use Prim.Native.Nat.{ℕ, ◌<◌}
use lib.ListN.{length}
use Rattle.lists.specs.Field.{row_of}
use Rattle.model.specs.Inputs.{N, O, Fault}
use Rattle.model.specs.Values.{some_oppose}
use Rattle.model.specs.Simulation.{outputs}
use Rattle.lanes.specs.Lane.{bit, Lane}
use Rattle.unit.specs.Unit.{Stuck}
use Rattle.trial.specs.Trial.{Carried}
use Rattle.trial.proofs.opposing_pairs.Given as goal

abbrev pub invariant-loop-p : goal.invariant-loop-p
invariant-loop-p l =
    (f : Fault) (vs : ℕ → List ℕ) → ((lane : ℕ) → lane < 64 → Stuck lane l.given.hits.now l.given.masks.now f) → ((lane : ℕ) → length (vs lane) ≡ N l.c)
    → Carried l.p l.pairs (λ lane v. Lane lane l.words (vs lane) → bit lane l.found ≡ some_oppose (row_of (O l.c) l.free v) (outputs l.c f (vs lane)))
