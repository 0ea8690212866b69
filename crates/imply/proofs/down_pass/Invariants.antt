-- In each lane the words follow values from which the pass has still to go down from line n - 1.
use mathlib.Core.Path.{◌≡◌}
use mathlib.Core.List.{List}
use Prim.Native.Nat.{ℕ}
use lib.ListN.{length}
use Rattle.model.specs.Inputs.{N, Fault}
use Rattle.lanes.specs.Lane.{Follows}
use Rattle.unit.specs.Unit.{Stuck}
use Rattle.imply.proofs.Pins.{Below}
use Rattle.imply.proofs.down_pass.Given as goal

abbrev pub invariant-loop-n : goal.invariant-loop-n
invariant-loop-n l = (t : ℕ) (f : Fault) (vs : List ℕ) → Stuck t l.given.hits.now l.given.masks.now f → length vs ≡ N l.c → Follows t l.initial.words vs → Below l.c f t l.n l.words vs
