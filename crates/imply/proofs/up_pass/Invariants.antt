-- The values follow, in each lane, the steps up of the lines below n.
use mathlib.Core.Path.{◌≡◌}
use mathlib.Core.List.{List}
use Prim.Native.Nat.{ℕ}
use lib.ListN.{length}
use Rattle.model.specs.Inputs.{N, Fault}
use Rattle.model.specs.Implication.{up}
use Rattle.lanes.specs.Lane.{Follows}
use Rattle.unit.specs.Unit.{Stuck}
use Rattle.imply.proofs.up_pass.Given as goal

abbrev pub invariant-loop-n : goal.invariant-loop-n
invariant-loop-n l = (t : ℕ) (f : Fault) (vs : List ℕ) → Stuck t l.given.hits.now l.given.masks.now f → length vs ≡ N l.c → Follows t l.initial.words vs → Follows t l.words (up l.c f l.n vs)
