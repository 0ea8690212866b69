-- The state holds, in each lane, the next state of the flip-flops below s.
use mathlib.Core.Path.{◌≡◌}
use mathlib.Core.List.{List}
use Prim.Native.Nat.{ℕ}
use lib.ListN.{length}
use Rattle.model.specs.Inputs.{N, Fault}
use Rattle.lanes.specs.Lane.{Lane}
use Rattle.unit.specs.Unit.{Stuck}
use Rattle.unit.proofs.Laws.{next_of}
use Rattle.unit.proofs.next_state.Given as goal

abbrev pub invariant-loop-s : goal.invariant-loop-s
invariant-loop-s l = (t : ℕ) (f : Fault) (vs : List ℕ) → Stuck t l.given.hits.now l.given.masks.now f → Lane t l.words vs → length vs ≡ N l.c → Lane t l.state (next_of l.c f vs l.s)
