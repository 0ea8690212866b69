-- The area begins with what the outputs below o show.
use mathlib.Core.Path.{◌≡◌}
use mathlib.Core.List.{List}
use Prim.Native.Nat.{ℕ}
use lib.ListN.{length, take}
use Rattle.lists.specs.Field.{overwritten}
use Rattle.model.specs.Inputs.{N, Fault}
use Rattle.model.specs.Accepted.{ThreeValued}
use Rattle.model.specs.Simulation.{outputs}
use Rattle.lanes.specs.Lane.{Lane}
use Rattle.run.proofs.write_outputs.Given as goal

abbrev pub invariant-loop-o : goal.invariant-loop-o
invariant-loop-o l = (f : Fault) (vs : List ℕ) → Lane l.lane l.words vs → length vs ≡ N l.c → ThreeValued vs → l.area ≡ overwritten (take l.o (outputs l.c f vs)) l.initial.area
