-- The lanes found are those in which one of the outputs below o opposes its byte of the row.
use mathlib.Core.Path.{◌≡◌}
use mathlib.Core.List.{List}
use Prim.Native.Nat.{ℕ}
use lib.ListN.{length, take}
use Rattle.model.specs.Inputs.{N, Fault}
use Rattle.model.specs.Values.{some_oppose}
use Rattle.model.specs.Simulation.{outputs}
use Rattle.lanes.specs.Lane.{bit, Lane}
use Rattle.run.proofs.opposing.Given as goal

abbrev pub invariant-loop-o : goal.invariant-loop-o
invariant-loop-o l = (lane : ℕ) (f : Fault) (vs : List ℕ) → Lane lane l.words vs → length vs ≡ N l.c → bit lane l.found ≡ some_oppose l.row (take l.o (outputs l.c f vs))
