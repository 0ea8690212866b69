-- The pin lines of the pairs below p are given what their lanes try.
use mathlib.Core.Path.{◌≡◌}
use mathlib.Core.List.{List}
use Prim.Native.Nat.{ℕ, ◌<◌}
use lib.ListN.{length}
use Rattle.model.specs.Inputs.{N}
use Rattle.lanes.specs.Lane.{Follows}
use Rattle.trial.specs.Trial.{tried_to}
use Rattle.trial.proofs.give_pairs.Given as goal

abbrev pub invariant-loop-p : goal.invariant-loop-p
invariant-loop-p l = (lane : ℕ) (vs : List ℕ) → lane < 64 → length vs ≡ N l.c → Follows lane l.initial.words vs → Follows lane l.words (tried_to l.c l.pairs l.p lane vs)
