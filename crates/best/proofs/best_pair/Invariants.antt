-- The best so far is the best over the units below u.
use mathlib.Core.Path.{◌≡◌}
use mathlib.Core.List.{List}
use Prim.Native.Nat.{ℕ, ◌*◌}
use Rattle.model.specs.Inputs.{F, Fault}
use Rattle.model.specs.Choose.{best_below}
use Rattle.best.specs.Weights.{Weighed}
use Rattle.best.specs.Best.{Merits, Inside, Standing}
use Rattle.best.proofs.best_pair.Given as goal

abbrev pub invariant-loop-u : goal.invariant-loop-u
invariant-loop-u l =
    Inside l.units l.size l.found
    × ((c t : List ℕ) (f : Fault) (pairs : List (ℕ × ℕ)) → l.size ≡ F c → Merits c t f l.units l.merits → Weighed c t f pairs 0 (l.size * l.units) l.table → Standing c t f (best_below c t f pairs l.u) l.u 0 l.found)
