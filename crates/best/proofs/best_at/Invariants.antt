-- The best so far is the best with the flip-flops of u below i.
use mathlib.Core.Path.{◌≡◌}
use mathlib.Core.List.{List}
use mathlib.Core.Option.{Option}
use Prim.Native.Nat.{ℕ, ◌+◌, ◌*◌, ◌<◌}
use Rattle.model.specs.Inputs.{F, Fault}
use Rattle.model.specs.Choose.{best_at}
use Rattle.best.specs.Weights.{Weighed, merit}
use Rattle.best.specs.Best.{Inside, Standing}
use Rattle.best.proofs.best_at.Given as goal

abbrev pub invariant-loop-i : goal.invariant-loop-i
invariant-loop-i l =
    ((units : ℕ) → l.u < units → Inside units l.size l.initial.found → Inside units l.size l.found)
    × ((c t : List ℕ) (f : Fault) (pairs : List (ℕ × ℕ)) (o : Option (ℕ × ℕ)) → l.size ≡ F c → l.merit ≡ merit c t f l.u → Weighed c t f pairs (l.size * l.u) (l.size * l.u + l.size) l.table
    → Standing c t f o l.u 0 l.initial.found → Standing c t f (best_at c t f pairs l.u l.i o) l.u l.i l.found)
