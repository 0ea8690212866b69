-- The entries from `from` to i are written.
use Rattle.std.proofs.Common.{List, ℕ, ◌≤◌}
use Rattle.model.specs.Inputs.{Fault}
use Rattle.weigh.specs.Weigh.{Weighing, Entries}
use Rattle.weigh.proofs.weigh_start.Given as goal

abbrev pub invariant-loop-i : goal.invariant-loop-i
invariant-loop-i l =
    (c t : List ℕ) (f : Fault) (pairs : List (ℕ × ℕ)) (stop : ℕ) (states : List ℕ) → Weighing c t f pairs l.count stop states l.list l.m l.times l.fn.extras → l.to ≤ stop
    → Entries c t f pairs l.m l.times l.from l.i l.fn.table l.extras l.table
