-- The entries from `at` to e are written, and p pairs of the word stand before e.
use Rattle.std.proofs.Common.{◌≡◌, List, ℕ, ◌≤◌}
use Rattle.model.specs.Inputs.{F, Fault}
use Rattle.expand.specs.Expand.{pair_at, WordOf}
use Rattle.weigh.specs.Weigh.{Weighing, Entries}
use Rattle.weigh.proofs.weigh_word.Given as goal

abbrev pub invariant-loop-e : goal.invariant-loop-e
invariant-loop-e l = record {
  number : l.p ≡ pair_at l.list l.at l.e;
  entries : (c t : List ℕ) (f : Fault) (pairs : List (ℕ × ℕ)) (stop : ℕ) → Weighing c t f pairs l.count stop l.states l.list l.m l.times l.fn.extras → WordOf c t f l.list l.at l.next l.marks l.after
      → F c ≤ l.at → l.next ≤ stop → Entries c t f pairs l.m l.times l.at l.e l.fn.table l.extras l.table;
}
