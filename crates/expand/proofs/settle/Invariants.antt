-- The walk stands at position e, and p pairs of the word are settled.
use Rattle.std.proofs.Common.{◌≡◌, List, ℕ, ◌*◌, ◌≤◌, length}
use Rattle.model.specs.Inputs.{F, L, Fault}
use Rattle.expand.specs.Expand.{pair_at, Before, Settling, Walked}
use Rattle.expand.proofs.settle.Given as goal

abbrev pub invariant-loop-e : goal.invariant-loop-e
invariant-loop-e l = record {
  met : (n : ℕ) → l.next ≤ n → Before n l.fn.walk → Before n l.reached;
  number : l.p ≡ pair_at l.states l.at l.e;
  settled : (c t : List ℕ) (f : Fault) (stop : ℕ) → Settling c t f l.size stop l.states l.pairs l.at l.next l.marks l.after → L c t * F c ≤ length l.fn.list → Walked c t f l.at l.fn.list l.fn.walk
      → Walked c t f l.e l.list l.reached;
}
