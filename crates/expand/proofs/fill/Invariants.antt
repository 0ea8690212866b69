-- The positions from `at` to e are in the word, those of them whose bits are X.
use Rattle.expand.specs.Expand.{Filled}
use Rattle.expand.proofs.fill.Given as goal

abbrev pub invariant-loop-e : goal.invariant-loop-e
invariant-loop-e l = Filled l.size l.states l.pairs l.at l.e l.count
