-- `found` is the lowest line from `at` on that has the name, if one has it, and the chain of the name's hash goes on at the line before `at`.
use Rattle.lookup.proofs.Chain.{Sought}
use Rattle.lookup.proofs.find.Given as goal

abbrev pub invariant-loop-at : goal.invariant-loop-at
invariant-loop-at l = Sought l.text l.wanted l.count l.at l.found

abbrev pub decreases-loop-at : goal.decreases-loop-at
decreases-loop-at l = l.at
