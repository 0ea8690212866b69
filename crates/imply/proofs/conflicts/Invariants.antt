-- The lanes found are those that hold a conflict at some place below n.
use Rattle.imply.proofs.Steps.{FoundBelow}
use Rattle.imply.proofs.conflicts.Given as goal

abbrev pub invariant-loop-n : goal.invariant-loop-n
invariant-loop-n l = FoundBelow l.words l.n l.found
