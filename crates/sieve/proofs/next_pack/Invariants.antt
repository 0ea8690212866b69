-- The pack has the open faults below j, and room for one more in each turn.
use Rattle.sieve.proofs.Laws.{Packing}
use Rattle.sieve.proofs.next_pack.Given as goal

abbrev pub invariant-loop-j : goal.invariant-loop-j
invariant-loop-j l = Packing l.fs l.res l.from l.most l.few l.size l.j
