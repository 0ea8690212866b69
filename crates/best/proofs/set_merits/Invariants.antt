-- The merits of the units below u are written.
use Rattle.best.specs.Best.{MeritsSet}
use Rattle.best.proofs.set_merits.Given as goal

abbrev pub invariant-loop-u : goal.invariant-loop-u
invariant-loop-u l = MeritsSet l.u l.size l.states l.nout l.merits
