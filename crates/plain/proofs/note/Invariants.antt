-- The place is noted for the new lanes below t.
use Rattle.plain.proofs.Noted.{NotedBelow}
use Rattle.plain.proofs.note.Given as goal

abbrev pub invariant-loop-t : goal.invariant-loop-t
invariant-loop-t l = NotedBelow l.new l.u l.line l.t l.initial.times l.initial.lines l.times l.lines
