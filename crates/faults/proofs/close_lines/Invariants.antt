-- No line has a row but those that the faults from number j on name.
use Prim.Native.Nat.{◌+◌}
use Rattle.faults.specs.Given.{Named}
use Rattle.faults.proofs.close_lines.Given as goal

abbrev pub invariant-loop-j : goal.invariant-loop-j
invariant-loop-j l = Named l.fs l.j (l.from + l.count) l.hits
