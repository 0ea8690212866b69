-- One is found if the rows overlap below s.
use mathlib.Core.Path.{◌≡◌}
use lib.ListN.{take}
use Rattle.model.specs.Sequences.{overlaps}
use Rattle.rows.proofs.overlap.Given as goal

abbrev pub invariant-loop-s : goal.invariant-loop-s
invariant-loop-s l = l.found ≡ overlaps (take l.s l.a) (take l.s l.b)
