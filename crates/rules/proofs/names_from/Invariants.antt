-- None of the pins before pin i + 1 names too high a line.
use Rattle.std.specs.Prelude.{◌≡◌, false}
use Rattle.rules.specs.Check.{names_from}
use Rattle.rules.proofs.names_from.Given as goal

abbrev pub invariant-loop-i : goal.invariant-loop-i
invariant-loop-i l = names_from l.c l.n l.from l.i l.limit ≡ false
