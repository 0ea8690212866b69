-- The counts are those of the first `n` records.
use mathlib.Core.Path.{◌≡◌}
use Rattle.listing.proofs.Totals.{counts_of}
use Rattle.listing.proofs.count_verdicts.Given as goal

abbrev pub invariant-loop-n : goal.invariant-loop-n
invariant-loop-n l = l.counts ≡ counts_of l.records l.n
