-- The line of the numbers from this one on has room at `at`, and appended there it completes the line of all of them.
use Prim.Native.Nat.{◌+◌, ◌≤◌}
use lib.ListN.{length, drop}
use Rattle.model.specs.Listing.{number_line}
use Rattle.decimals.proofs.Laws.{Completes}
use Rattle.decimals.proofs.put_line.Given as goal

abbrev pub invariant-loop-n : goal.invariant-loop-n
invariant-loop-n l = record {
  room : l.at + length (number_line (drop l.n-index l.fields)) ≤ length l.out;
  completes : Completes l.from l.at (number_line (drop l.n-index l.fields)) (number_line l.fields) l.initial.out l.out;
}
