-- The lines of the faults below `j` are appended, each of 72 bytes at most.
use mathlib.Core.Path.{◌≡◌}
use Prim.Native.Nat.{◌*◌, ◌≤◌}
use lib.ListN.{length}
use Rattle.decimals.specs.Put.{Put}
use Rattle.listing.specs.Print.{lines_below}
use Rattle.listing.proofs.put_faults.Given as goal

abbrev pub invariant-loop-j : goal.invariant-loop-j
invariant-loop-j l =
    (l.at ≤ 72 * l.j) × (length l.out ≡ length l.initial.out) × (Put 0 l.at (lines_below l.faults l.records l.groups l.j) l.initial.out l.out)
