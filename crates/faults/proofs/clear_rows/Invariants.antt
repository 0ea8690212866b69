-- The masks are blank but for the places from m to the end of row `count`.
use Prim.Native.Nat.{◌+◌, ◌*◌}
use Rattle.faults.specs.Given.{Within}
use Rattle.faults.proofs.clear_rows.Given as goal

abbrev pub invariant-loop-m : goal.invariant-loop-m
invariant-loop-m l = Within l.m (5 * (l.count + 1)) l.masks
