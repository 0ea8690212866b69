-- The lanes below t have their faults of the batch, the others none; no line has a row but those that these faults name.
use Prim.Native.Nat.{◌+◌}
use Rattle.faults.specs.Given.{InRows, lane_fault, Named}
use Rattle.faults.proofs.give_batch.Given as goal

abbrev pub invariant-loop-t : goal.invariant-loop-t
invariant-loop-t l = InRows l.t l.hits l.masks (lane_fault l.fs l.from l.t) × Named l.fs l.from (l.from + l.t) l.hits
