-- The lines below `n` are put, each of 38 bytes at most.
use Rattle.std.proofs.Common.{◌≡◌, ◌*◌, ◌≤◌, length}
use Rattle.names.proofs.put_names.Given as goal

abbrev pub invariant-loop-n : goal.invariant-loop-n
invariant-loop-n l = (l.at ≤ 38 * l.n) × (length l.out ≡ length l.initial.out)
