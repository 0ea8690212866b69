-- What is put never outgrows its room, which is emptied before the next is put.
use Rattle.std.proofs.Common.{◌≤◌}
use Rattle.printing.proofs.hex.Given as goal

abbrev pub invariant-loop-i : goal.invariant-loop-i
invariant-loop-i g l = l.at ≤ 4096

abbrev pub invariant-loop-byte : goal.invariant-loop-byte
invariant-loop-byte g l = l.at ≤ 4096
