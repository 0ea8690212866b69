-- The sum stays below the modulus.
use Rattle.std.proofs.Common.{◌<◌}
use Rattle.printing.proofs.checksum.Given as goal

abbrev pub invariant-loop-byte : goal.invariant-loop-byte
invariant-loop-byte l = l.sum < 1000000007
