-- h is the number of the bytes before this one: with those from it on, it makes that of them all.
use Rattle.std.proofs.Common.{◌≡◌, ◌<◌, drop}
use Rattle.parts.specs.Hash.{hash_from}
use Rattle.parts.proofs.hash.Given as goal

abbrev pub invariant-loop-b : goal.invariant-loop-b
invariant-loop-b l = (l.h < 65536) × (hash_from l.h (drop l.b-index l.name) ≡ hash_from 0 l.name)
