-- The records pass row 1, so there are no more than the area has room for.
use Rattle.std.proofs.Common.{arith, refl}
use Rattle.model.proofs.Accepted.{valid_circuit}
use Rattle.job.specs.Job.{answer_of}
use Rattle.bench.proofs.convert.Goals as goal

pub write-requires : goal.write-requires
unfolding answer_of
write-requires c =
    let well_read = c.in-Ok.ensures.promise _ refl in
    omega (arith, (valid_circuit _ well_read.accepted).lines, well_read.size)
