-- The test is within the area.
use Rattle.std.proofs.Common.{arith, sym}
use Rattle.model.proofs.Generate.{generated-within}
use Rattle.job.specs.Job.{answer_of}
use Rattle.random.proofs.make.Goals as goal

pub write-requires : goal.write-requires
unfolding answer_of
write-requires c = omega (arith, generated-within _ _ _ _ _ (sym c.in-Ok.ensures.answers))
