-- Each job leaves fewer bytes.
use Rattle.std.proofs.Common.{length}
use Rattle.printing.proofs.run_jobs.Given as goal

abbrev pub decreases-loop-rest : goal.decreases-loop-rest
decreases-loop-rest g l = length l.rest
