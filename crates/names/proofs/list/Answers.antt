-- Nothing is held in tables of zeros, and what an accepted text leaves there can be listed.
use Rattle.std.proofs.Common.{refl}
use Rattle.job.specs.Job.{answer_of}
use Rattle.lookup.proofs.Laws.{none-held}
use Rattle.names.proofs.Laws.{accepted-named}
use Rattle.names.proofs.list.Goals as goal

pub inspect-requires : goal.inspect-requires
inspect-requires c = (none-held _, refl)

pub write-requires : goal.write-requires
unfolding answer_of
write-requires c = accepted-named c.in-Ok.ensures refl
