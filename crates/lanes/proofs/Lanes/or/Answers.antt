use Rattle.lanes.proofs.Laws.{shows-or}
use Rattle.lanes.proofs.Lanes.or.Goals as goal

pub returns : goal.returns
returns c = λ t v ws h g. shows-or t _ _ v _ _ ws h g
