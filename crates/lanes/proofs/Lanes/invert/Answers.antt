use Rattle.lanes.proofs.Laws.{shows-inv}
use Rattle.lanes.proofs.Lanes.invert.Goals as goal

pub returns : goal.returns
returns c = λ t v h. shows-inv t _ _ v h
