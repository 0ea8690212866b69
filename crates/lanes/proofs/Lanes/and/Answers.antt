use Rattle.lanes.proofs.Laws.{shows-and}
use Rattle.lanes.proofs.Lanes.and.Goals as goal

pub returns : goal.returns
returns c = λ t v w h g. shows-and t _ _ v _ _ w h g
