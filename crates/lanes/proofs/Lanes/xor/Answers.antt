use Rattle.lanes.proofs.Laws.{shows-xor}
use Rattle.lanes.proofs.Lanes.xor.Goals as goal

pub returns : goal.returns
returns c = λ t v w h g. shows-xor t _ _ v _ _ w h g
