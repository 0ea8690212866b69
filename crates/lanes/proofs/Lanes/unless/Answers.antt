use native.Mathlib.Omega.{arith}
use Rattle.lanes.proofs.Laws.{shows-unless}
use Rattle.lanes.proofs.Lanes.unless.Goals as goal

pub returns : goal.returns
returns c = λ t v a h g. shows-unless t _ _ v _ _ a (omega arith) (omega arith) (omega arith) (omega arith) h g
