use native.Mathlib.Omega.{arith}
use Rattle.lanes.proofs.Laws.{shows-merge}
use Rattle.lanes.proofs.Lanes.merge.Goals as goal

pub returns : goal.returns
returns c = λ t v f g. shows-merge t _ (omega arith) _ _ _ _ v (omega arith) (omega arith) f g
