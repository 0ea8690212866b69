use native.Mathlib.Omega.{arith}
use Rattle.lanes.proofs.Laws.{opposing_0, opposing_1, opposing_X}
use Rattle.lanes.proofs.Lanes.opposing.Goals as goal

pub returns-in-0 : goal.returns-in-0
returns-in-0 c = λ t v h. opposing_0 t _ _ v _ h c.in-0.is

pub returns-in-1 : goal.returns-in-1
returns-in-1 c = λ t v h. opposing_1 t _ _ v _ h c.in-1.is

pub returns-in_default : goal.returns-in_default
returns-in_default c = λ t v h. opposing_X t v _ (omega arith)
