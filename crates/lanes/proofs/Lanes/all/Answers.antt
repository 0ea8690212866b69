use native.Mathlib.Omega.{arith}
use Rattle.lanes.proofs.Laws.{shows_0, shows_1, shows-x}
use Rattle.lanes.proofs.Lanes.all.Goals as goal

pub returns-in-0 : goal.returns-in-0
returns-in-0 c = λ t h. rw c.in-0.is (shows_0 t h)

pub returns-in-1 : goal.returns-in-1
returns-in-1 c = λ t h. rw c.in-1.is (shows_1 t h)

pub returns-in_default : goal.returns-in_default
returns-in_default c = λ t h. shows-x t _ (omega arith)
