use mathlib.Core.Path.{sym}
use Rattle.lanes.proofs.Laws.{read-zero, read_one, read-X}
use Rattle.lanes.proofs.Lanes.lane.Goals as goal

pub returns-then-self-t-eq1 : goal.returns-then-self-t-eq1
returns-then-self-t-eq1 c = λ v l h. sym (read-zero _ _ _ v h c.if-self-t-eq1.true)

pub returns-then-self-t-eq1-2 : goal.returns-then-self-t-eq1-2
returns-then-self-t-eq1-2 c = λ v l h. sym (read_one _ _ _ v h c.if-self-t-eq1-2.true)

pub returns : goal.returns
returns c = λ v l h. sym (read-X _ _ _ v h l c.if-self-t-eq1.false c.if-self-t-eq1-2.false)
