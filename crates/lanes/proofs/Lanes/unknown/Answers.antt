use native.Mathlib.Omega.{arith}
use Rattle.lanes.proofs.Laws.{unknown-X, unknown-specified}
use Rattle.lanes.proofs.Lanes.unknown.Goals as goal

pub returns-then-value-gt1 : goal.returns-then-value-gt1
returns-then-value-gt1 c = λ t v low three h. unknown-X t _ v c.if-value-gt1.true

pub returns : goal.returns
returns c = λ t v low three h. unknown-specified t _ v _ _ (omega arith) (omega arith) c.if-value-gt1.false low three h
