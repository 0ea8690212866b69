use native.Mathlib.Omega.{arith}
use Rattle.lanes.proofs.Laws.{shows-stuck}
use Rattle.lanes.proofs.Lanes.stuck.Goals as goal

pub returns : goal.returns
returns c = λ t v hit s l m h. shows-stuck t _ _ v _ _ hit s (omega arith) (omega arith) (omega arith) (omega arith) l m h
