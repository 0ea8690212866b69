use native.Mathlib.Omega.{arith}
use Rattle.imply.proofs.Implied.{shows-implied}
use Rattle.imply.proofs.and_implies.Goals as goal

pub returns : goal.returns
returns c = λ t a p o h g k. shows-implied t _ _ a _ _ p _ _ o (omega arith) (omega arith) (omega arith) h g k
