use Rattle.lanes.proofs.Bits.{bit-and}
use Rattle.lanes.proofs.Lanes.conflicts.Goals as goal

pub returns : goal.returns
returns c = λ t. bit-and t _ _
