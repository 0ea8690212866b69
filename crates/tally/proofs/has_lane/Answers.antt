use mathlib.Core.Path.{refl}
use Rattle.lanes.specs.Lane.{bit}
use Rattle.tally.proofs.has_lane.Goals as goal

pub returns : goal.returns
unfolding bit
returns c = refl
