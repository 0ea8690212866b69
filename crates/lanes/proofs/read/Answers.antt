use mathlib.Core.Path.{refl}
use Rattle.lanes.specs.Lane.{lanes_at}
use Rattle.lanes.proofs.read.Goals as goal

pub returns : goal.returns
unfolding lanes_at
returns c = refl
