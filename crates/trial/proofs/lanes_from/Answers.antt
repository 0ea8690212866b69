use mathlib.Core.Path.{◌∙◌}
use Rattle.lanes.proofs.Bits.{bit-all}
use Rattle.trial.proofs.Laws.{from-pair}
use Rattle.trial.proofs.lanes_from.Goals as goal

pub returns : goal.returns
returns c = λ t h. c.take_out.ensures t ∙ rw (bit-all t h, c.first_lanes.ensures t h) (from-pair _ t)
