use Rattle.model.specs.Simulation.{pin_seen}
use Rattle.lanes.proofs.Laws.{lane-read}
use Rattle.unit.proofs.pin_lanes.Goals as goal

pub returns : goal.returns
unfolding pin_seen
returns c = λ t f vs s l h.
    c.seen_at.ensures t f _ _ s (lane-read t _ vs _ _ _ c.read.ensures c.pin_of-m.ensures.0 l h)
