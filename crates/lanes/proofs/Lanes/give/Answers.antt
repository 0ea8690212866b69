use Rattle.lanes.proofs.Laws.{given, conflict-stays}
use Rattle.lanes.proofs.Lanes.give.Goals as goal

pub returns : goal.returns
returns c = (λ t v w a b h g. given t _ _ v w a b h g, λ t h. conflict-stays t _ _ h)
