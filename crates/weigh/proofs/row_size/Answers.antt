use Rattle.weigh.proofs.Laws.{sized}
use Rattle.weigh.proofs.row_size.Goals as goal

pub returns : goal.returns
returns c = (sized c.args.count c.args.r c.args.extras.now _ c.requires c.specified.ensures.0, c.specified.ensures.1)
