use Rattle.lanes.specs.Lane.{stored}
use borrow.Author.Rules.{rules}
use Rattle.lanes.proofs.store.Goals as goal

pub returns : goal.returns
unfolding stored
returns c = search rules
