use borrow.Author.Rules.{rules}
use Rattle.record.specs.Record.{verdict_of, carrying}
use Rattle.record.proofs.counted.Goals as goal

pub returns : goal.returns
unfolding verdict_of carrying
returns c = search rules
