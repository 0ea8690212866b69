use borrow.Author.Rules.{rules}
use Rattle.model.specs.Grade.{placed}
use Rattle.record.specs.Record.{verdict_of}
use Rattle.record.proofs.placed.Goals as goal

pub returns : goal.returns
unfolding verdict_of placed
returns c = search rules
