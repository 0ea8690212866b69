use lib.Seq.{length-take-le}
use Rattle.lists.specs.Field.{overwritten}
use Rattle.rows.proofs.copy_row.Goals as goal

pub returns : goal.returns
unfolding overwritten
returns c = rw (c.copy_from_slice.ensures.after, length-take-le _ _ c.requires.0)
