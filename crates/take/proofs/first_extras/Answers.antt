use Rattle.std.proofs.Common.{replicate, ◌∙◌}
use lib.ListN.{length-set, length-replicate}
use Rattle.model.specs.Values.{X}
use Rattle.take.proofs.Table.{pair-lent}
use Rattle.take.proofs.first_extras.Goals as goal

pub returns : goal.returns
returns c =
    pair-lent c.args.size c.args.m c.args.extras.now _ _ _ _ c.requires.3 (length-set (replicate c.args.size X) c.args.i 0 ∙ length-replicate c.args.size X) c.one_bit.ensures c.one_bit-2.ensures
