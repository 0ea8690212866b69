use Rattle.std.proofs.Common.{refl}
use Rattle.take.proofs.Tests.{meets_as}
use Rattle.take.proofs.meets_row.Goals as goal

pub returns : goal.returns
returns c = meets_as c.args.size c.args.m c.args.r c.args.extras.now c.args.table.now _ _ _ c.requires.1 c.requires.2 refl c.overlap-zero.ensures c.overlap-one.ensures
