use Rattle.tally.proofs.Words.{ones-counted}
use Rattle.tally.proofs.count.Goals as goal

pub returns : goal.returns
returns c = ones-counted 64 c.args.word c.ranges.word.fits
