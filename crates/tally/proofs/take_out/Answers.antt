use Rattle.lanes.proofs.Bits.{bit-but}
use Rattle.tally.proofs.take_out.Goals as goal

pub returns : goal.returns
returns c = λ t. bit-but t _ _ c.ranges.word.fits c.ranges.other.fits
