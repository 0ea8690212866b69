use native.Mathlib.Omega.{arith}
use Rattle.lists.proofs.Scan.{first-fails, first-lowest}
use Rattle.lanes.specs.Lane.{bit}
use Rattle.lanes.proofs.Bits.{bit-none}
use Rattle.tally.proofs.Words.{trailing_lowest}
use Rattle.tally.proofs.lowest.Goals as goal

pub returns-then-word-eq0 : goal.returns-then-word-eq0
returns-then-word-eq0 c = first-fails (λ t. bit t c.args.word) 64 (λ t h. rw (c.if-word-eq0.true, bit-none t))

pub returns : goal.returns
returns c =
    let lowest = trailing_lowest c.args.word (omega (arith, c.if-word-eq0.false)) c.ranges.word.fits in
    (first-lowest (λ t. bit t c.args.word) 64 _ lowest, lowest.below)
