use native.Mathlib.Omega.{arith}
use Rattle.tally.proofs.Words.{low_digit, high_digit, shows-digit}
use Rattle.tally.proofs.numbered.Goals as goal

pub returns-then-i-ge6 : goal.returns-then-i-ge6
returns-then-i-ge6 c = λ t h. rw (high_digit c.args.base t c.args.i c.requires.0 h (omega arith)) (c.all.ensures t h)

pub returns : goal.returns
returns c = λ t h.
    rw (low_digit c.args.base t c.args.i c.requires.0 (omega arith))
    (shows-digit t _ _ h (omega (arith, c.with_bit-ones.type_inv)) (omega arith) (c.with_bit-ones.ensures t h))
