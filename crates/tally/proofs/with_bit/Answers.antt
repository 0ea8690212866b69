use mathlib.Core.Path.{refl}
use native.Mathlib.Omega.{arith}
use Rattle.lanes.specs.Lane.{bit}
use Rattle.lanes.proofs.Bits.{every, same}
use Rattle.tally.proofs.Words.{has_bit, has-bit}
use Rattle.tally.proofs.with_bit.Goals as goal

pub returns-in-0 : goal.returns-in-0
unfolding has_bit bit every same
returns-in-0 c = λ t h. has-bit 0 _ _ t c.in-0.is h refl

pub returns-in-1 : goal.returns-in-1
unfolding has_bit bit every same
returns-in-1 c = λ t h. has-bit 1 _ _ t c.in-1.is h refl

pub returns-in-2 : goal.returns-in-2
unfolding has_bit bit every same
returns-in-2 c = λ t h. has-bit 2 _ _ t c.in-2.is h refl

pub returns-in-3 : goal.returns-in-3
unfolding has_bit bit every same
returns-in-3 c = λ t h. has-bit 3 _ _ t c.in-3.is h refl

pub returns-in-4 : goal.returns-in-4
unfolding has_bit bit every same
returns-in-4 c = λ t h. has-bit 4 _ _ t c.in-4.is h refl

pub returns-in_default : goal.returns-in_default
unfolding has_bit bit every same
returns-in_default c = λ t h. has-bit 5 _ c.args.i t (omega arith) h refl
