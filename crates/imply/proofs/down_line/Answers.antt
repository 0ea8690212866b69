use mathlib.Core.Path.{refl}
use native.Mathlib.Omega.{arith}
use Rattle.imply.proofs.Pins.{down-other, no-gate}
use Rattle.imply.proofs.down_line.Goals as goal

pub returns-then-k-lt2 : goal.returns-then-k-lt2
returns-then-k-lt2 c = record { lane = λ t f vs s e old. rw (down-other _ f vs _ (no-gate _ _ _ (c.field-k.ensures.kind refl) (omega (arith, c.if-k-lt2.true)))) old }
