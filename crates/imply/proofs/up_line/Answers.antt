use mathlib.Core.Path.{refl}
use native.Mathlib.Omega.{arith}
use Rattle.imply.proofs.Steps.{up_none}
use Rattle.imply.proofs.up_line.Goals as goal

pub returns-then-k-lt2 : goal.returns-then-k-lt2
returns-then-k-lt2 c = record {
  lane = λ t f vs s e h. up_none t _ f _ vs _ (omega (arith, c.field-k.ensures.kind refl, c.if-k-lt2.true)) h;
}
