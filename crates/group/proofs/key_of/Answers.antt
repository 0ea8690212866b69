use native.Mathlib.Omega.{arith}
use Rattle.model.specs.Grade.{record_at}
use Rattle.group.proofs.key_of.Goals as goal

pub returns : goal.returns
unfolding record_at
returns c =
    let line = c.word_at-line.ensures in
    let time = c.word_at-time.ensures in
    let verdict = c.from-verdict.ensures in
    record { verdict = omega arith; time = omega (arith, time.0, time.1); sum = omega (arith, verdict, time.0, line.0) }
