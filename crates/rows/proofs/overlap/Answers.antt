use mathlib.Core.Path.{◌≡◌, refl}
use native.Mathlib.Omega.{arith}
use Rattle.model.specs.Sequences.{overlaps}
use Rattle.rows.proofs.Turns.{overlap_more}
use Rattle.rows.proofs.overlap.Goals as goal

pub loop-s-init : goal.loop-s-init
unfolding overlaps
loop-s-init c = refl

pub loop-s-preserved : goal.loop-s-preserved
loop-s-preserved c = overlap_more c.args.a.now c.args.b.now c.loop-s.s c.loop-s.found _ (omega arith) (omega arith) refl c.loop-s.invariant

pub returns : goal.returns
returns c =
    let end : c.loop-s.s ≡ c.args.count = omega arith in
    rw (← end) c.loop-s.invariant
