use mathlib.Core.Path.{◌∙◌}
use native.Mathlib.Omega.{arith}
use Rattle.imply.proofs.Steps.{length_up, up_start, up_more, up-all}
use Rattle.imply.proofs.up_pass.Goals as goal

pub loop-n-init : goal.loop-n-init
loop-n-init c = λ t f vs s e h. up_start _ f t _ vs h

pub loop-n-preserved : goal.loop-n-preserved
loop-n-preserved c = λ t f vs s e h.
    let pre = c.requires in
    up_more _ f t _ vs _
    (c.up_line.ensures.lane t f _ (s.at _ (omega (arith, c.loop-n-test.true, pre.0.size, pre.0.hit_room)))
    (length_up _ f _ vs ∙ e) (c.loop-n.invariant t f vs s e h))

pub returns : goal.returns
returns c = record { lane = λ t f vs s e h. up-all _ f t _ vs _ (omega (arith, c.loop-n-test.false, c.requires.0.size)) (c.loop-n.invariant t f vs s e h) }
