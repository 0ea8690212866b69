use mathlib.Core.Path.{◌≡◌, ◌∙◌}
use Prim.Native.Nat.{◌-◌}
use native.Mathlib.Omega.{arith}
use Rattle.model.specs.Implication.{down}
use Rattle.imply.proofs.Pins.{length-down_line, down_turn}
use Rattle.imply.proofs.down_pass.Goals as goal

pub loop-n-init : goal.loop-n-init
loop-n-init c = λ t f vs s e old. record { values = vs; long = e; same = rw c.requires.size; follows = old }

pub loop-n-preserved : goal.loop-n-preserved
loop-n-preserved c = λ t f vs s e old.
    let loop = c.loop-n in
    let pre = c.requires in
    let before = loop.invariant t f vs s e old in
    record {
      values = _;
      long = length-down_line _ f _ _ ∙ before.long;
      same = before.same ∙ down_turn _ f _ _ _ (omega (arith, c.loop-n-test.true));
      follows = c.down_line.ensures.lane t f _ (s.at (loop.n - 1) (omega (arith, loop.auto.n, c.loop-n-test.true, pre.size, pre.hit_room))) before.long before.follows;
    }

pub returns : goal.returns
unfolding down
returns c =
    let end : c.loop-n.n ≡ 0 = omega (arith, c.loop-n-test.false) in
    record { lane = λ t f vs s e old. let last = c.loop-n.invariant t f vs s e old in rw (last.same, end) last.follows }
