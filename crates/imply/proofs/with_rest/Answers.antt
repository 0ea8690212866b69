use mathlib.Core.Path.{◌≡◌}
use Prim.Native.Nat.{◌-◌}
use native.Mathlib.Omega.{arith}
use Rattle.imply.proofs.Picked.{picked-past, picked_more, picked_none}
use Rattle.imply.proofs.with_rest.Goals as goal

pub loop-j-init : goal.loop-j-init
loop-j-init c = λ t vs tail h r. rw (picked_none vs c.args.i c.args.n tail) r

pub loop-j-preserved-then-j-i : goal.loop-j-preserved-then-j-i
loop-j-preserved-then-j-i c = λ t vs tail h r.
    let loop = c.loop-j in
    rw (picked_more vs c.args.i c.args.n loop.j tail c.loop-j-test.true loop.auto.j c.if-j-i.true)
    (c.combine-all.ensures t _ _ (h (loop.j - 1) (omega (arith, c.loop-j-test.true, loop.auto.j))) (loop.invariant t vs tail h r))

pub loop-j-preserved : goal.loop-j-preserved
loop-j-preserved c = λ t vs tail h r.
    let loop = c.loop-j in
    rw (picked-past vs c.args.i c.args.n loop.j tail c.loop-j-test.true loop.auto.j c.if-j-i.false) (loop.invariant t vs tail h r)

pub returns : goal.returns
returns c = λ t vs tail h r.
    let end : c.loop-j.j ≡ 0 = omega (arith, c.loop-j-test.false) in
    let whole : c.args.n - 0 ≡ c.args.n = omega arith in
    rw (end, whole) at (c.loop-j.invariant t vs tail h r)
