use mathlib.Core.Path.{◌≡◌}
use native.Mathlib.Omega.{arith}
use Rattle.run.proofs.Laws.{loaded-more, loaded-all}
use Rattle.run.proofs.load_row.Goals as goal

pub loop-i-preserved : goal.loop-i-preserved
loop-i-preserved c = λ lane h.
    loaded-more lane _ _ _ _ _ _ _ _ _ c.store.ensures (omega (arith, c.loop-i-test.true, c.loop-i.auto.words, c.requires.1)) c.read.ensures (c.all.ensures lane h) c.merge-x.ensures
    (c.loop-i.invariant lane h)

pub returns : goal.returns
returns c = λ lane vs h is keeps.
    let end : c.loop-i.i ≡ c.args.count = omega (arith, c.loop-i-test.false) in
    loaded-all lane _ _ _ _ vs _ c.requires.0 is keeps (rw (← end) (c.loop-i.invariant lane h))
