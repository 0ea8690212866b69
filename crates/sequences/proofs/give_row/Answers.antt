use mathlib.Core.Path.{◌≡◌}
use native.Mathlib.Omega.{arith}
use lib.ListN.{length}
use Rattle.sequences.proofs.Lists.{given-none, given-more, given-all, picked, picked-long}
use Rattle.sequences.proofs.give_row.Goals as goal

pub loop-s-init : goal.loop-s-init
loop-s-init c = λ lane vs new h e clear low high old. given-none lane vs new _ old

pub loop-s-preserved : goal.loop-s-preserved
loop-s-preserved c =
    let loop = c.loop-s in
    let low = c.args.low.now in
    let high = c.args.high.now in
    λ lane vs new h e clear isLow isHigh old.
    let long : length new ≡ c.args.count = picked-long lane _ _ low high new c.requires.0 c.requires.1 isLow isHigh in
    given-more lane vs new _ _ loop.s _ _ _ (omega (arith, c.loop-s-test.true)) (omega (arith, c.loop-s-test.true)) (omega (arith, c.loop-s-test.true, c.requires.2)) clear c.store.ensures c.read.ensures
    (picked lane _ low high new loop.s _ _ _ (omega (arith, c.loop-s-test.true, c.requires.0)) (omega (arith, c.loop-s-test.true, c.requires.1))
    (c.all.ensures lane h) (c.all-in-loop-s.ensures lane h) c.merge-x.ensures isLow isHigh)
    c.give-y.ensures
    (loop.invariant lane vs new h e clear isLow isHigh old)

pub returns : goal.returns
returns c = λ lane vs new h e clear isLow isHigh old.
    let loop = c.loop-s in
    let long = picked-long lane _ _ c.args.low.now c.args.high.now new c.requires.0 c.requires.1 isLow isHigh in
    given-all lane vs new _ loop.s (omega (arith, long)) (loop.invariant lane vs new h e clear isLow isHigh old)
