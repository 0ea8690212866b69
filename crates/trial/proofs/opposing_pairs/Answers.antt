use mathlib.Core.Path.{◌≡◌}
use native.Mathlib.Omega.{arith}
use lib.ListN.{length}
use Rattle.trial.proofs.opposing_pairs.Goals as goal

pub loop-p-preserved : goal.loop-p-preserved
loop-p-preserved c = λ f vs s e. c.opposing_pair-found.ensures f vs s e (c.loop-p.invariant f vs s e)

pub returns : goal.returns
returns c = λ f vs s e.
    let loop = c.loop-p in
    let end : loop.p ≡ length c.args.pairs.now = omega arith in
    rw (← end) (loop.invariant f vs s e)
