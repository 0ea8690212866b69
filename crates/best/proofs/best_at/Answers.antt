use Rattle.best.proofs.Turn.{inside-turn, at_none, bit-turn}
use Rattle.best.proofs.best_at.Goals as goal

pub loop-i-init : goal.loop-i-init
loop-i-init c = (λ units h inside. inside, λ cs ts f pairs o es em weights s. rw (at_none cs ts f pairs c.args.u o) s)

pub loop-i-preserved : goal.loop-i-preserved
loop-i-preserved c =
    let loop = c.loop-i in (
      λ units h before. inside-turn loop.found _ _ loop.i _ _ _ units c.args.size c.compare-found.ensures h c.loop-i-test.true (loop.invariant.0 units h before),
      λ cs ts f pairs o es em weights begin.
          bit-turn cs ts f pairs c.args.table.now c.args.size c.args.merit c.args.u loop.i o loop.found _ c.requires.1 c.loop-i-test.true es em weights c.compare-found.ensures
          (loop.invariant.1 cs ts f pairs o es em weights begin),
    )
