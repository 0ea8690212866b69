use Rattle.std.proofs.Common.{◌≡◌, ◌<◌, arith}
use Rattle.weigh.proofs.Laws.{entries-turn, weighing_again}
use Rattle.weigh.proofs.weigh_start.Goals as goal

pub loop-i-preserved : goal.loop-i-preserved
loop-i-preserved c = λ cs ts f pairs stop states w last.
    let loop = c.loop-i in
    let old = loop.invariant cs ts f pairs stop states w last in
    let early : loop.i < c.args.to = omega arith in
    entries-turn cs ts f pairs _ _ c.args.from loop.i c.args.table.now loop.table _ _ _ (omega arith) (omega arith) loop.auto.table old
    (c.weigh_first.ensures.entry cs ts f pairs stop states (weighing_again w w.width old.taken) (omega arith))

pub returns : goal.returns
returns c =
    let end : c.loop-i.i ≡ c.max-end.result = omega arith in
    record { begin = omega arith; unit = λ h. omega arith; least = λ h. omega arith; entries = rw (← end) c.loop-i.invariant }
