use Rattle.std.proofs.Common.{◌<◌, arith}
use Rattle.record.proofs.Laws.{records-none}
use Rattle.batch.proofs.Laws.{sieved_as}
use Rattle.grade.proofs.Laws.{records-all, count_as, count-is}
use Rattle.grade.proofs.grade_list.Goals as goal

pub loop-from-init : goal.loop-from-init
loop-from-init c = (omega arith, c.sieve.ensures.0, c.requires.1, c.sieve.ensures.1.sieved, records-none _ _)

pub loop-from-smaller : goal.loop-from-smaller
loop-from-smaller c =
    let next = c.grade_pack-from.ensures.0.onward (count_as _ _ c.loop-from-test.true) in
    omega (arith, next, c.loop-from-test.true)

pub loop-from-preserved : goal.loop-from-preserved
loop-from-preserved c =
    let inv = c.loop-from.invariant in
    let next = c.grade_pack-from.ensures.0 in
    let done = c.grade_pack-from.ensures.1 in
    let onward : c.loop-from.from < c.grade_pack-from.result = next.onward (count_as _ _ c.loop-from-test.true) in (
      next.below,
      done.blank,
      done.stands,
      sieved_as done.behind (omega (arith, onward)) inv.3,
      done.records _ inv.4,
    )

pub returns : goal.returns
returns c =
    let inv = c.loop-from.invariant in
    let all = count-is c.args.fs.now c.loop-from.from c.loop-from-test.false in
    records-all _ _ _ _ _ _ _ _ _ (omega (arith, inv.0, all)) c.sieve.ensures.1.behind inv.4
