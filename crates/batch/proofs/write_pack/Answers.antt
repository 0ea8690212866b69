use Rattle.std.proofs.Common.{◌+◌, ◌≤◌, sym, arith, ◌∙◌}
use Rattle.batch.proofs.Laws.{kept_from, kept_more, mark_as, sieved_as, sieved-part, marks-turn}
use Rattle.batch.proofs.write_pack.Goals as goal

pub write_open-lane-requires : goal.write_open-lane-requires
write_open-lane-requires c =
    let inv = c.loop-j.invariant in
    let pre = c.requires in (
      pre.0,
      inv.stands,
      inv.blank,
      record { room = omega (arith, pre.3.room) },
      record { room = omega (arith, pre.4.room) },
      pre.5,
      omega (arith, pre.6),
      omega (arith, c.loop-j-test.true, pre.8),
      λ e. (pre.10.of _ _ (omega arith) c.loop-j-test.true (sym (mark_as inv.behind _ (omega arith)) ∙ e) inv.counted).0,
    )

pub loop-j-preserved : goal.loop-j-preserved
loop-j-preserved c =
    let j = c.loop-j.j in
    let inv = c.loop-j.invariant in
    let pre = c.requires in
    let begun : c.args.from ≤ j = omega arith in
    let h = c.loop-j-test.true in
    let done = c.write_open-lane.ensures in
    let mark = mark_as inv.behind j (omega arith) in record {
      blank = done.blank;
      stands = done.stands;
      counted = omega (arith, inv.counted, rw mark at done.next, marks-turn c.args.res.now j);
      behind = kept_more (kept_from inv.behind (j + 1) (omega arith)) done.behind;
      records = λ old r.
          done.records
          (λ e. (pre.10.of _ _ begun h (sym mark ∙ e) inv.counted).1)
          (sieved-part (omega (arith, h)) (sieved_as inv.behind begun pre.9))
          old (inv.records old r);
    }
