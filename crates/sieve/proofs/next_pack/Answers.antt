use Rattle.std.proofs.Common.{◌≡◌, arith}
use Rattle.sieve.proofs.Laws.{packing_past, packing_more, packed, mark_true, mark-false}
use Rattle.sieve.proofs.next_pack.Goals as goal
use Rattle.sieve.proofs.next_pack.Goals.{then-res-j-eq0, else-res-j-eq0}

pub loop-j-preserved : goal.loop-j-preserved
loop-j-preserved c =
    let p = c.loop-j.invariant in
    let h = c.loop-j-test.true in
    elim c.if-res-j-eq0.branch [
      | then-res-j-eq0 w ↦ rw (w.few-is, w.size-is)
          (packing_more p h (mark_true _ _ w.if-res-j-eq0.true) (omega (arith, p.lanes, c.if-size-eq64.false)) w.copy_fault.ensures)
      | else-res-j-eq0 w ↦ rw (w.few-is, w.size-is) (packing_past p h (mark-false _ _ w.if-res-j-eq0.false))
    ]

pub returns : goal.returns
returns c =
    let end : c.loop-j.j ≡ c.args.most = omega arith in
    packed (rw end at c.loop-j.invariant) (λ h. h)
