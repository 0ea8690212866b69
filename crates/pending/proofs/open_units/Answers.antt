use mathlib.Core.Path.{◌≡◌, sym, ◌∙◌}
use Prim.Native.Nat.{◌+◌, ◌-◌}
use native.Mathlib.Omega.{arith}
use Rattle.pending.proofs.Laws.{nout-later}
use Rattle.pending.proofs.open_units.Goals as goal

pub returns-then-table-u-eq0 : goal.returns-then-table-u-eq0
returns-then-table-u-eq0 c = λ cs ts f all at.
    let loop = c.loop-u in
    let below = c.loop-u-test.true in record {
      most = omega (arith, below, all);
      above = λ v h. rw (← at v (omega (arith, all))) (loop.invariant v h);
      zero = λ v h l.
          let far : loop.u + (v - loop.u) ≡ v = omega arith in
          rw far at (nout-later cs ts f loop.u (v - loop.u) (omega arith) (sym (at loop.u (omega (arith, below, all))) ∙ c.if-table-u-eq0.true));
    }
