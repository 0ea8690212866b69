use Rattle.std.proofs.Common.{◌-◌, arith, ◌∙◌}
use Rattle.take.proofs.Tests.{swap, touch_list, touch_turn, touch_all}
use Rattle.take.proofs.touches.Goals as goal

pub loop-q-init : goal.loop-q-init
loop-q-init c = λ cs ts f pairs low high es taken row el eh. touch_list cs ts f pairs _ _ _ taken _ _ low high es el eh _ _ row c.meets_row-found.ensures

pub loop-q-preserved : goal.loop-q-preserved
loop-q-preserved c = λ cs ts f pairs low high es taken row el eh.
    swap c.loop-q.found c.meets_pair-found.result
    ∙ touch_turn cs ts f pairs _ _ _ taken _ _ low high es el eh (c.loop-q.q - 1) c.loop-q.q _ _ (omega (arith, c.loop-q-test.true)) (omega (arith, c.loop-q-test.true)) c.meets_pair-found.ensures
    (c.loop-q.invariant cs ts f pairs low high es taken row el eh)

pub returns : goal.returns
returns c = record {
  is = λ cs ts f pairs low high es taken row el eh. touch_all cs ts f pairs _ c.loop-q.q low high _ (omega (arith, c.loop-q-test.false)) (c.loop-q.invariant cs ts f pairs low high es taken row el eh);
}
