use native.Mathlib.Omega.{arith}
use Rattle.unit.proofs.Laws.{stuck-row, FlopAt, flop-at, next-none, next_more, next-all}
use Rattle.unit.proofs.next_state.Goals.{In-loop-s}
use Rattle.unit.proofs.next_state.Goals as goal

at : (c : In-loop-s) → FlopAt c.args.c.now c.args.flops.now c.loop-s.s
at c = let pre = c.requires in flop-at _ _ pre.0 pre.1 _ (omega (arith, c.loop-s-test.true, pre.2))

pub loop-s-init : goal.loop-s-init
loop-s-init c = λ t f vs s l e. next-none _ f vs t _

pub bounds-flops-s : goal.bounds-flops-s
bounds-flops-s c = (at (goal.at.bounds-flops-s c).In-loop-s).place

pub bounds-given-n : goal.bounds-given-n
bounds-given-n c = omega (arith, (at (goal.at.bounds-given-n c).In-loop-s).below, c.requires.3)

pub pin_lanes-requires : goal.pin_lanes-requires
pin_lanes-requires c =
    let pre = c.requires in
    let flop = at (goal.at.pin_lanes-requires c).In-loop-s in
    (omega (arith, flop.below, pre.0.size), omega arith, omega arith, pre.4, omega (arith, c.from-row.ensures), omega (arith, flop.fed, pre.5))

pub loop-s-preserved : goal.loop-s-preserved
loop-s-preserved c = λ t f vs s l e.
    let pre = c.requires in
    let flop = at (goal.at.loop-s-preserved c).In-loop-s in
    next_more _ f vs t _ _ _ _ c.store.ensures (omega (arith, c.loop-s-test.true, pre.2)) (omega (arith, c.loop-s-test.true, c.loop-s.auto.state, pre.6)) (c.loop-s.invariant t f vs s l e)
    (rw (← flop.line)
    (c.pin_lanes.ensures t f vs (stuck-row t _ _ f _ _ s (omega (arith, flop.below, pre.3)) c.from-row.ensures) l (omega (arith, flop.fed, e))))

pub returns : goal.returns
returns c = λ t f vs s l e. next-all _ f vs t _ _ (omega (arith, c.requires.2)) (c.loop-s.invariant t f vs s l e)
