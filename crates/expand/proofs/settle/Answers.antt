use Rattle.std.proofs.Common.{◌≡◌, arith, length, sym, ◌∙◌}
use Rattle.pending.proofs.Laws.{test-number, number-most}
use Rattle.expand.specs.Expand.{is_x}
use Rattle.expand.proofs.Word.{pair-none, pair_turn, pair-lower, pair-upto}
use Rattle.expand.proofs.settle.Goals as goal

pub loop-e-init : goal.loop-e-init
loop-e-init c = record { met = λ n h old. old; number = sym (pair-none _ _); settled = λ cs ts f stop s room old. old }

pub settle_at-reached-requires : goal.settle_at-reached-requires
settle_at-reached-requires c =
    let inv = c.loop-e.invariant in
    let pre = c.requires in
    let below = c.loop-e-test.true in
    let begun = c.loop-e.auto.e in
    let same : length c.loop-e.list ≡ length c.args.list.now = c.loop-e.auto.list in (
      omega (arith, below, pre.0),
      (λ x.
          let low = pair-lower c.args.states.now c.args.at c.loop-e.e c.args.next begun below x in
          let room = pre.4 c.loop-e.e begun below x in (
            omega (arith, inv.number, low, pre.1),
            omega (arith, inv.number, low, pre.1, pre.2),
            rw inv.number room.0,
            rw inv.number room.1,
            rw (inv.number, same) room.2,
          )),
      pre.5,
      omega (arith, pre.6),
    )

pub overflow_add-p : goal.overflow_add-p
overflow_add-p c =
    let inv = c.loop-e.invariant in
    omega (arith, inv.number, pair-upto c.args.states.now c.args.at c.loop-e.e c.args.next c.loop-e.auto.e (omega arith), c.requires.1, c.from-p.ensures, number-most)

pub loop-e-preserved : goal.loop-e-preserved
unfolding is_x
loop-e-preserved c =
    let inv = c.loop-e.invariant in
    let below = c.loop-e-test.true in record {
      met = λ n h old. c.settle_at-reached.ensures.met n (omega arith) (inv.met n h old);
      number = rw (c.from-p.ensures ∙ test-number _, inv.number) (sym (pair_turn c.args.states.now c.args.at c.loop-e.e c.loop-e.auto.e));
      settled = λ cs ts f stop s room old.
          c.settle_at-reached.ensures.walked cs ts f stop _ _ s c.loop-e.auto.e below inv.number (omega (arith, room, c.loop-e.auto.list)) (inv.settled cs ts f stop s room old);
    }

pub returns-clause-walked : goal.returns-clause-walked
returns-clause-walked c = λ cs ts f stop s room old.
    let end : c.loop-e.e ≡ c.args.next = omega arith in
    rw (← end) (c.loop-e.invariant.settled cs ts f stop s room old)
