use Rattle.std.proofs.Common.{◌≡◌, ◌*◌, ◌<◌, ap, arith}
use Rattle.std.proofs.Math.Nat.{mul_comm}
use Rattle.lists.proofs.Field.{row_fits}
use Rattle.model.specs.Inputs.{F, Fault}
use Rattle.model.specs.Choose.{best_pairs}
use Rattle.best.specs.Best.{Picked}
use Rattle.pick.specs.Pick.{Picking}
use Rattle.pick.proofs.Laws.{none-behind, weighed_as, picked_none, all-weighed, picked_next, records-stop}
use Rattle.pick.proofs.pick_pairs.Goals as goal
use Rattle.pick.proofs.pick_pairs.Goals.{Start, After-best_pair}

-- the positions of all entries
all-entries : (c : Start) → c.args.setup.now.job.flops * c.args.reach ≡ F c.args.setup.now.circuit.now * c.args.reach
all-entries c = ap (λ n. n * c.args.reach) c.requires.0.sizes.flops

-- the next pair, or that there is none
next : (c : After-best_pair) (f : Fault)
    → Picking c.args.setup.now.circuit.now c.args.setup.now.test.now f c.args.free.now c.args.states.now c.args.list.now c.args.given.now.hits.now c.args.given.now.masks.now c.args.merits.now c.args.left c.args.reach
    → Picked c.args.setup.now.circuit.now c.args.setup.now.test.now f (best_pairs c.args.setup.now.circuit.now c.args.setup.now.test.now f c.loop-m.m) c.best_pair.result
next c f p =
    let g = c.requires.0 in
    let done = all-weighed p g.test (c.loop-m.invariant.2 f p) c.weigh.ensures c.loop-m.invariant.1 (omega (arith, c.requires.3)) in
    c.best_pair.ensures.picked _ _ f _ g.sizes.flops c.requires.1 p.worth
    (weighed_as c.args.reach g.sizes.flops done.behind) (none-behind p _)

pub loop-m-init : goal.loop-m-init
loop-m-init c = (omega arith, omega (arith, all-entries (goal.at.loop-m-init c).Start), λ f p. picked_none _ _ f c.requires.0.sizes.flops)

pub returns-in_default : goal.returns-in_default
returns-in_default c = record {
  records = λ f p.
      records-stop _ _ f ((next (goal.at.returns-in_default c).After-best_pair f p).nothing c.in_default.is) (omega arith) (c.loop-m.invariant.2 f p);
}

pub loop-m-preserved : goal.loop-m-preserved
loop-m-preserved c =
    let count = c.args.setup.now.job.flops in
    let g = c.requires.0 in
    let inv = c.loop-m.invariant in
    let own = c.touched-span.ensures in
    let below : c.in-Some.best.unit < c.args.reach = c.best_pair.ensures.inside.unit c.in-Some.best c.in-Some.is in (
      own.order,
      omega (arith, own.last, row_fits count c.in-Some.best.unit c.args.reach below, mul_comm count c.args.reach, all-entries (goal.at.loop-m-preserved c).Start),
      λ f p.
          let done = all-weighed p g.test (inv.2 f p) c.weigh.ensures inv.1 (omega (arith, c.requires.3)) in
          picked_next g.sizes.flops done ((next (goal.at.loop-m-preserved c).After-best_pair f p).found c.in-Some.best c.in-Some.is) below c.loop-m-test.true own
          (c.take_pair.ensures.next f _ p.ready done.taken) c.put_two.ensures,
    )
