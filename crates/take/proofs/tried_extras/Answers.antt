use Rattle.std.proofs.Common.{arith}
use Rattle.run.proofs.Laws.{stuck-binary}
use Rattle.take.proofs.Extras.{pair_made}
use Rattle.take.proofs.tried_extras.Goals as goal

pub returns : goal.returns
returns c = record {
  rows = λ f stuck plain frees.
      let pre = c.requires in
      let run = pre.0 in
      pair_made c.args.setup.now.circuit.now c.args.setup.now.test.now f c.args.free.now c.args.states.now c.args.given.now.hits.now c.args.given.now.masks.now c.args.u c.args.i _ _ _
      (stuck-binary c.args.setup.now.circuit.now 0 _ _ f run.circuit run.hit_room (stuck 0 (omega arith))) pre.3 pre.4
      stuck plain frees c.try_pairs-marks.ensures c.next_state.ensures
      c.args.setup.now.job.flops c.args.m _ _ _ run.sizes.flops c.lane_extra.ensures c.lane_extra-2.ensures;
}
