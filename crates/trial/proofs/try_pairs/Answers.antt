use Prim.Native.Nat.{◌/◌, ◌%◌}
use Rattle.model.specs.Implication.{implied, implied_at}
use Rattle.model.specs.Simulation.{plain_values}
use Rattle.lanes.proofs.Follows.{follows-start}
use Rattle.run.proofs.Laws.{stuck-binary}
use Rattle.trial.specs.Trial.{pair_of}
use Rattle.trial.proofs.Laws.{input_size, state-size, plain_lane, plain-clear, length-plain, length-given, length-implied, lane-marked, unmarked-clear, tried-all}
use Rattle.trial.proofs.try_pairs.Goals as goal

pub returns : goal.returns
unfolding implied_at implied
returns c = record {
  lane = λ f s rows free lane h l.
      let run = c.requires.0 in
      let cs = c.args.setup.now.circuit.now in
      let ts = c.args.setup.now.test.now in
      let v = (pair_of c.args.pairs.now (lane / 2)).unit in
      let i = (pair_of c.args.pairs.now (lane / 2)).bit in
      let early = c.requires.1.unit (lane / 2) h in
      let binary = stuck-binary cs _ _ _ f run.circuit run.hit_room (s lane l) in
      let stands = c.load_pairs.ensures.pair lane h l in
      let lanes = rw (plain_lane cs ts c.args.states.now f v (rows v early)) at (c.simulate_unit.ensures lane f _ _ (s lane l) stands.fed (input_size cs ts v run.test early) stands.kept (state-size cs ts f v _ (rows v early))) in
      let size = length-plain cs ts f v in
      let tried = rw (tried-all cs c.args.pairs.now _ lane (plain_values cs ts f v) h) at (c.give_pairs.ensures lane (plain_values cs ts f v) l size (follows-start lane _ _ (plain-clear cs ts f v run.test binary) lanes)) in
      let met = c.imply-clashing.ensures.lane lane f _ (s lane l) (length-given cs ts f v i (lane % 2)) tried in
      let opposed = (c.opposing_pairs-opposing.ensures f (λ lane. implied_at cs ts f ((pair_of c.args.pairs.now (lane / 2)).unit) ((pair_of c.args.pairs.now (lane / 2)).bit) (lane % 2)) s (λ lane. length-implied cs ts f _ _ _)).pair lane h l in (
        lane-marked cs ts f v i (lane % 2) lane _ _ _ (free v early) met.1 (λ e. opposed (met.0.holds e)),
        λ e. met.0.holds (unmarked-clear cs ts f v i (lane % 2) e),
      );
}
