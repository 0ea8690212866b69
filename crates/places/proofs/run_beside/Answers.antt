use Rattle.places.proofs.Laws.{lane_faulty, lane-free}
use Rattle.places.proofs.run_beside.Goals as goal

pub returns : goal.returns
returns c =
    (c.take_batch.ensures, c.trace_beside-opposed.ensures _ (lane_faulty c.give_batch.ensures) (lane-free c.give_batch.ensures))
