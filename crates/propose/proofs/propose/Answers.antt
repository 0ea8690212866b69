use Rattle.std.proofs.Common.{arith}
use Rattle.places.proofs.Laws.{work_room_lem, faults-of}
use Rattle.propose.proofs.Laws.{records-none, chosen-first}
use Rattle.propose.proofs.propose.Goals as goal

pub run_beside-requires : goal.run_beside-requires
run_beside-requires c =
    let pre = c.requires in
    let inputs = pre.0.inputs in
    let room = pre.1 in (
      room.runs,
      room.blank,
      room.few_hits,
      faults-of inputs (omega arith) (omega (arith, inputs.enough)),
      room.pick_room.responses,
      omega (arith, work_room_lem _ _ _ pre.0.work_room),
      room.pick_room.plain.room,
    )

pub returns-then-run_beside : goal.returns-then-run_beside
returns-then-run_beside c = records-none _ _ (chosen-first _ _ _ _ (c.run_beside.ensures.1.met c.if-run_beside.true))
