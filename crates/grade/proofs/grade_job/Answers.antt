use Rattle.std.proofs.Common.{arith}
use Rattle.faults.proofs.Laws.{blank-zeros}
use Rattle.stages.proofs.Laws.{runs}
use Rattle.places.proofs.Laws.{work_room_lem}
use Rattle.grade.proofs.Laws.{gradable}
use Rattle.grade.proofs.grade_job.Goals as goal

pub write_free-requires : goal.write_free-requires
write_free-requires c =
    let pre = c.requires in
    let g = (gradable pre.0 pre.1 c.list_tables.ensures).tabled in
    (runs g (omega arith) (omega arith) (omega arith) (omega arith) (omega arith), blank-zeros 4096 2560, omega arith, work_room_lem _ _ _ pre.0.work_room)

pub grade_list-requires : goal.grade_list-requires
grade_list-requires c =
    let pre = c.requires in (
      gradable pre.0 pre.1 c.list_tables.ensures,
      c.write_free.ensures,
      blank-zeros 4096 2560,
      record { room = omega (arith, pre.2.room) },
      pre.3,
      pre.0.inputs,
      pre.0.result_room,
    )
