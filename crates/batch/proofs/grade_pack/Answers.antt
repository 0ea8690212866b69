use Rattle.std.proofs.Common.{arith}
use Rattle.stages.proofs.Laws.{runs}
use Rattle.batch.proofs.Laws.{sieved-part, packed_as, pack-faults, pack-found}
use Rattle.batch.proofs.grade_pack.Goals as goal

pub find_places-firsts-requires : goal.find_places-firsts-requires
find_places-firsts-requires c =
    let pre = c.requires in (
      runs pre.0.tabled (omega arith) (omega arith) (omega arith) (omega arith) (omega arith),
      pre.1,
      pre.2,
      omega arith,
      pack-faults (packed_as c.next_pack-pack.ensures) pre.5 (omega arith),
      omega (arith, pre.0.tabled.sizes.units),
    )

pub write_pack-requires : goal.write_pack-requires
write_pack-requires c =
    let pre = c.requires in
    let places = c.find_places-firsts.ensures in
    let of = packed_as c.next_pack-pack.ensures in
    (pre.0, pre.1, places.0, pre.3, pre.4, pre.5, pre.6, of.above, of.below, sieved-part of.below pre.8, pack-found of pre.0.tabled.sizes.units places.1)
