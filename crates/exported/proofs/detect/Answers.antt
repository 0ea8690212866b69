use native.Mathlib.Omega.{arith}
use Rattle.model.specs.Inputs.{fault_count}
use Rattle.model.specs.Simulation.{power_up}
use Rattle.lanes.proofs.Bits.{bit-all}
use Rattle.faults.specs.Given.{lane_fault}
use Rattle.faults.proofs.Laws.{blank-zeros}
use Rattle.run.proofs.Laws.{length-power_up}
use Rattle.exported.proofs.Laws.{whole_batch, given-lane, opposed-plain}
use Rattle.exported.proofs.detect.Goals as goal

pub give_batch-requires : goal.give_batch-requires
give_batch-requires c = (blank-zeros 4096 2560, whole_batch _ _ _ c.requires.0, omega arith, omega arith)

pub returns : goal.returns
returns c = λ j h.
    let s = c.args in
    let cs = s.c.now in
    opposed-plain _ _ _ _ _ _ _ _ c.requires.1.units (bit-all j h)
    (c.opposing_ever.ensures j (lane_fault s.fs.now 0 (fault_count s.fs.now) j) (power_up cs) (given-lane _ _ _ c.give_batch.ensures j h) (c.power_up.ensures j) (length-power_up cs))
