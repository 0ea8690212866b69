use Rattle.std.proofs.Common.{arith}
use Rattle.model.specs.Simulation.{no_fault, power_up}
use Rattle.model.proofs.ThreeValued.{power_up-three}
use Rattle.run.proofs.Laws.{length-power_up}
use Rattle.faults.proofs.Laws.{blank-stuck}
use Rattle.fault.proofs.Tables.{free-rows}
use Rattle.places.proofs.write_free.Goals as goal

pub returns : goal.returns
returns c =
    let cs = c.args.setup.now.circuit.now in record {
      room = omega (arith, c.requires.3, c.write_run.auto.responses);
      frees =
          free-rows cs c.args.setup.now.test.now _ _
          (c.write_run.ensures no_fault (power_up cs) (blank-stuck 0 _ _ c.requires.1 (omega arith) c.requires.2) (c.power_up.ensures 0) (length-power_up cs) (power_up-three cs)).0;
    }
