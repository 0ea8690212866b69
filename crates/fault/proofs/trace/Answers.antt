use mathlib.Core.Path.{◌≡◌}
use Prim.Native.Nat.{◌*◌, ◌≤◌}
use native.Mathlib.Omega.{arith}
use lib.ListN.{length}
use Rattle.model.specs.Inputs.{O, L}
use Rattle.model.specs.Simulation.{power_up}
use Rattle.model.proofs.ThreeValued.{power_up-three}
use Rattle.job.proofs.Laws.{response_size}
use Rattle.run.proofs.Laws.{length-power_up}
use Rattle.fault.proofs.Tables.{rows_before, responses-behind, state-rows}
use Rattle.fault.proofs.trace.Goals.{Start}
use Rattle.fault.proofs.trace.Goals as goal

-- the size of the fault-free responses
size : (s : Start) → s.args.setup.now.job.units * s.args.setup.now.job.outputs ≡ L s.args.setup.now.circuit.now s.args.setup.now.test.now * O s.args.setup.now.circuit.now
size s = response_size s.requires.0.sizes

pub returns : goal.returns
returns c =
    let cs = c.args.setup.now.circuit.now in
    let ts = c.args.setup.now.test.now in
    let here = size (goal.at.returns c).Start in
    let fits : c.args.setup.now.job.units * c.args.setup.now.job.outputs ≤ length c.args.work.now = omega (arith, here, c.requires.2) in record {
      tables = λ f st.
          let wrote = c.write_run.ensures f (power_up cs) st (c.power_up.ensures 0) (length-power_up cs) (power_up-three cs) in record {
            frees = rows_before _ _ _ _ _ _ wrote.0 fits (omega (arith, here)) c.requires.3;
            shown = responses-behind cs ts f _ _ _ _ here fits wrote.0;
            plain = state-rows cs ts f _ _ _ c.requires.0.sizes.flops wrote.1;
          };
    }
