use native.Mathlib.Omega.{arith}
use lib.ListN.{length}
use Rattle.lists.proofs.Field.{part-row}
use Rattle.model.specs.Inputs.{O, inputs_at}
use Rattle.model.specs.Simulation.{line_values}
use Rattle.model.proofs.Runs.{length-line_values}
use Rattle.run.proofs.Laws.{RowRoom, row_room}
use Rattle.sequences.proofs.pass_unit.Goals.{Start}
use Rattle.sequences.proofs.pass_unit.Goals as goal

-- row u of the responses
responses : (s : Start) → RowRoom s.args.setup.now.job.outputs s.args.u (length s.args.free.now)
responses s = let run = s.requires.0 in row_room _ _ _ _ _ _ _ run.test run.sizes run.sizes.outputs run.circuit.outputs s.requires.2 (omega (arith, s.requires.1, run.sizes.units))

pub returns : goal.returns
returns c =
    let cs = c.args.setup.now.circuit.now in
    let fed = inputs_at cs c.args.setup.now.test.now c.args.u in
    record {
      lane = λ lane f st s l e.
          let values = c.values_at.ensures lane f st s l e in (
            c.next_state.ensures lane f (line_values cs f fed st) s values (length-line_values cs f fed st),
            rw (← (part-row c.args.free.now c.args.setup.now.job.outputs (O cs) c.args.u c.requires.0.sizes.outputs)) (c.opposing-found.ensures lane f (line_values cs f fed st) s values (length-line_values cs f fed st)),
          );
    }
