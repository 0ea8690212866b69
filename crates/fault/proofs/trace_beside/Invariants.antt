-- The tables begin with the rows of the units below u, the states of both lanes are their runs' at u, and no output has opposed.
use mathlib.Core.Path.{◌≡◌}
use mathlib.Core.Bool.{false}
use Prim.Native.Nat.{ℕ, ◌<◌}
use lib.ListN.{take}
use Rattle.lists.specs.Scan.{gather}
use Rattle.lists.specs.Field.{overwritten}
use Rattle.model.specs.Inputs.{Fault}
use Rattle.model.specs.Values.{some_oppose}
use Rattle.model.specs.Simulation.{no_fault, power_up, state_at, outputs_at, plain_outputs, free_outputs}
use Rattle.lanes.specs.Lane.{Lane}
use Rattle.unit.specs.Unit.{Stuck}
use Rattle.fault.proofs.trace_beside.Given as goal

abbrev pub invariant-loop-u : goal.invariant-loop-u
invariant-loop-u l =
    (f : Fault) → Stuck 0 l.given.hits.now l.given.masks.now f → Stuck 1 l.given.hits.now l.given.masks.now no_fault
    → record {
      faulty_state : Lane 0 l.state (state_at l.setup.circuit.now l.setup.test.now f (power_up l.setup.circuit.now) l.u);
      free_state : Lane 1 l.state (state_at l.setup.circuit.now l.setup.test.now no_fault (power_up l.setup.circuit.now) l.u);
      frees : l.free ≡ overwritten (gather (λ u. outputs_at l.setup.circuit.now l.setup.test.now no_fault (power_up l.setup.circuit.now) u) l.u) l.initial.free;
      shown : l.faulty ≡ overwritten (gather (λ u. outputs_at l.setup.circuit.now l.setup.test.now f (power_up l.setup.circuit.now) u) l.u) l.initial.faulty;
      plain : l.states ≡ overwritten (gather (λ u. take l.setup.job.flops (state_at l.setup.circuit.now l.setup.test.now f (power_up l.setup.circuit.now) u)) l.u) l.initial.states;
      unopposed : (v : ℕ) → v < l.u → some_oppose (free_outputs l.setup.circuit.now l.setup.test.now v) (plain_outputs l.setup.circuit.now l.setup.test.now f v) ≡ false;
    }
