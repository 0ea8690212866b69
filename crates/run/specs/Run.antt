-- What a run asks for.
use Rattle.std.specs.Prelude.{ℕ, ◌≤◌, List, length}
use Rattle.model.specs.Inputs.{N, I, F}
use Rattle.model.specs.Accepted.{ValidCircuit, ValidTest}
use Rattle.lanes.specs.Lane.{Room}
use Rattle.circuit.specs.Table.{Tables}
use Rattle.job.specs.Job.{JobOf}
use Rattle.job.specs.declared.Job.{Job}
use Rattle.unit.specs.Unit.{MaskRoom}
use Rattle.run.specs.declared.Setup.{Setup}

-- What a run of a job asks for: circuit, test and sizes, the tables of pins, flip-flops and outputs, and room for faults, inputs, lines and states.
pub record Runnable (c t : List ℕ) (job : Job) (pins flops outs hits masks feed words state : List ℕ) : Type 0 where
  pub circuit : ValidCircuit c
  pub test : ValidTest c t
  pub sizes : JobOf c t job
  pub tables : Tables c pins flops outs
  pub hit_room : N c ≤ length hits
  pub mask_room : MaskRoom masks
  pub feed_room : Room (I c) feed
  pub line_room : Room (N c) words
  pub state_room : Room (F c) state

-- the same of a setup
abbrev pub Runs : Setup → List ℕ → List ℕ → List ℕ → List ℕ → List ℕ → Type 0
Runs s hits masks feed words state = Runnable s.circuit.now s.test.now s.job s.pins.now s.flops.now s.outs.now hits masks feed words state
