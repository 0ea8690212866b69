-- Room for the job of a call of Choose.
use Rattle.std.specs.Prelude.{List, ℕ, ◌<◌, ◌≤◌, length}
use Rattle.model.specs.Inputs.{L}
use Rattle.job.specs.declared.Job.{Job}
use Rattle.run.specs.declared.Setup.{Setup}
use Rattle.run.specs.Run.{Runnable}
use Rattle.faults.specs.Given.{Blank}
use Rattle.pick.specs.Pick.{PickRoom}

-- What a call works in: tables and room for a run, with no fault in any lane; Nout of every unit and behind the last; and what picking is lent.
pub record Workable (c t : List ℕ) (job : Job) (pins flops outs hits masks feed words state free states list nout merits extras : List ℕ) : Type 0 where
  pub runs : Runnable c t job pins flops outs hits masks feed words state
  pub blank : Blank hits masks
  pub few_hits : length hits ≤ 65536
  pub nout_room : L c t < length nout
  pub pick_room : PickRoom c t free states list merits extras

-- the same of a setup
abbrev pub Works : Setup → List ℕ → List ℕ → List ℕ → List ℕ → List ℕ → List ℕ → List ℕ → List ℕ → List ℕ → List ℕ → List ℕ → Type 0
Works s hits masks feed words state free states list nout merits extras =
    Workable s.circuit.now s.test.now s.job s.pins.now s.flops.now s.outs.now hits masks feed words state free states list nout merits extras
