-- What stages 2 to 6 of a fault ask for and give.
use Rattle.run.specs.declared.Setup.{Setup}
use Rattle.std.specs.Prelude.{◌≡◌, Option, Some, None, List, ℕ, ◌+◌, ◌*◌, ◌/◌, ◌%◌, ◌<◌, ◌≤◌, length, get_or}
use Rattle.std.proofs.Math.Option.{none, some}
use Rattle.lists.specs.Field.{Rows}
use Rattle.model.specs.Inputs.{flip_flop_line, F, O, L, Fault, plan_count}
use Rattle.model.specs.Accepted.{ValidCircuit, ValidTest, ValidFault}
use Rattle.model.specs.Simulation.{free_outputs}
use Rattle.model.specs.Expansion.{nout}
use Rattle.model.specs.Grade.{placed, stage1, before_stage5, grade}
use Rattle.circuit.specs.Table.{Tables}
use Rattle.job.specs.Job.{JobOf}
use Rattle.job.specs.declared.Job.{Job}
use Rattle.unit.specs.Unit.{Stuck}
use Rattle.fault.specs.Fault.{PlainTables}
use Rattle.pending.specs.Pending.{OpenUnits}
use Rattle.expand.specs.declared.Walk.{Walk}
use Rattle.record.specs.declared.Verdict.{Verdict}
use Rattle.record.specs.Record.{verdict_of}
use Rattle.take.specs.Take.{Prepared}
use Rattle.stages.specs.declared.Middle.{Middle}
use Rattle.stages.specs.declared.Middle.TheVariants.{Nothing, Decided, Open}

-- A job as the engine has it: circuit, test and sizes, and the tables of pins, flip-flops and outputs.
pub record Tabled (c t : List ℕ) (job : Job) (pins flops outs : List ℕ) : Type 0 where
  pub circuit : ValidCircuit c
  pub test : ValidTest c t
  pub sizes : JobOf c t job
  pub tables : Tables c pins flops outs

-- A job as all stages have it: plan and k within their limits too.
pub record Gradable (c t plan : List ℕ) (k : ℕ) (job : Job) (pins flops outs : List ℕ) : Type 0 where
  pub tabled : Tabled c t job pins flops outs
  pub whole_plan : length plan ≡ 4 * plan_count plan
  pub few_pairs : plan_count plan ≤ 4096
  pub limit : k ≤ 12

-- The work area begins with the fault-free responses, and there is room for as many more.
pub record Standing (c t work : List ℕ) : Type 0 where
  pub room : L c t * O c + L c t * O c ≤ length work
  pub frees : Rows (O c) (L c t) work (λ u. free_outputs c t u)

-- a table has room for a row of state bits a unit
pub record RowRoom (c t table : List ℕ) : Type 0 where
  pub room : L c t * F c ≤ length table

-- Nout of every unit, and that it is above 0 at the first r units, from the responses without and with a fault
pub record OpenFrom (job : Job) (free faulty counts : List ℕ) (r : ℕ) : Type 0 where
  pub units : (c t states : List ℕ) (f : Fault) → JobOf c t job → PlainTables c t free faulty states f → OpenUnits c t f r
  pub nout : (c t states : List ℕ) (f : Fault) → JobOf c t job → PlainTables c t free faulty states f → (u : ℕ) → u ≤ L c t → get_or counts u 0 ≡ nout c t f u

-- the pair of stage 3, or where there is none that of stage 4
pub record Deciding (walk : Walk) (r : Option ℕ) : Type 0 where
  pub third : (e : ℕ) → walk.both ≡ Some e → r ≡ Some e
  pub fourth : walk.both ≡ None → r ≡ walk.opposed

-- Of a fault that stage 1 leaves open: the verdict of stages 2 to 4, or that they give none, and then what stage 5 asks for.
pub record Opened (c t : List ℕ) (f : Fault) (free states list hits masks : List ℕ) (m : Middle) : Type 0 where
  pub nothing : m ≡ Nothing → before_stage5 c t f ≡ some (placed 5 0 0)
  pub decided : (e : ℕ) → m ≡ Decided e → before_stage5 c t f ≡ some (placed 2 (e / F c) (flip_flop_line c (e % F c)))
  pub undecided : (left : ℕ) → m ≡ Open left → before_stage5 c t f ≡ none
  pub ready : (left : ℕ) → m ≡ Open left → Prepared c t free states list hits masks left f

-- the same of the fault that all lanes have, by the tables of its plain run; a pair that decides is one of the walk's; and Nout of every unit
pub record Middling (c t free faulty states list hits masks counts : List ℕ) (m : Middle) : Type 0 where
  pub opened : (f : Fault) → ((lane : ℕ) → lane < 64 → Stuck lane hits masks f) → ValidFault c f → stage1 c t f ≡ none → PlainTables c t free faulty states f
      → Opened c t f free states list hits masks m
  pub inside : (e : ℕ) → m ≡ Decided e → e < L c t * F c
  pub nout : (f : Fault) → PlainTables c t free faulty states f → (u : ℕ) → u ≤ L c t → get_or counts u 0 ≡ nout c t f u

-- the verdict of the fault that all lanes have, if stage 1 gave none; the fault-free responses still stand in the work area
pub record Graded (c t plan : List ℕ) (k : ℕ) (hits masks work : List ℕ) (r : Verdict) : Type 0 where
  pub verdict : (f : Fault) → ((lane : ℕ) → lane < 64 → Stuck lane hits masks f) → ValidFault c f → stage1 c t f ≡ none → verdict_of r ≡ grade c t f plan k
  pub stands : (f : Fault) → Stuck 0 hits masks f → Standing c t work

-- the same of a setup
abbrev pub IsTabled : Setup → Type 0
IsTabled s = Tabled s.circuit.now s.test.now s.job s.pins.now s.flops.now s.outs.now

abbrev pub Grades : Setup → List ℕ → ℕ → Type 0
Grades s plan k = Gradable s.circuit.now s.test.now plan k s.job s.pins.now s.flops.now s.outs.now
