-- Room, and the promise.
use mathlib.Core.Path.{◌≡◌}
use mathlib.Core.List.{List}
use Prim.Native.Nat.{ℕ, ◌*◌, ◌<◌, ◌≤◌}
use native.Mathlib.Omega.{arith}
use lib.ListN.{length}
use Rattle.model.specs.Inputs.{N, I, F, O, L}
use Rattle.model.specs.Accepted.{ChooseReady}
use Rattle.model.specs.Refusals.{Answer}
use Rattle.model.specs.Choose.{choose_answer, choose_area}
use Rattle.model.specs.Promises.{ChoosesWell}
use Rattle.model.proofs.Theorems.{chosen_well}
use Rattle.lanes.specs.Lane.{Room}
use Rattle.circuit.specs.Table.{Tables}
use Rattle.unit.specs.Unit.{MaskRoom}
use Rattle.job.specs.Job.{JobOf}
use Rattle.job.specs.declared.Job.{Job}
use Rattle.faults.specs.Given.{Blank}
use Rattle.propose.specs.Room.{Workable}

-- ---- room
pub state-size : {c t : List ℕ} {j : Job} → JobOf c t j → j.units * j.flops ≡ L c t * F c
state-size o = rw (o.units, o.flops)

module _ {c t pins flops outs hits masks feed words state free states list nout merits extras : List ℕ} {job : Job} where
  -- for so many lines, inputs, flip-flops and units, and for the job's tables
  pub workable : {fs : List ℕ} {k work result : ℕ} (lines inputs bits units : ℕ) → ChooseReady c t fs k work result → JobOf c t job → Tables c pins flops outs → Blank hits masks
      → N c ≤ lines → I c ≤ inputs → F c ≤ bits → L c t ≤ units → L c t * O c ≤ length free → L c t * F c ≤ length states → L c t * F c ≤ length list
      → lines ≤ length hits → length hits ≤ 65536 → MaskRoom masks → Room inputs feed → Room lines words → Room bits state → units < length nout → units ≤ length merits → 24 * bits ≤ length extras
      → Workable c t job pins flops outs hits masks feed words state free states list nout merits extras
  workable lines inputs bits units ready of tables blank n i f u responses plain rows hit few mask ins word st count merit pair = record {
    runs = record {
      circuit = ready.inputs.circuit;
      test = ready.inputs.test;
      sizes = of;
      tables = tables;
      hit_room = omega arith;
      mask_room = mask;
      feed_room = omega arith;
      line_room = omega arith;
      state_room = omega arith;
    };
    blank = blank;
    few_hits = few;
    nout_room = omega arith;
    pick_room = record { responses = responses; plain = record { room = plain }; rows = record { room = rows }; units = omega arith; pairs = omega arith };
  }

-- the promise, of an answer and an area that are the definitions'
pub promised : (c t fs : List ℕ) (k work : ℕ) (old : List ℕ) (answer : Answer) (new : List ℕ) → answer ≡ choose_answer c t fs k work (length old) → new ≡ choose_area c t fs k work old
    → ChoosesWell c t fs k answer new
promised c t fs k work old answer new same written = rw (same, written) (chosen_well c t fs k work old)
