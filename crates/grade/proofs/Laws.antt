-- The tables and the records of a whole list.
use mathlib.Core.Path.{◌≡◌, sym, ap, ◌∙◌}
use mathlib.Core.List.{List}
use Prim.Native.Nat.{ℕ, ◌+◌, ◌*◌, ◌/◌, ◌<◌, ◌≤◌}
use native.Mathlib.Omega.{arith}
use native.Mathlib.Nat.{mul-le-mul, mul-le-mul_left, mul_assoc, mul_comm}
use lib.ListN.{length, drop}
use Rattle.lists.specs.Field.{overwritten}
use Rattle.model.specs.Inputs.{F, O, L, fault_count, fault_at}
use Rattle.model.specs.Refusals.{work_bytes}
use Rattle.model.specs.Accepted.{GradeReady}
use Rattle.model.specs.Grade.{grade, grade_bytes, grade_area}
use Rattle.model.specs.Promises.{Demand3}
use Rattle.model.proofs.Theorems.{demand_three}
use Rattle.circuit.specs.Table.{Tables}
use Rattle.job.specs.Job.{JobOf}
use Rattle.job.specs.declared.Job.{Job}
use Rattle.record.specs.Record.{RecordsOf}
use Rattle.record.proofs.Laws.{records-over}
use Rattle.stages.specs.Stages.{Gradable, RowRoom}
use Rattle.grade.specs.Graded.{TableRoom}

-- what the stages ask for, of an accepted job
pub gradable : {c t fs plan pins flops outs : List ℕ} {k work result : ℕ} {job : Job} → GradeReady c t fs plan k work result → JobOf c t job → Tables c pins flops outs → Gradable c t plan k job pins flops outs
gradable ready of tables = record {
  tabled = record { circuit = ready.inputs.circuit; test = ready.inputs.test; sizes = of; tables = tables };
  whole_plan = ready.plan;
  few_pairs = ready.pairs;
  limit = ready.limit;
}

-- the faults, as code counts them
pub count_as : (fs : List ℕ) (n : ℕ) → n < length fs / 4 → n < fault_count fs
unfolding fault_count
count_as fs n h = h

pub count-is : (fs : List ℕ) (n : ℕ) → length fs / 4 ≤ n → fault_count fs ≤ n
unfolding fault_count
count-is fs n h = h

-- a table has room for the rows of an accepted job
pub row_room : {c t fs plan : List ℕ} (table : List ℕ) {k work result : ℕ} → GradeReady c t fs plan k work result → TableRoom work (length table) → RowRoom c t table
unfolding work_bytes
row_room {c} {t} table ready long =
    let inputs = ready.inputs in
    let rows : L c t * (16 * F c) ≤ L c t * (4 * O c + 16 * F c + 8) = mul-le-mul_left (L c t) (omega arith) in
    let each : L c t * (16 * F c) ≡ 16 * (L c t * F c) = sym (mul_assoc (L c t) 16 (F c)) ∙ ap (λ n. n * F c) (mul_comm (L c t) 16) ∙ mul_assoc 16 (L c t) (F c) in
    record { room = omega (arith, rows, each, ready.work_room, long.room, mul-le-mul inputs.test.most inputs.circuit.flip_flops) }

-- ---- the records in the result area
-- written behind those of the sieve
pub records-all : (c t fs plan : List ℕ) (k n : ℕ) (old mid area : List ℕ) → n ≡ fault_count fs → drop (16 * fault_count fs) mid ≡ drop (16 * fault_count fs) old
    → RecordsOf (λ j. grade c t (fault_at fs j) plan k) n mid area → area ≡ overwritten (grade_bytes c t fs plan k) old
unfolding grade_bytes
records-all c t fs plan k n old mid area e behind r =
    (records-over (λ j. grade c t (fault_at fs j) plan k) (fault_count fs) mid old area (rw e at r.all) behind).all

-- demand 3 of an area that is the definition's
pub promised : (c t fs plan : List ℕ) (k work : ℕ) (old new : List ℕ) → new ≡ grade_area c t fs plan k work old → Demand3 c t fs plan k work old new
promised c t fs plan k work old new e = rw e (demand_three c t fs plan k work old)
