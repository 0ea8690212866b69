-- What the answers of stages 2 to 4 say of a fault's verdict.
use Rattle.std.specs.Prelude.{Option, Some, None}
use Rattle.std.proofs.Common.{sym, ◌∙◌}
use mathlib.Core.Path.{◌≡◌}
use mathlib.Core.List.{List}
use mathlib.Core.Option.{none, some, or_else}
use mathlib.Core.Option.{Option as Optional}
use Prim.Native.Nat.{ℕ, ◌*◌, ◌-◌, ◌/◌, ◌%◌, ◌<◌, ◌≤◌}
use native.Mathlib.Omega.{arith}
use native.Mathlib.Nat.{mul-le-mul, mod-lt}
use borrow.Author.Tests.{lt-ltb}
use lib.ListN.{length, get_or, drop, take}
use Rattle.lists.specs.Scan.{◌else◌}
use Rattle.lists.proofs.Field.{lent}
use Rattle.model.specs.Inputs.{flip_flops, flip_flop_line, F, L, Fault}
use Rattle.model.specs.Accepted.{ValidCircuit, ValidTest, ValidFault}
use Rattle.model.specs.Expansion.{nout}
use Rattle.model.specs.Grade.{Verdict, placed, stage1, stage2, stage3, stage4, before_stage5, grade}
use Rattle.model.specs.Sequences.{taken}
use Rattle.model.proofs.Pending.{both_open_somewhere}
use Rattle.model.proofs.Runs.{length-flip_flops}
use Rattle.circuit.specs.Table.{Listed}
use Rattle.model.proofs.Apart.{sequence_clear}
use Rattle.job.specs.Job.{JobOf}
use Rattle.job.specs.declared.Job.{Job}
use Rattle.run.specs.Run.{Runnable}
use Rattle.run.proofs.Laws.{runnable}
use Rattle.pending.specs.Pending.{Responses, OpenUnits}
use Rattle.expand.specs.declared.Walk.{Walk}
use Rattle.expand.specs.Expand.{Before, Walked, Expanded}
use Rattle.expand.proofs.Steps.{by-option, one-only}
use Rattle.expand.proofs.Result.{stage3-met, stage3-none, stage4-met, stage4-none, list-rows}
use Rattle.unit.specs.Unit.{Stuck}
use Rattle.fault.specs.Fault.{PlainTables, Traced}
use Rattle.sequences.specs.Ends.{Taken, Lists}
use Rattle.take.specs.Take.{Prepared}
use Rattle.stages.specs.Stages.{Tabled, Standing, Deciding}

module _ (c t : List ℕ) (f : Fault) (open_first : stage1 c t f ≡ none) where
  -- ---- stage 2
  module _ (circuit : ValidCircuit c) (test : ValidTest c t) (fault : ValidFault c f) where
    pub before_5 : nout c t f 0 ≡ 0 → before_stage5 c t f ≡ some (placed 5 0 0)
    unfolding before_stage5 stage2 or_else
    before_5 zero = rw (open_first, both_open_somewhere c t f circuit test fault, zero)

    pub stage2-none : 0 < nout c t f 0 → stage2 c t f ≡ none
    unfolding stage2
    stage2-none some-open = rw (both_open_somewhere c t f circuit test fault, lt-ltb 0 (nout c t f 0) some-open)

-- a verdict of stages 1 to 4 is the fault's
pub graded-before : (c t : List ℕ) (f : Fault) (p : List ℕ) (k : ℕ) (v : Verdict) → before_stage5 c t f ≡ some v → grade c t f p k ≡ v
unfolding grade or_else
graded-before c t f p k v e = rw e

-- ---- what the steps ask for
pub flops-room : (c flops : List ℕ) → Listed (flip_flops c) flops → F c ≤ length flops
flops-room c flops table = omega (arith, length-flip_flops c, table.room)

-- the pair at position e, by the table of flip-flops
pub pair-named : (c flops : List ℕ) (size e : ℕ) → size ≡ F c → 0 < size → Listed (flip_flops c) flops → placed 2 (e / size) (get_or flops (e % size) 0) ≡ placed 2 (e / F c) (flip_flop_line c (e % F c))
unfolding flip_flop_line
pair-named c flops size e es some-flop table = rw (← es, table.same (e % size) (let low : e % size < size = mod-lt e some-flop in omega (arith, length-flip_flops c, es)))

module _ {c t : List ℕ} {job : Job} {pins flops outs : List ℕ} (g : Tabled c t job pins flops outs) where
  pub runs : {hits masks feed words state : List ℕ} → length hits ≡ 4096 → length masks ≡ 2560 → length feed ≡ 512 → length words ≡ 8192 → length state ≡ 512
      → Runnable c t job pins flops outs hits masks feed words state
  runs h m f w s = runnable g.circuit g.test g.sizes g.tables (omega arith) (omega arith) (omega arith) (omega arith) (omega arith)

  pub pair-rows : (m n : ℕ) → m ≤ 12 → n ≡ 6144 → 2 * m * F c ≤ n
  pair-rows m n h e = let few : 2 * m ≤ 24 = omega arith in omega (arith, mul-le-mul few g.circuit.flip_flops)

-- the responses of the plain run, by the job's sizes
pub responses_in : (job : Job) (free faulty c t states : List ℕ) (f : Fault) → JobOf c t job → PlainTables c t free faulty states f → Responses job.units job.outputs free faulty c t f
responses_in job free faulty c t states f of tables = record {
  all = of.units;
  wide = of.outputs;
  free_rows = rw (of.units, of.outputs) tables.frees;
  faulty_rows = rw (of.units, of.outputs) tables.shown;
}

-- ---- the work area, once the fault that all lanes have is traced
module _ {c t hits masks states work : List ℕ} (traced : Traced c t hits masks states work) (f : Fault) where
  -- it begins with the fault-free responses as before
  pub standing-again : {old : List ℕ} → Standing c t old → length work ≡ length old → Stuck 0 hits masks f → Standing c t work
  standing-again s e stuck = record { room = omega (arith, s.room); frees = (traced.tables f stuck).frees }

  -- the tables of the plain run, the fault's responses as they are lent
  pub tables-lent : {job : Job} → JobOf c t job → ((lane : ℕ) → lane < 64 → Stuck lane hits masks f)
      → PlainTables c t work (take (length work - job.units * job.outputs) (drop (job.units * job.outputs) work)) states f
  tables-lent {job = job} of stuck = rw (lent work (job.units * job.outputs), of.units, of.outputs) (traced.tables f (stuck 0 (omega arith)))

else_last : (a b : Optional Verdict) → a else b ≡ none → b ≡ none
unfolding or_else
else_last none b e = e
else_last (some v) b e = cc

-- stage 4 gives no verdict where stages 1 to 4 give none
pub last_none : (c t : List ℕ) (f : Fault) → before_stage5 c t f ≡ none → stage4 c t f ≡ none
unfolding before_stage5
last_none c t f e = else_last (stage3 c t f) _ (else_last (stage2 c t f) _ (else_last (stage1 c t f) _ e))

-- the lists of the sequences of a fault that stages 1 to 4 leave open
pub lists_of : {c t free states list hits masks times extras : List ℕ} {left m : ℕ} (f : Fault) (p : List ℕ) (k : ℕ) → ValidTest c t → before_stage5 c t f ≡ none → Prepared c t free states list hits masks left f
    → Taken c t f (taken c t f p k) m times extras → Lists c t f (taken c t f p k) m list times extras
lists_of {c} {t} f p k test before ready took = record {
  states = ready.rows;
  taken = took;
  clear = λ b u h. sequence_clear c t f test ready.fault (last_none c t f before) p k b u h;
}

-- a pair that decides is one that the walk has met
pub decided-inside : {walk : Walk} {r : Option ℕ} {n : ℕ} → Deciding walk r → Before n walk → (e : ℕ) → r ≡ Some e → e < n
decided-inside {walk = walk} decides met e h = by-option walk.both
    (λ none. met.opposed e (sym (decides.fourth none) ∙ h))
    (λ p same. let third = decides.third p same in let here : p ≡ e = cc in rw here at (met.both p same))

-- ---- stages 3 and 4, of a fault that stages 1 and 2 leave open
module _ {c t free faulty states list hits masks : List ℕ} {left : ℕ} {r : Option ℕ} {walk : Walk} (f : Fault) (stuck : (lane : ℕ) → lane < 64 → Stuck lane hits masks f) (fault : ValidFault c f)
    (open_first : stage1 c t f ≡ none) (open-second : stage2 c t f ≡ none) (tables : PlainTables c t free faulty states f) (above : OpenUnits c t f left)
    (expanded : Expanded c t free states hits masks left list walk) (decides : Deciding walk r) where
  walked : Walked c t f (L c t * F c) list walk
  walked = expanded.walked f record {
    stuck = stuck;
    fault = fault;
    plain = tables.plain;
    frees = tables.frees;
    above = above;
  }

  pub before_2 : (e : ℕ) → r ≡ Some e → before_stage5 c t f ≡ some (placed 2 (e / F c) (flip_flop_line c (e % F c)))
  unfolding before_stage5 or_else
  before_2 e h = by-option walk.both
      (λ g. rw (open_first, open-second, stage3-none c t f list walk walked expanded.met g, stage4-met c t f list walk walked expanded.met g e (sym (decides.fourth g) ∙ h)))
      (λ p g. let third = decides.third p g in let here : p ≡ e = cc in rw (open_first, open-second, stage3-met c t f list walk walked expanded.met e (rw here at g)))

  -- neither gives a verdict
  module _ (none-met : r ≡ None) where
    none_both : walk.both ≡ None
    none_both = by-option walk.both (λ g. g) (λ p g. one-only (decides.third p g) none-met)

    none-opposed : walk.opposed ≡ None
    none-opposed = sym (decides.fourth none_both) ∙ none-met

    pub before-none : before_stage5 c t f ≡ none
    unfolding before_stage5 or_else
    before-none = rw (open_first, open-second, stage3-none c t f list walk walked expanded.met none_both, stage4-none c t f list walk walked expanded.met none_both none-opposed)

    pub prepared : Prepared c t free states list hits masks left f
    prepared = record {
      stuck = stuck;
      fault = fault;
      plain = tables.plain;
      frees = tables.frees;
      rows = list-rows c t f list walk walked expanded.met none_both none-opposed;
      above = above;
    }
