-- The fault-free responses, what a batch asks for, and what stage 1's places say of a verdict.
use mathlib.Core.Path.{◌≡◌, sym, ◌∙◌}
use mathlib.Core.Bool.{true, false}
use mathlib.Core.List.{List}
use mathlib.Core.Option.{none, some, or_else}
use Prim.Native.Nat.{ℕ, ◌+◌, ◌*◌, ◌≤◌}
use native.Mathlib.Omega.{arith}
use native.Mathlib.Nat.{mul-le-mul_left, mul-add}
use borrow.Author.Tests.{lt-ltb, ltb-false}
use lib.ListN.{length, get_or}
use Rattle.lists.specs.Field.{Rows}
use Rattle.lists.proofs.Scan.{first_pair-more}
use Rattle.model.specs.Inputs.{N, F, O, L, Fault, fault_count, fault_at}
use Rattle.model.specs.Refusals.{work_bytes}
use Rattle.model.specs.Accepted.{ValidCircuit, ValidInputs}
use Rattle.model.specs.Simulation.{no_fault, power_up, free_outputs}
use Rattle.model.specs.Expansion.{nout}
use Rattle.model.specs.Grade.{placed, at_pair, opposed_at, stage1, before_stage5, grade}
use Rattle.lanes.specs.Lane.{bit, Lane}
use Rattle.job.specs.declared.Job.{Job}
use Rattle.unit.specs.Unit.{Stuck}
use Rattle.run.specs.Run.{Runnable}
use Rattle.faults.specs.Given.{Batch, lane_fault, Given}
use Rattle.plain.specs.declared.Firsts.{Firsts}
use Rattle.plain.specs.Places.{Places, place_at}
use Rattle.places.specs.Found.{Faults, FirstOf, Found}

-- ---- the fault-free responses
-- number 13 asks for room enough for the responses, fault-free and faulty
pub work_room_lem : (c t : List ℕ) (work : ℕ) → work_bytes c t ≤ work → L c t * O c + L c t * O c ≤ work
unfolding work_bytes
work_room_lem c t work h =
    let twice : L c t * (O c + O c) ≤ L c t * (4 * O c + 16 * F c + 8) = mul-le-mul_left (L c t) (omega arith) in
    omega (arith, mul-add (L c t) (O c) (O c))

-- ---- a batch
-- runnable still, once faults have been given or taken back
pub runnable-given : {c t pins flops outs hits masks feed words state : List ℕ} {job : Job} (hits' masks' : List ℕ) → Runnable c t job pins flops outs hits masks feed words state
    → length hits' ≡ length hits → length masks' ≡ length masks → Runnable c t job pins flops outs hits' masks' feed words state
runnable-given hits' masks' run lines rows = record {
  circuit = run.circuit;
  test = run.test;
  sizes = run.sizes;
  tables = run.tables;
  hit_room = omega (arith, run.hit_room);
  mask_room = omega (arith, run.mask_room);
  feed_room = run.feed_room;
  line_room = run.line_room;
  state_room = run.state_room;
}

-- faults of an accepted list
pub faults-of : {c t fs : List ℕ} {least most from count : ℕ} → ValidInputs c t least most fs → count ≤ 64 → from + count ≤ fault_count fs
    → Faults c fs from count
faults-of {from = from} valid few inside =
    record { few = few; room = omega (arith, valid.whole); valid = λ s h. valid.fault (from + s) (omega arith) }

module _ {c fs : List ℕ} {from count : ℕ} (faults : Faults c fs from count) where
  pub batch_of : ValidCircuit c → (n : ℕ) → N c ≤ n → Batch fs from count n
  batch_of circuit n e = record {
    few = faults.few;
    room = faults.room;
    line = λ s h. omega (arith, (faults.valid s h).line);
    pin = λ s h. let fault = faults.valid s h in omega (arith, fault.pin, circuit.few _ fault.line);
    value = λ s h. omega (arith, (faults.valid s h).value);
  }

  pub found_of : {t free hits masks state times lines : List ℕ} {units : ℕ} {r : Firsts} → Given fs from count hits masks
      → ((lane : ℕ) → Lane lane state (power_up c)) → Rows (O c) (L c t) free (λ u. free_outputs c t u)
      → Places c t free count units hits masks state times lines r → Found c t fs from count units r times lines
  unfolding lane_fault
  found_of {hits = hits} {masks = masks} given powered frees places = record {
    of = λ lane h.
        let stuck : Stuck lane hits masks (fault_at fs (from + lane)) = rw (lt-ltb lane count h) at (given.lanes lane (omega (arith, faults.few))) in
        record { place = places.first lane _ h stuck (powered lane) frees; left = places.left lane _ h stuck (powered lane) frees };
  }

-- of a batch of one: lane 0 has the fault, lane 1 has none
module _ {fs hits masks : List ℕ} {n : ℕ} (given : Given fs n 1 hits masks) where
  pub lane_faulty : Stuck 0 hits masks (fault_at fs n)
  unfolding lane_fault
  lane_faulty = let same : n + 0 ≡ n = omega arith in rw same at (given.lanes 0 (omega arith))

  pub lane-free : Stuck 1 hits masks no_fault
  unfolding lane_fault
  lane-free = given.lanes 1 (omega arith)

-- ---- what a lane has found, in the first so many units or in all
module _ {c t : List ℕ} {f : Fault} {units : ℕ} {firsts : Firsts} {lane : ℕ} {times lines : List ℕ}
    (known : FirstOf c t f units firsts lane times lines) where
  -- it has a place, which is the first of all
  pub first_found : units ≤ L c t → bit lane firsts.found ≡ true → stage1 c t f ≡ some (placed 1 (get_or times lane 0) (get_or lines lane 0))
  unfolding stage1 at_pair
  first_found most e = rw (first_pair-more (λ u n. opposed_at c t f u n) units (N c) (L c t) (place_at times lines lane) (known.place ∙ rw e) most)

  pub decided_1 : units ≤ L c t → bit lane firsts.found ≡ true → before_stage5 c t f ≡ some (placed 1 (get_or times lane 0) (get_or lines lane 0))
  unfolding before_stage5 or_else
  decided_1 most e = rw (first_found most e)

  pub graded_1 : units ≤ L c t → bit lane firsts.found ≡ true → (p : List ℕ) (k : ℕ)
      → placed 1 (get_or times lane 0) (get_or lines lane 0) ≡ grade c t f p k
  unfolding grade or_else
  graded_1 most e p k = rw (decided_1 most e)

  -- it has none in all units
  pub open_first : units ≡ L c t → bit lane firsts.found ≡ false → stage1 c t f ≡ none
  unfolding stage1 at_pair
  open_first all e = rw (← all, known.place, e)

  -- and nothing is left to show
  pub none_left : units ≡ L c t → bit lane firsts.found ≡ false → bit lane firsts.left ≡ false → nout c t f 0 ≡ 0
  none_left all e l = omega (arith, ltb-false 0 (nout c t f 0) (sym (known.left all e) ∙ l))
