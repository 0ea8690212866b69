-- The theorems, for every accepted job. What `reads-back`, `total-printed`, `own-fault`, `fault-free`, `graded_groups` and `step-of_ACE1` say
-- is stated here alone, what the others say in specs/Promises.
use mathlib.Core.Path.{◌≡◌, refl, sym, ap, ◌∙◌}
use Prim.Native.Nat.{ℕ, ◌+◌, ◌*◌, ◌-◌, ◌/◌, ◌≤◌, ◌<◌}
use mathlib.Core.List.{List, ◌++◌}
use mathlib.Core.Option.{none, or_else}
use lib.ListN.{length, take}
use lib.Seq.{take_at}
use lib.Dec.{eqb}
use native.Mathlib.Omega.{arith}
use mathlib.Core.Bool.{false}
use borrow.Author.Tests.{ne_eqb, le-ltb}
use Rattle.model.specs.Inputs.{N, I, Fault, fault_count, fault_at}
use Rattle.model.specs.Refusals.{circuit_rows, input_rows, grade_refusal, choose_refusal, group_refusal, generate_refusal}
use Rattle.model.specs.Accepted.{ValidCircuit, GradeReady, ChooseReady, GenerateReady}
use Rattle.model.specs.Simulation.{no_fault, is_stuck}
use Rattle.model.specs.Grade.{grade, record_bytes, record_at, grade_bytes, grade_area}
use Rattle.lists.specs.Scan.{count_below, sum}
use Rattle.lists.specs.Field.{overwritten}
use Rattle.lists.proofs.Scan.{count_below-same, length-select, length-tabulate, get_or_tabulate, tabulate-same}
use Rattle.lists.proofs.Counts.{counts-sum}
use Rattle.model.specs.Listing.{too_long, graded_lines, with_verdict, seven_counts, total_line, job_lines, printed}
use Rattle.model.specs.Choose.{chosen, plan_bytes, choose_answer, choose_area}
use Rattle.model.specs.Generate.{step, generate_bytes, generate_answer, generate_area}
use Rattle.model.specs.Promises.{EveryStart, Demand3, InBounds, record_part, Totals, WellChosen, ChoosesWell, PinsOpen, ClearLists, GeneratesTest, NeverZero}
use Rattle.model.proofs.Accepted.{valid_circuit, valid_inputs, fault_job, grade_ready, choose_ready, generate_ready, answered, area-done}
use Rattle.model.proofs.Promise.{promise}
use Rattle.model.proofs.Bounds.{bounds}
use Rattle.model.proofs.Records.{length-grade_bytes, bytes-record, group_accepts, area-part, area-record}
use Rattle.model.proofs.Choose.{length-plan, well_chosen}
use Rattle.model.proofs.Starts.{every-start}
use Rattle.model.proofs.Open.{pins_open}
use Rattle.model.proofs.Apart.{sequence_clear}
use Rattle.model.proofs.Generate.{length-generated, accepted-test, stays-above}

verdict-bounds : (c t fs p : List ℕ) (k work result : ℕ) → grade_refusal c t fs p k work result ≡ none → (f : Fault) → InBounds k (grade c t f p k)
verdict-bounds c t fs p k work result e f =
    let ready : GradeReady c t fs p k work result = grade_ready c t fs p k work result e in
    bounds c t f p k ready.inputs.circuit.lines ready.inputs.test.most ready.limit

module _ (c t fs p : List ℕ) (k work : ℕ) (old : List ℕ) (e : grade_refusal c t fs p k work (length old) ≡ none) (j : ℕ) (h : j < fault_count fs) where
  -- the record that Grade writes for fault j reads back as that fault's verdict: nothing is lost in the 16 bytes
  pub reads-back : record_at (grade_area c t fs p k work old) j ≡ grade c t (fault_at fs j) p k
  reads-back = area-record c t fs p k work old e j h (verdict-bounds c t fs p k work (length old) e (fault_at fs j))

  -- every record that Grade writes is in its bounds
  pub in_bounds : InBounds k (record_at (grade_area c t fs p k work old) j)
  in_bounds = rw reads-back (verdict-bounds c t fs p k work (length old) e (fault_at fs j))

-- demand 3, of the bytes that Grade writes
pub demand_three : (c t fs p : List ℕ) (k work : ℕ) (old : List ℕ) → Demand3 c t fs p k work old (grade_area c t fs p k work old)
demand_three c t fs p k work old e j h =
    rw (reads-back c t fs p k work old e j h)
    (promise c t (fault_at fs j) (fault_job (grade_ready c t fs p k work (length old) e).inputs j h) p k)

-- the counts under the lines of an accepted job
module _ (c t fs p : List ℕ) (k work result : ℕ) (e : grade_refusal c t fs p k work result ≡ none) where
  verdict-count : (v : ℕ) → with_verdict (grade_bytes c t fs p k) v ≡ count_below (λ j. eqb (grade c t (fault_at fs j) p k).verdict v) (fault_count fs)
  unfolding with_verdict
  verdict-count v =
      let records : length (grade_bytes c t fs p k) / 16 ≡ fault_count fs = omega (arith, length-grade_bytes c t fs p k) in
      rw records (count_below-same _ _ (fault_count fs) (λ j h.
      rw (bytes-record c t fs p k j h (verdict-bounds c t fs p k work result e (fault_at fs j)))))

  pub totals : Totals c t fs p k (seven_counts (grade_bytes c t fs p k))
  unfolding seven_counts
  totals =
      let verdict_of : ℕ → ℕ = λ j. (grade c t (fault_at fs j) p k).verdict in
      record {
        seven = length-tabulate _ 1 7;
        each = λ v low high.
            let here : 1 + (v - 1) ≡ v = omega arith in
            get_or_tabulate (λ v. with_verdict (grade_bytes c t fs p k) v) 1 7 (v - 1) 0 (omega arith)
            ∙ ap (with_verdict (grade_bytes c t fs p k)) here ∙ verdict-count v ∙ sym (length-select (λ j. eqb (verdict_of j) v) (fault_count fs));
        all = ap sum (tabulate-same _ _ 1 7 (λ v _ _. verdict-count v)) ∙ counts-sum verdict_of 1 7 (fault_count fs)
            (λ j _. let b = verdict-bounds c t fs p k work result e (fault_at fs j) in (b.low, omega (arith, b.high)));
      }

-- the print of an accepted job, where no file is too long: the lines of its faults, and then the total, whose counts are those above
pub total-printed : (c t fs p : List ℕ) → length c ≤ 65536 → length t ≤ 65536 → length fs ≤ 65536 → length p ≤ 65536
    → grade_refusal c t fs p 6 65536 65536 ≡ none → printed c t fs p ≡ graded_lines fs (grade_bytes c t fs p 6) ++ total_line (grade_bytes c t fs p 6)
unfolding printed too_long job_lines or_else
total-printed c t fs p lc lt lf lp e = rw (le-ltb 65536 (length c) lc, le-ltb 65536 (length t) lt, le-ltb 65536 (length fs) lf, le-ltb 65536 (length p) lp, e)

-- a record depends on its own fault, never on others in the list
pub own-fault : (c t fs gs p : List ℕ) (k work room : ℕ) (old held : List ℕ)
    → grade_refusal c t fs p k work (length old) ≡ none → grade_refusal c t gs p k room (length held) ≡ none
    → (j i : ℕ) → j < fault_count fs → i < fault_count gs → fault_at fs j ≡ fault_at gs i
    → record_part (grade_area c t fs p k work old) j ≡ record_part (grade_area c t gs p k room held) i
own-fault c t fs gs p k work room old held e d j i h l same =
    area-part c t fs p k work old e j h
    ∙ ap (λ (f : Fault). record_bytes (grade c t f p k)) same
    ∙ sym (area-part c t gs p k room held d i l)

-- Choose's pairs, of the bytes that it writes
pub chosen_well : (c t fs : List ℕ) (k work : ℕ) (old : List ℕ) → ChoosesWell c t fs k (choose_answer c t fs k work (length old)) (choose_area c t fs k work old)
unfolding choose_answer choose_area overwritten
chosen_well c t fs k work old n e =
    let pairs = chosen c t (fault_at fs 0) k in
    let done = answered (choose_refusal c t fs k work (length old)) (length pairs) n e in
    let ready : ChooseReady c t fs k work (length old) = choose_ready c t fs k work (length old) done.0 in
    let well : WellChosen c t (fault_at fs 0) k (length pairs) (plan_bytes pairs) =
    well_chosen c t (fault_at fs 0) k (omega (arith, ready.inputs.test.most)) (omega (arith, ready.inputs.circuit.flip_flops)) (omega (arith, ready.limit)) in
    let front : take (4 * length pairs) (choose_area c t fs k work old) ≡ plan_bytes pairs =
    ap (take (4 * length pairs)) (area-done _ _ _ done.0) ∙ take_at (plan_bytes pairs) _ (4 * length pairs) (length-plan pairs) in
    rw (← done.1, front) well

-- the fault-free circuit has no stuck line or pin: `no_fault` names no line of a circuit that is accepted
pub fault-free : (c : List ℕ) → circuit_rows c ≡ none → (n pin : ℕ) → n < N c → is_stuck no_fault n pin ≡ false
unfolding is_stuck no_fault
fault-free c e n pin h =
    let valid : ValidCircuit c = valid_circuit c e in
    rw (ne_eqb 65536 n (λ q. (let z : ⊥ = omega (arith, valid.lines) in z)))

-- what the program has graded Group takes, so that the print may name groups by their definition
pub graded_groups : (c t fs p : List ℕ) → grade_refusal c t fs p 6 65536 65536 ≡ none → group_refusal (grade_bytes c t fs p 6) 65536 ≡ none
graded_groups c t fs p e =
    group_accepts (grade_bytes c t fs p 6) (fault_count fs) (length-grade_bytes c t fs p 6) (grade_ready c t fs p 6 65536 65536 e).result_room

-- demand 3 goes over the numbers of starting states, and these name every starting state
pub all-starts : (c : List ℕ) → EveryStart c
all-starts = every-start

module _ (c t fs : List ℕ) (least most : ℕ) (e : input_rows c t least most fs ≡ none) (j : ℕ) (h : j < fault_count fs) where
  -- no value given to a flip-flop's pin line meets the opposite value
  pub open_pins : PinsOpen c t (fault_at fs j)
  open_pins = let valid = valid_inputs c t least most fs e in pins_open c t (fault_at fs j) valid.test (valid.fault j h)

  -- no list of a sequence has a conflict
  pub clear-lists : ClearLists c t (fault_at fs j)
  clear-lists = let valid = valid_inputs c t least most fs e in sequence_clear c t (fault_at fs j) valid.test (valid.fault j h)

-- Generate's test, of the bytes that it writes
pub generates_test : (c : List ℕ) (seed units : ℕ) (old : List ℕ) → GeneratesTest c units (generate_answer c seed units (length old)) (generate_area c seed units old)
unfolding generate_answer generate_area overwritten
generates_test c seed units old n e =
    let test = generate_bytes c seed units in
    let done = answered (generate_refusal c seed units (length old)) (units * I c) n e in
    let ready : GenerateReady c seed units (length old) = generate_ready c seed units (length old) done.0 in
    let front : take (units * I c) (generate_area c seed units old) ≡ test =
    ap (take (units * I c)) (area-done _ _ _ done.0) ∙ take_at test _ (units * I c) (length-generated c seed units) in
    rw (← done.1, front) (accepted-test c seed units ready.circuit.some_input ready.some ready.most)

-- the number that makes an accepted test is never zero
pub never-zero : (c : List ℕ) (seed units result : ℕ) → seed < 65536 → generate_refusal c seed units result ≡ none → NeverZero seed
never-zero c seed units result h e = stays-above seed (generate_ready c seed units result e).seeded h

-- seed hexadecimal ACE1 steps to E270
pub step-of_ACE1 : step 0xace1 ≡ 0xe270
unfolding step
step-of_ACE1 = refl
