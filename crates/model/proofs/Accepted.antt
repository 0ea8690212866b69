-- What is not refused is as the proofs want it: the rows of the table, read backwards.
use mathlib.Core.Path.{◌≡◌, refl, sym, ◌∙◌, ap}
use Prim.Native.Nat.{ℕ, zero, suc, ◌+◌, ◌*◌, ◌/◌, ◌%◌, ◌≤◌, ◌<◌}
use mathlib.Core.Bool.{Bool, true, false, cond, not, ◌&&◌, ◌||◌, true≢false}
use mathlib.Core.List.{List, [], ◌∷◌}
use mathlib.Core.Option
use mathlib.Core.Option.{Option, none, some, none-ne-some, some-ne-none}
use mathlib.Mathlib.Data.Option.Basic.{or_else-eq-none}
use lib.ListN.{get_or, length}
use lib.Dec.{eqb, leb, ltb}
use native.Mathlib.Omega.{arith}
use native.Mathlib.Decide.{dec_le}
use native.Mathlib.Nat.{div-add-mod', zero-mul}
use borrow.Author.Tests.{eqb-true, leb-true, leb-false, ltb-true, ltb-false, not-false, ne_eqb, le-leb, lt-leb}
use Rattle.lists.specs.Scan.{first_answer}
use Rattle.model.specs.Inputs.{N, kind, pin_count, pin_line, is_flip_flop, is_gate, I, F, O, L, Fault, fault_count, fault_at, plan_count}
use Rattle.model.specs.Refusals.{Refusal, Answer, done, refused, answer, unless_refused, refuse, row1, pins_fit, stray_bytes, misnamed, misnames, rows2to5, row6, circuit_rows, row7, row8, row9, fault_fits, row10, row11, row12, row15, work_bytes, row13, row14, row16, row17, input_rows, simulate_refusal, grade_refusal, choose_refusal, group_refusal, generate_refusal}
use Rattle.model.specs.Accepted.{ValidCircuit, ValidTest, ValidFault, ValidInputs, SimulateReady, GradeReady, ChooseReady, GroupReady, GenerateReady}
use Rattle.lists.proofs.Tests.{and_left, and_right, or_left_false, or_right_false}
use Rattle.lists.proofs.Scan.{first_answer-none, any_below-false}
use Rattle.model.proofs.Total.{TotalRow, bit-total}
use Rattle.model.proofs.Implication.{gate-kind}
use Rattle.model.proofs.Sound.{FaultJob}

pub refuse-none : (b : Bool) (number position : ℕ) → refuse b number position ≡ none → b ≡ false
unfolding refuse
refuse-none true number position e = absurd (some-ne-none (number, position) e)
refuse-none false number position e = refl

-- ---- records
record Fits (c : List ℕ) (n : ℕ) : Type 0 where
  low : kind c n ≤ 9
  count : pins_fit (kind c n) (pin_count c n) ≡ true
  named : misnames c n ≡ false

fits : (c : List ℕ) (n : ℕ) → rows2to5 c n ≡ none → Fits c n
unfolding rows2to5
fits c n e =
    let a = (or_else-eq-none (refuse (ltb 9 (kind c n)) 2 n) _).0 e in
    let b = (or_else-eq-none (refuse (not (pins_fit (kind c n) (pin_count c n))) 3 n) _).0 a.1 in
    let d = (or_else-eq-none (refuse (stray_bytes c n) 4 n) _).0 b.1 in
    record {
      low = ltb-false 9 (kind c n) (refuse-none _ 2 n a.0);
      count = not-false _ (refuse-none _ 3 n b.0);
      named = refuse-none _ 5 n d.1;
    }

pins-cases : (x y : Bool) (p : ℕ) → x ≡ false → cond x (eqb p 0) (cond y (eqb p 1) (leb 2 p && leb p 4)) ≡ true → 0 < p
pins-cases true y p h e = absurd (true≢false h)
pins-cases false true p h e = omega (arith, eqb-true p 1 e)
pins-cases false false p h e = omega (arith, leb-true 2 p (and_left _ _ e))

has-pin : (k p : ℕ) → pins_fit k p ≡ true → 1 ≤ k → 0 < p
unfolding pins_fit
has-pin k p e h = pins-cases (eqb k 0) (leb k 3) p (ne_eqb k 0 (λ q. (let z : ⊥ = omega arith in z))) e

one_case : (x y : Bool) (p : ℕ) → y ≡ true → cond x (eqb p 0) (cond y (eqb p 1) (leb 2 p && leb p 4)) ≡ true → p ≤ 1
one_case true y p h e = omega (arith, eqb-true p 0 e)
one_case false true p h e = omega (arith, eqb-true p 1 e)
one_case false false p h e = absurd (true≢false (sym h))

one-pin : (k p : ℕ) → pins_fit k p ≡ true → k ≤ 3 → p ≤ 1
unfolding pins_fit
one-pin k p e h = one_case (eqb k 0) (leb k 3) p (le-leb k 3 h) e

two_case : (x y : Bool) (p : ℕ) → x ≡ false → y ≡ false → cond x (eqb p 0) (cond y (eqb p 1) (leb 2 p && leb p 4)) ≡ true → 2 ≤ p
two_case true y p h g e = absurd (true≢false h)
two_case false true p h g e = absurd (true≢false g)
two_case false false p h g e = leb-true 2 p (and_left _ _ e)

two-pins : (k p : ℕ) → pins_fit k p ≡ true → 4 ≤ k → 2 ≤ p
unfolding pins_fit
two-pins k p e h = two_case (eqb k 0) (leb k 3) p (ne_eqb k 0 (λ q. (let z : ⊥ = omega arith in z))) (lt-leb k 3 (omega arith)) e

named-at : (c : List ℕ) (n i : ℕ) → misnames c n ≡ false → i < pin_count c n → leb (cond (is_gate c n) n (N c)) (pin_line c n (i + 1)) ≡ false
unfolding misnames misnamed
named-at c n i e h = any_below-false (λ i. misnamed c n i) (pin_count c n) i e h

flip-flop-kind : (c : List ℕ) (n : ℕ) → is_flip_flop c n ≡ true → kind c n ≡ 1
unfolding is_flip_flop
flip-flop-kind c n e = eqb-true (kind c n) 1 e

flip-flop-no-gate : (c : List ℕ) (n : ℕ) → is_flip_flop c n ≡ true → is_gate c n ≡ false
unfolding is_gate
flip-flop-no-gate c n e = rw (flip-flop-kind c n e)

few : (x y : Bool) (p : ℕ) → cond x (eqb p 0) (cond y (eqb p 1) (leb 2 p && leb p 4)) ≡ true → p ≤ 4
few true y p e = omega (arith, eqb-true p 0 e)
few false true p e = omega (arith, eqb-true p 1 e)
few false false p e = leb-true p 4 (and_right (leb 2 p) _ e)

-- no line has more than four pins
pub few-pins : (k p : ℕ) → pins_fit k p ≡ true → p ≤ 4
unfolding pins_fit
few-pins k p e = few (eqb k 0) (leb k 3) p e

positive : (n : ℕ) → eqb n 0 ≡ false → 0 < n
positive zero e = absurd (true≢false e)
positive (suc n) e = omega arith

-- ---- the circuit
line-bytes : (c : List ℕ) → 12 * N c ≤ length c
unfolding N
line-bytes c = omega arith

line-limit : (c : List ℕ) → length c ≤ 49152 → N c ≤ 4096
unfolding N
line-limit c h = omega arith

pub valid_circuit : (c : List ℕ) → circuit_rows c ≡ none → ValidCircuit c
unfolding circuit_rows row1 row6
valid_circuit c e =
    let a = (or_else-eq-none (row1 c) _).0 e in
    let b = (or_else-eq-none (first_answer (λ n. rows2to5 c n) (N c)) _).0 a.1 in
    let size : eqb (length c) 0 || not (eqb (length c % 12) 0) || ltb 49152 (length c) ≡ false = refuse-none _ 1 0 a.0 in
    let short : length c ≤ 49152 = ltb-false 49152 (length c) (or_right_false (eqb (length c) 0 || not (eqb (length c % 12) 0)) _ size) in
    let ends : eqb (I c) 0 || eqb (O c) 0 || ltb 256 (I c) || ltb 256 (F c) || ltb 256 (O c) ≡ false = refuse-none _ 6 0 b.1 in
    let flops : eqb (I c) 0 || eqb (O c) 0 || ltb 256 (I c) || ltb 256 (F c) ≡ false = or_left_false _ (ltb 256 (O c)) ends in
    let ins : eqb (I c) 0 || eqb (O c) 0 || ltb 256 (I c) ≡ false = or_left_false _ (ltb 256 (F c)) flops in
    let at : (n : ℕ) → n < N c → Fits c n = λ n h. fits c n (first_answer-none (λ n. rows2to5 c n) (N c) n b.0 h) in
    record {
      size = line-bytes c;
      lines = line-limit c short;
      kinds = λ n h. (at n h).low;
      pinned = λ n h g. has-pin _ _ (at n h).count (omega (arith, gate-kind c n g));
      single = λ n h k. one-pin _ _ (at n h).count k;
      double = λ n h k. two-pins _ _ (at n h).count k;
      few = λ n h. few-pins _ _ (at n h).count;
      lower = λ n i h g k.
          let next : i + 1 ≡ suc i = omega arith in
          leb-false n (pin_line c n (suc i)) (rw (g, next) at (named-at c n i (at n h).named k));
      fed = λ n h g.
          let one : 0 < pin_count c n = has-pin _ _ (at n h).count (omega (arith, flip-flop-kind c n g)) in
          leb-false (N c) (pin_line c n 1) (rw (flip-flop-no-gate c n g) at (named-at c n 0 (at n h).named one));
      some_input = positive _ (or_left_false _ (eqb (O c) 0) (or_left_false _ (ltb 256 (I c)) ins));
      inputs = ltb-false 256 (I c) (or_right_false (eqb (I c) 0 || eqb (O c) 0) _ ins);
      flip_flops = ltb-false 256 (F c) (or_right_false (eqb (I c) 0 || eqb (O c) 0 || ltb 256 (I c)) _ flops);
      outputs = ltb-false 256 (O c) (or_right_false (eqb (I c) 0 || eqb (O c) 0 || ltb 256 (I c) || ltb 256 (F c)) _ ends);
    }

-- ---- the test
total-test : (t : List ℕ) → ((b : ℕ) → b < length t → get_or t b 0 ≤ 1) → TotalRow t
unfolding TotalRow
total-test [] h = tt
total-test (x ∷ t) h = (bit-total x (omega (arith, h 0 (omega arith))), total-test t (λ b q. h (suc b) (omega arith)))

units-positive : (n i : ℕ) → 0 < n → n % i ≡ 0 → 0 < n / i
units-positive n i h e = elim (dec_le 1 (n / i)) [
  | yes g ↦ g
  | no g ↦ (
      let z : n / i ≡ 0 = omega arith in
      let q : n / i * i + n % i ≡ n = div-add-mod' n i in
      let w : 0 * i + 0 ≡ n = rw (z, e) at q in
      omega (arith, zero-mul i))
]

pub valid_test : (c t : List ℕ) → row7 c t ≡ none → row8 t ≡ none → ValidTest c t
unfolding row7 row8 L
valid_test c t e g =
    let size : eqb (length t) 0 || not (eqb (length t % I c) 0) || ltb 1024 (L c t) ≡ false = refuse-none _ 7 0 e in
    let whole : eqb (length t) 0 || not (eqb (length t % I c) 0) ≡ false = or_left_false _ _ size in
    let none_left : length t % I c ≡ 0 = eqb-true _ _ (not-false _ (or_right_false (eqb (length t) 0) _ whole)) in
    record {
      whole = sym (div-add-mod' (length t) (I c)) ∙ rw none_left (let z : length t / I c * I c + 0 ≡ length t / I c * I c = omega arith in z);
      bytes = λ b q. ltb-false 1 (get_or t b 0) (refuse-none _ 8 b (first_answer-none (λ b. refuse (ltb 1 (get_or t b 0)) 8 b) (length t) b g q));
      some = units-positive (length t) (I c) (positive _ (or_left_false _ _ whole)) none_left;
      most = ltb-false 1024 (L c t) (or_right_false (eqb (length t) 0 || not (eqb (length t % I c) 0)) _ size);
    }

-- ---- the faults
fault-fits : (c : List ℕ) (f : Fault) → fault_fits c f ≡ true → ValidFault c f
unfolding fault_fits
fault-fits c f e =
    let both : ltb f.line (N c) && leb f.pin (pin_count c f.line) ≡ true = and_left _ _ e in
    record {
      line = ltb-true _ _ (and_left _ _ both);
      pin = leb-true _ _ (and_right (ltb f.line (N c)) _ both);
      value = leb-true _ _ (and_right (ltb f.line (N c) && leb f.pin (pin_count c f.line)) _ e);
    }

pub valid_fault : (c fs : List ℕ) (j : ℕ) → row10 c fs ≡ none → j < fault_count fs → ValidFault c (fault_at fs j)
unfolding row10
valid_fault c fs j e h =
    fault-fits c (fault_at fs j)
    (not-false _ (refuse-none _ 10 j (first_answer-none (λ j. refuse (not (fault_fits c (fault_at fs j))) 10 j) (fault_count fs) j e h)))

fault-bytes : (fs : List ℕ) → length fs % 4 ≡ 0 → length fs ≡ 4 * fault_count fs
unfolding fault_count
fault-bytes fs e = omega arith

pub valid_inputs : (c t : List ℕ) (least most : ℕ) (fs : List ℕ) → input_rows c t least most fs ≡ none → ValidInputs c t least most fs
unfolding input_rows row9
valid_inputs c t least most fs e =
    let a = (or_else-eq-none (circuit_rows c) _).0 e in
    let b = (or_else-eq-none (row7 c t) _).0 a.1 in
    let d = (or_else-eq-none (row8 t) _).0 b.1 in
    let g = (or_else-eq-none (row9 least most fs) _).0 d.1 in
    let size : not (eqb (length fs % 4) 0) || ltb (fault_count fs) least || ltb most (fault_count fs) ≡ false = refuse-none _ 9 0 g.0 in
    let low : not (eqb (length fs % 4) 0) || ltb (fault_count fs) least ≡ false = or_left_false _ _ size in
    record {
      circuit = valid_circuit c a.0;
      test = valid_test c t b.0 d.0;
      whole = fault-bytes fs (eqb-true _ _ (not-false _ (or_left_false _ _ low)));
      enough = ltb-false (fault_count fs) least (or_right_false (not (eqb (length fs % 4) 0)) _ low);
      few = ltb-false most (fault_count fs) (or_right_false (not (eqb (length fs % 4) 0) || ltb (fault_count fs) least) _ size);
      fault = λ j h. valid_fault c fs j g.1 h;
    }

-- one of the faults
pub valid_job : {c t : List ℕ} {f : Fault} → ValidCircuit c → ValidTest c t → ValidFault c f → FaultJob c t f
valid_job {t = t} circuit test fault = record {
  circuit = circuit;
  test = total-test t test.bytes;
  units = test.some;
  value = bit-total _ (omega (arith, fault.value));
}

pub fault_job : {c t fs : List ℕ} {least most : ℕ} → ValidInputs c t least most fs → (j : ℕ) → j < fault_count fs → FaultJob c t (fault_at fs j)
fault_job valid j h = valid_job valid.circuit valid.test (valid.fault j h)

-- ---- plan, k, the two areas, seed and time units
pub plan-fits : (p : List ℕ) → row11 p ≡ none → (length p ≡ 4 * plan_count p) × (plan_count p ≤ 4096)
unfolding row11 plan_count
plan-fits p e =
    let size : not (eqb (length p % 4) 0) || ltb 4096 (length p / 4) ≡ false = refuse-none _ 11 0 e in
    let whole : length p % 4 ≡ 0 = eqb-true _ _ (not-false _ (or_left_false _ _ size)) in
    (omega arith, ltb-false 4096 _ (or_right_false (not (eqb (length p % 4) 0)) _ size))

pub k-fits : (k : ℕ) → row12 k ≡ none → k ≤ 12
unfolding row12
k-fits k e = ltb-false 12 k (refuse-none _ 12 0 e)

pub work_fits : (c t : List ℕ) (work : ℕ) → row13 c t work ≡ none → work_bytes c t ≤ work
unfolding row13
work_fits c t work e = ltb-false work _ (refuse-none _ 13 0 e)

pub result_fits : (size result : ℕ) → row14 size result ≡ none → size ≤ result
unfolding row14
result_fits size result e = ltb-false result size (refuse-none _ 14 0 e)

pub seed-fits : (seed : ℕ) → row16 seed ≡ none → 0 < seed
unfolding row16
seed-fits seed e = positive _ (refuse-none _ 16 0 e)

pub units-fit : (units : ℕ) → row17 units ≡ none → (0 < units) × (units ≤ 1024)
unfolding row17
units-fit units e =
    let size : eqb units 0 || ltb 1024 units ≡ false = refuse-none _ 17 0 e in
    (positive _ (or_left_false _ (ltb 1024 units) size), ltb-false 1024 units (or_right_false (eqb units 0) _ size))

-- ---- the calls
pub simulate_ready : (c t fs : List ℕ) (work result : ℕ) → simulate_refusal c t fs work result ≡ none → SimulateReady c t fs work result
unfolding simulate_refusal
simulate_ready c t fs work result e =
    let a = (or_else-eq-none (input_rows c t 0 1 fs) _).0 e in
    let b = (or_else-eq-none (row13 c t work) _).0 a.1 in
    record { inputs = valid_inputs c t 0 1 fs a.0; work_room = work_fits c t work b.0; result_room = result_fits _ result b.1 }

pub grade_ready : (c t fs p : List ℕ) (k work result : ℕ) → grade_refusal c t fs p k work result ≡ none → GradeReady c t fs p k work result
unfolding grade_refusal
grade_ready c t fs p k work result e =
    let a = (or_else-eq-none (input_rows c t 0 32768 fs) _).0 e in
    let b = (or_else-eq-none (row11 p) _).0 a.1 in
    let d = (or_else-eq-none (row12 k) _).0 b.1 in
    let g = (or_else-eq-none (row13 c t work) _).0 d.1 in
    record {
      inputs = valid_inputs c t 0 32768 fs a.0;
      plan = (plan-fits p b.0).0;
      pairs = (plan-fits p b.0).1;
      limit = k-fits k d.0;
      work_room = work_fits c t work g.0;
      result_room = result_fits _ result g.1;
    }

pub choose_ready : (c t fs : List ℕ) (k work result : ℕ) → choose_refusal c t fs k work result ≡ none → ChooseReady c t fs k work result
unfolding choose_refusal
choose_ready c t fs k work result e =
    let a = (or_else-eq-none (input_rows c t 1 1 fs) _).0 e in
    let b = (or_else-eq-none (row12 k) _).0 a.1 in
    let d = (or_else-eq-none (row13 c t work) _).0 b.1 in
    record {
      inputs = valid_inputs c t 1 1 fs a.0;
      limit = k-fits k b.0;
      work_room = work_fits c t work d.0;
      result_room = result_fits _ result d.1;
    }

pub group_ready : (vs : List ℕ) (result : ℕ) → group_refusal vs result ≡ none → GroupReady vs result
unfolding group_refusal row15
group_ready vs result e =
    let a = (or_else-eq-none (row15 vs) _).0 e in
    let size : not (eqb (length vs % 16) 0) || ltb 524288 (length vs) ≡ false = refuse-none _ 15 0 a.0 in
    let whole : length vs % 16 ≡ 0 = eqb-true _ _ (not-false _ (or_left_false _ _ size)) in
    record {
      whole = omega arith;
      most = ltb-false 524288 _ (or_right_false (not (eqb (length vs % 16) 0)) _ size);
      result_room = result_fits _ result a.1;
    }

pub generate_ready : (c : List ℕ) (seed units result : ℕ) → generate_refusal c seed units result ≡ none → GenerateReady c seed units result
unfolding generate_refusal
generate_ready c seed units result e =
    let a = (or_else-eq-none (circuit_rows c) _).0 e in
    let b = (or_else-eq-none (row16 seed) _).0 a.1 in
    let d = (or_else-eq-none (row17 units) _).0 b.1 in
    record {
      circuit = valid_circuit c a.0;
      seeded = seed-fits seed b.0;
      some = (units-fit units d.0).0;
      most = (units-fit units d.0).1;
      result_room = result_fits _ result d.1;
    }

-- ---- what a call returns and leaves in its result area, accepted or refused
size_of : Answer → Option ℕ
size_of (done n) = some n
size_of (refused a b) = none

place_of : Answer → Refusal
place_of (done n) = none
place_of (refused a b) = some (a, b)

-- a call that is done was not refused
pub answered : (r : Refusal) (size n : ℕ) → answer r size ≡ done n → (r ≡ none) × (size ≡ n)
unfolding answer size_of
answered none size n e = (refl, ap (λ a. Option.get_or (size_of a) 0) e)
answered (some q) size n e = absurd (none-ne-some n (ap size_of e))

-- one that is refused was refused by that row
pub turned-away : (r : Refusal) (size number position : ℕ) → answer r size ≡ refused number position → r ≡ some (number, position)
unfolding answer size_of place_of
turned-away none size number position e = absurd (some-ne-none size (ap size_of e))
turned-away (some q) size number position e = ap place_of e

module _ (r : Refusal) where
  pub answer-done : (size : ℕ) → r ≡ none → answer r size ≡ done size
  unfolding answer
  answer-done size e = rw e

  pub answer-refused : (size : ℕ) (q : ℕ × ℕ) → r ≡ some q → answer r size ≡ refused q.0 q.1
  unfolding answer
  answer-refused size q e = rw e

  pub area-done : (new old : List ℕ) → r ≡ none → unless_refused r new old ≡ new
  unfolding unless_refused
  area-done new old e = rw e

  pub area-refused : (new old : List ℕ) (q : ℕ × ℕ) → r ≡ some q → unless_refused r new old ≡ old
  unfolding unless_refused
  area-refused new old q e = rw e
