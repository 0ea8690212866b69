-- What is promised of the bytes that Grade writes, for every accepted job, of the counts in its print, and of the bytes that Choose and
-- Generate write; and what holds of the definitions, so that they say what document 01 does. The theorems are in proofs/Theorems.
use Rattle.std.specs.Prelude.{◌≡◌, ◌↔◌, ℕ, suc, ◌+◌, ◌*◌, ◌-◌, ◌^◌, ◌≤◌, ◌<◌, Bool, true, false, ◌||◌, List, get_or, length, take, drop, eqb}
use Rattle.std.proofs.Math.Option.{none, some}
use Rattle.lists.specs.Scan.{select, sum}
use Rattle.model.specs.Inputs.{pin_line, flip_flop_line, F, L, Fault, fault_count, fault_at, plan_pair}
use Rattle.model.specs.Refusals.{Answer, done, row7, row8, row11, grade_refusal}
use Rattle.model.specs.Values.{X, has_conflict}
use Rattle.model.specs.Starts.{free_bits, starting_state, start_count, differs}
use Rattle.model.specs.Simulation.{plain_values}
use Rattle.model.specs.Expansion.{tried}
use Rattle.model.specs.Sequences.{takes, taken_of, taken, sequence_row}
use Rattle.model.specs.Grade.{Verdict, record_at, stage4, before_stage5, grade}
use Rattle.model.specs.Choose.{better}
use Rattle.model.specs.Generate.{stepped}

-- st gives each flip-flop's state bit 0 or 1
pub record Setting (c st : List ℕ) : Type 0 where
  pub size : length st ≡ F c
  pub low : (i : ℕ) → i < length st → get_or st i X ≤ 1

-- The numbers below the count of starting states name every setting of the state bits, each once.
pub record EveryStart (c : List ℕ) : Type 0 where
  pub settings : (s : ℕ) → s < start_count c → Setting c (starting_state c s)
  pub every : (st : List ℕ) → Setting c st → (s : ℕ) × (s < start_count c) × (starting_state c s ≡ st)
  pub once : (s r : ℕ) → s < start_count c → r < start_count c → starting_state c s ≡ starting_state c r → s ≡ r

-- every starting state of the circuit with the fault differs
abbrev pub EveryDiffers : List ℕ → List ℕ → Fault → Type 0
EveryDiffers c t f = (s : ℕ) → s < start_count c → differs c t f s ≡ true

-- some starting state never does
abbrev pub SomeNever : List ℕ → List ℕ → Fault → Type 0
SomeNever c t f = (s : ℕ) × (s < start_count c) × (differs c t f s ≡ false)

-- s is the lowest starting state that never differs
pub record LowestNever (c t : List ℕ) (f : Fault) (s : ℕ) : Type 0 where
  pub state : s < start_count c
  pub never : differs c t f s ≡ false
  pub lowest : (r : ℕ) → r < s → differs c t f r ≡ true

-- Demand 3, of one record's verdict and start. Verdicts 1 to 4 are given only if every starting state differs; 5 and 6 only if some
-- starting state never does, and verdict 6 names the lowest such state. Where the flip-flops number at most k, verdicts 1 to 4 are given
-- exactly when every starting state differs, 5 or 6 exactly when some never does, and 7, undecided, never.
pub record Promise (c t : List ℕ) (f : Fault) (k verdict start : ℕ) : Type 0 where
  pub detected : 1 ≤ verdict → verdict ≤ 4 → EveryDiffers c t f
  pub undetected : 5 ≤ verdict → verdict ≤ 6 → SomeNever c t f
  pub names : verdict ≡ 6 → LowestNever c t f start
  pub exactly_detected : free_bits c ≤ k → ((1 ≤ verdict) × (verdict ≤ 4)) ↔ EveryDiffers c t f
  pub exactly_undetected : free_bits c ≤ k → ((5 ≤ verdict) × (verdict ≤ 6)) ↔ SomeNever c t f
  pub decided : free_bits c ≤ k → verdict ≡ 7 → ⊥

-- demand 3 of every record in an area that Grade has written: a clause of Grade's contract
abbrev pub Demand3 : List ℕ → List ℕ → List ℕ → List ℕ → ℕ → ℕ → List ℕ → List ℕ → Type 0
Demand3 c t fs p k work old new =
    grade_refusal c t fs p k work (length old) ≡ none → (j : ℕ) → j < fault_count fs
    → Promise c t (fault_at fs j) k (record_at new j).verdict (record_at new j).start

-- verdicts 3, 4, 6, 7 carry m and the three counts
abbrev pub carries_counts : ℕ → Bool
carries_counts v = eqb v 3 || eqb v 4 || eqb v 6 || eqb v 7

-- Every verdict lies between 1 and 7, m is at most k, every field fits its 8 or 16 bits, and where a record carries counts they sum to 2^m.
pub record InBounds (k : ℕ) (v : Verdict) : Type 0 where
  pub low : 1 ≤ v.verdict
  pub high : v.verdict ≤ 7
  pub pairs : v.m ≤ k
  pub m : v.m < 256
  pub time : v.time < 65536
  pub line : v.line < 65536
  pub differing : v.differing < 65536
  pub clashing : v.clashing < 65536
  pub surviving : v.surviving < 65536
  pub start : v.start < 65536
  pub sum : carries_counts v.verdict ≡ true → v.differing + v.clashing + v.surviving ≡ 2 ^ v.m

-- the 16 bytes of record j
abbrev pub record_part : List ℕ → ℕ → List ℕ
record_part area j = take 16 (drop (16 * j) area)

-- Of the seven counts under a job's lines: that for verdict v is the number of faults to which Grade gives it, and they sum to the number of
-- faults.
pub record Totals (c t fs p : List ℕ) (k : ℕ) (counts : List ℕ) : Type 0 where
  pub seven : length counts ≡ 7
  pub each : (v : ℕ) → 1 ≤ v → v ≤ 7 → get_or counts (v - 1) 0 ≡ length (select (λ j. eqb (grade c t (fault_at fs j) p k).verdict v) (fault_count fs))
  pub all : sum counts ≡ fault_count fs

-- Of a plan p of n pairs, read as Grade reads it: what holds of the bytes that Choose writes. There are up to k pairs, and Grade accepts them
-- as a plan. Every pair is taken by Grade with the same k and just these pairs as the plan. None that could be taken in its place is better.
-- None is written for verdicts 1, 2, 5. Grade's record carries their number as m. Choose stops early only when no pair could be taken.
pub record WellChosen (c t : List ℕ) (f : Fault) (k n : ℕ) (p : List ℕ) : Type 0 where
  pub size : length p ≡ 4 * n
  pub fits : n ≤ k
  pub accepted : row11 p ≡ none
  pub all_taken : length (taken c t f p k) ≡ n
  pub best : (m : ℕ) → m < n → (u i : ℕ) → takes c t f (taken_of c t f p k m) u i ≡ true → better c t f u i (plan_pair p m).0 (plan_pair p m).1 ≡ false
  pub decided : (v : Verdict) → before_stage5 c t f ≡ some v → n ≡ 0
  pub carried : (grade c t f p k).m ≡ n
  pub stops : before_stage5 c t f ≡ none → n < k → (u i : ℕ) → takes c t f (taken c t f p k) u i ≡ false

-- that of the bytes at the beginning of an area that Choose has written, as many as its answer says: a clause of Choose's contract
abbrev pub ChoosesWell : List ℕ → List ℕ → List ℕ → ℕ → Answer → List ℕ → Type 0
ChoosesWell c t fs k answer new = (n : ℕ) → answer ≡ done n → WellChosen c t (fault_at fs 0) k n (take (4 * n) new)

-- A flip-flop's pin line that is given a value has X in plain simulation, so the value never meets the opposite one: of a pair that stage 3
-- tries, and of one that stage 5 takes.
pub record PinsOpen (c t : List ℕ) (f : Fault) : Type 0 where
  pub when_tried : (u i : ℕ) → i < F c → tried c t f (suc u) i ≡ true → get_or (plain_values c t f u) (pin_line c (flip_flop_line c i) 1) X ≡ X
  pub when_taken : (pairs : List (ℕ × ℕ)) (u i : ℕ) → takes c t f pairs (suc u) i ≡ true
      → get_or (plain_values c t f u) (pin_line c (flip_flop_line c i) 1) X ≡ X

-- Where stage 4 gives no verdict, the list of a sequence has no conflict in it, at unit 0 too: a bit is specified there by the state list or
-- by one of the pairs taken, never by two of them.
abbrev pub ClearLists : List ℕ → List ℕ → Fault → Type 0
ClearLists c t f =
    stage4 c t f ≡ none → (p : List ℕ) (k b u : ℕ) → u < L c t → has_conflict (sequence_row c t f (taken c t f p k) b u) ≡ false

-- t is a test of circuit c, by rows 7 and 8, and has so many time units
pub record TestOf (c : List ℕ) (units : ℕ) (t : List ℕ) : Type 0 where
  pub size : row7 c t ≡ none
  pub bytes : row8 t ≡ none
  pub whole : L c t ≡ units

-- that of the bytes at the beginning of an area that Generate has written, as many as its answer says: a clause of Generate's contract
abbrev pub GeneratesTest : List ℕ → ℕ → Answer → List ℕ → Type 0
GeneratesTest c units answer new = (n : ℕ) → answer ≡ done n → TestOf c units (take n new)

-- After however many steps the number is above zero and has at most 16 bits.
abbrev pub NeverZero : ℕ → Type 0
NeverZero seed = (n : ℕ) → (0 < stepped seed n) × (stepped seed n < 65536)
