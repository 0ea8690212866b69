-- Grade: six stages for each fault. The stages go in order, and the first that gives a verdict ends that fault's work.
use Rattle.std.specs.Prelude.{ℕ, ◌+◌, ◌*◌, Bool, cond, not, ◌&&◌, List, [], ◌∷◌, ◌++◌, get_or, length, eqb, leb}
use Rattle.std.proofs.Math.Option
use Rattle.std.proofs.Math.Option.{Option, none, some}
use Rattle.lists.specs.Scan.{◌else◌, first, first_pair, any_below, gather}
use Rattle.lists.specs.Field.{word16, bytes16, overwritten}
use Rattle.model.specs.Inputs.{N, is_output, flip_flop_line, F, L, Fault, fault_count, fault_at}
use Rattle.model.specs.Refusals.{Answer, answer, unless_refused, grade_refusal}
use Rattle.model.specs.Values.{opposes}
use Rattle.model.specs.Simulation.{no_fault, shown, plain_values, free_values}
use Rattle.model.specs.Starts.{free_bits, start_count, differs}
use Rattle.model.specs.Expansion.{both_open, both_marked, opposed_write}
use Rattle.model.specs.Sequences.{taken, count_ending, ends_surviving, ends_differing, ends_clashing}

pub record Verdict : Type 0 where
  pub verdict : ℕ
  pub m : ℕ
  pub time : ℕ
  pub line : ℕ
  pub differing : ℕ
  pub clashing : ℕ
  pub surviving : ℕ
  pub start : ℕ

-- the record's first eight fields
unfoldable pub eight_fields : Verdict → List ℕ
eight_fields v = v.verdict ∷ v.m ∷ v.time ∷ v.line ∷ v.differing ∷ v.clashing ∷ v.surviving ∷ v.start ∷ []

-- fields not named for a verdict are 0
unfoldable pub placed : ℕ → ℕ → ℕ → Verdict
placed v time line = record { verdict = v; m = 0; time = time; line = line; differing = 0; clashing = 0; surviving = 0; start = 0 }

-- the verdict that a pair gives, if one was found
unfoldable pub at_pair : (ℕ → ℕ → Verdict) → Option (ℕ × ℕ) → Option Verdict
at_pair make none = none
at_pair make (some q) = some (make q.0 q.1)

module _ (c t : List ℕ) (f : Fault) where
  -- output n at unit u shows the opposite of its fault-free value
  unfoldable pub opposed_at : ℕ → ℕ → Bool
  opposed_at u n = is_output c n && opposes (shown no_fault (free_values c t u) n) (shown f (plain_values c t f u) n)

  -- Plain responses oppose: verdict 1, with the lowest time unit, and in it the lowest line number.
  unfoldable pub stage1 : Option Verdict
  stage1 = at_pair (λ u n. placed 1 u n) (first_pair (λ u n. opposed_at u n) (L c t) (N c))

  -- No u has both above 0: verdict 5.
  unfoldable pub stage2 : Option Verdict
  stage2 = cond (any_below (λ u. both_open c t f u) (L c t)) none (some (placed 5 0 0))

  -- First pair with both marked: verdict 2, with u and the flip-flop's line.
  unfoldable pub stage3 : Option Verdict
  stage3 = at_pair (λ u i. placed 2 u (flip_flop_line c i)) (first_pair (λ u i. both_marked c t f u i) (L c t) (F c))

  -- A write against an opposite value: verdict 2, with the writing pair's u and its flip-flop's line.
  unfoldable pub stage4 : Option Verdict
  stage4 = at_pair (λ u i. placed 2 u (flip_flop_line c i)) (first_pair (λ u i. opposed_write c t f u i) (L c t) (F c))

  unfoldable pub before_stage5 : Option Verdict
  before_stage5 = stage1 else stage2 else stage3 else stage4

  module _ (p : List ℕ) (k : ℕ) where
    -- verdicts 3, 4, 6, 7 carry m and the three counts
    unfoldable pub counted : ℕ → ℕ → Verdict
    counted v start =
        let pairs = taken c t f p k in
        record {
          verdict = v;
          m = length pairs;
          time = 0;
          line = 0;
          differing = count_ending c t f pairs ends_differing;
          clashing = count_ending c t f pairs ends_clashing;
          surviving = count_ending c t f pairs ends_surviving;
          start = start;
        }

    -- None survives: verdict 3.
    unfoldable pub stage5 : Option Verdict
    stage5 = cond (eqb (count_ending c t f (taken c t f p k) ends_surviving) 0) (some (counted 3 0)) none

    -- the first that never differs gives verdict 6 with its number, none gives verdict 4
    unfoldable pub from_start : Option ℕ → Verdict
    from_start none = counted 4 0
    from_start (some s) = counted 6 s

    -- F ≤ k: try starting states from 0. F > k: verdict 7.
    unfoldable pub stage6 : Verdict
    stage6 = cond (leb (free_bits c) k) (from_start (first (λ s. not (differs c t f s)) (start_count c))) (counted 7 0)

    unfoldable pub grade : Verdict
    grade = Option.get_or (before_stage5 else stage5) stage6

-- Verdict record, 16 bytes: verdict, m, then 16-bit time, line, differing, clashing, surviving, start, and 0.
unfoldable pub record_bytes : Verdict → List ℕ
record_bytes v =
    v.verdict ∷ v.m ∷ bytes16 v.time ++ bytes16 v.line
    ++ bytes16 v.differing ++ bytes16 v.clashing ++ bytes16 v.surviving ++ bytes16 v.start ++ bytes16 0

-- record j of an area
unfoldable pub record_at : List ℕ → ℕ → Verdict
record_at area j = record {
  verdict = get_or area (16 * j) 0;
  m = get_or area (16 * j + 1) 0;
  time = word16 area (16 * j + 2);
  line = word16 area (16 * j + 4);
  differing = word16 area (16 * j + 6);
  clashing = word16 area (16 * j + 8);
  surviving = word16 area (16 * j + 10);
  start = word16 area (16 * j + 12);
}

-- Grade takes the four inputs and k and writes one record per fault.
unfoldable pub grade_bytes : List ℕ → List ℕ → List ℕ → List ℕ → ℕ → List ℕ
grade_bytes c t fs p k = gather (λ j. record_bytes (grade c t (fault_at fs j) p k)) (fault_count fs)

-- what Grade returns: the number of records written
unfoldable pub grade_answer : List ℕ → List ℕ → List ℕ → List ℕ → ℕ → ℕ → ℕ → Answer
grade_answer c t fs p k work result = answer (grade_refusal c t fs p k work result) (fault_count fs)

-- what its result area holds afterwards, where it held `old`
unfoldable pub grade_area : List ℕ → List ℕ → List ℕ → List ℕ → ℕ → ℕ → List ℕ → List ℕ
grade_area c t fs p k work old =
    unless_refused (grade_refusal c t fs p k work (length old)) (overwritten (grade_bytes c t fs p k) old) old
