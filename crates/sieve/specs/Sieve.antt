-- Records of which some are marks: a record that starts with 0 is that of an open fault, which has no verdict yet.
use Rattle.std.specs.Prelude.{◌≡◌, Bool, true, false, cond, List, ℕ, ◌+◌, ◌*◌, ◌<◌, ◌≤◌, eqb, get_or, drop}
use Rattle.std.proofs.Math.Option
use Rattle.lists.specs.Scan.{first_pair, count_below}
use Rattle.lists.specs.Field.{row_of}
use Rattle.model.specs.Inputs.{N, Fault, fault_count, fault_at}
use Rattle.model.specs.Grade.{Verdict, placed, at_pair, opposed_at, grade, record_bytes}
use Rattle.record.specs.Record.{RecordsOf}
use Rattle.lanes.specs.Lane.{bit}
use Rattle.plain.specs.declared.Firsts.{Firsts}
use Rattle.sieve.specs.declared.Pack.{Pack}

-- Stage 1 over the first so many units alone: verdict 1 if the fault shows itself there, else no verdict, which is 0.
unfoldable pub early : List ℕ → List ℕ → ℕ → Fault → Verdict
early c t units f = Option.get_or (at_pair (λ u n. placed 1 u n) (first_pair (λ u n. opposed_at c t f u n) units (N c))) (placed 0 0 0)

-- the same, from what a lane has found
unfoldable pub noted : Firsts → ℕ → List ℕ → List ℕ → Verdict
noted firsts lane times lines = cond (bit lane firsts.found) (placed 1 (get_or times lane 0) (get_or lines lane 0)) (placed 0 0 0)

-- so many records, from one on, are those of the verdicts v
pub record WrittenTo (v : ℕ → Verdict) (from to : ℕ) (before after : List ℕ) : Type 0 where
  pub records : (old : List ℕ) → RecordsOf v from old before → RecordsOf v to old after

-- those that the lanes have found
pub record NotedTo (from count : ℕ) (firsts : Firsts) (times lines before after : List ℕ) : Type 0 where
  pub written : (v : ℕ → Verdict) → ((s : ℕ) → s < count → v (from + s) ≡ noted firsts s times lines) → WrittenTo v from (from + count) before after

-- record j of the area is a mark
unfoldable pub is_mark : List ℕ → ℕ → Bool
is_mark area j = eqb (get_or area (16 * j) 0) 0

-- how many of the first j records are
unfoldable pub marks_below : List ℕ → ℕ → ℕ
marks_below area j = count_below (λ i. is_mark area i) j

-- Of the faults between `from` and `to`: each has its record, whatever plan and k are, or a mark.
pub record Sieved (c t fs : List ℕ) (from to : ℕ) (area : List ℕ) : Type 0 where
  pub at : (j : ℕ) → from ≤ j → j < to → is_mark area j ≡ false → (p : List ℕ) (k : ℕ) → row_of 16 area j ≡ record_bytes (grade c t (fault_at fs j) p k)

-- all of the list's faults are sieved, and nothing behind their records is written
pub record SievedAll (c t fs before after : List ℕ) : Type 0 where
  pub sieved : Sieved c t fs 0 (fault_count fs) after
  pub behind : drop (16 * fault_count fs) after ≡ drop (16 * fault_count fs) before

-- fault s of the few is fault j of the list; those before it are what they were
pub record CopiedTo (fs : List ℕ) (j s : ℕ) (few few' : List ℕ) : Type 0 where
  pub here : fault_at few' s ≡ fault_at fs j
  pub others : (i : ℕ) → i < s → fault_at few' i ≡ fault_at few i

-- The next pack of a list's first `most` faults, from one on: the open ones below `to`, in order.
pub record Packed (fs area : List ℕ) (from most : ℕ) (few : List ℕ) (r : Pack) : Type 0 where
  pub lanes : r.size ≤ 64
  pub above : from ≤ r.to
  pub below : r.to ≤ most
  pub onward : from < most → from < r.to
  pub faults : (s : ℕ) → s < r.size → (j : ℕ) × (j < most) × (fault_at few s ≡ fault_at fs j)
  pub at : (j s : ℕ) → from ≤ j → j < r.to → is_mark area j ≡ true → marks_below area from + s ≡ marks_below area j
      → (s < r.size) × (fault_at few s ≡ fault_at fs j)
