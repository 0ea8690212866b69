-- What a verdict of the code stands for, and an area with records in it.
use Rattle.std.specs.Prelude.{◌≡◌, List, ℕ}
use Rattle.lists.specs.Scan.{gather}
use Rattle.lists.specs.Field.{overwritten}
use Rattle.model.specs.Grade.{Verdict, record_bytes}
use Rattle.record.specs.declared.Verdict as code

-- the verdict of the definitions that has the same eight fields
unfoldable pub verdict_of : code.Verdict → Verdict
verdict_of v = record {
  verdict = v.verdict;
  m = v.m;
  time = v.time;
  line = v.line;
  differing = v.differing;
  clashing = v.clashing;
  surviving = v.surviving;
  start = v.start;
}

-- verdicts 3, 4, 6, 7 carry m and the three counts; fields not named for a verdict are 0
unfoldable pub carrying : ℕ → ℕ → ℕ → ℕ → ℕ → ℕ → Verdict
carrying v m differing clashing surviving start =
    record { verdict = v; m = m; time = 0; line = 0; differing = differing; clashing = clashing; surviving = surviving; start = start }

-- the area holds the records of the verdicts v 0, .. , v (n - 1), and behind them what it held before
pub record RecordsOf (v : ℕ → Verdict) (n : ℕ) (old area : List ℕ) : Type 0 where
  pub all : area ≡ overwritten (gather (λ j. record_bytes (v j)) n) old
