-- What a call of Grade gives and leaves, and the tables that it needs.
use Rattle.std.specs.Prelude.{◌≡◌, List, ℕ, ◌*◌, ◌≤◌, min, length, Result}
use Rattle.model.specs.Refusals.{grade_refusal, unless_refused}
use Rattle.model.specs.Grade.{grade_answer, grade_area}
use Rattle.job.specs.Job.{answer_of}
use Rattle.rules.specs.declared.Refusal.{Refusal}

-- A table of this length has a byte for each state bit of each unit, whatever job is accepted: number 13 asks of the work area for 16 bytes each, and no job has
-- more than 256 × 1,024.
pub record TableRoom (work table : ℕ) : Type 0 where
  pub room : min work 4194304 ≤ 16 * table

-- the answer, the result area, and on a refusal the work area
pub record Graded (c t fs p : List ℕ) (k : ℕ) (work result work' result' : List ℕ) (r : Result ℕ Refusal) : Type 0 where
  pub answers : answer_of r ≡ grade_answer c t fs p k (length work) (length result)
  pub writes : result' ≡ grade_area c t fs p k (length work) result
  pub keeps : work' ≡ unless_refused (grade_refusal c t fs p k (length work) (length result)) work' work
