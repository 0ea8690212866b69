-- The first opposing place of each lane, in two lists: times and lines.
use Rattle.std.specs.Prelude.{ℕ, ◌<◌, ◌≡◌, false, cond, List, get_or, ltb}
use Rattle.std.proofs.Math.Option.{none, some}
use Rattle.lists.specs.Scan.{first_pair}
use Rattle.lists.specs.Field.{Rows}
use Rattle.model.specs.Inputs.{N, O, L, Fault}
use Rattle.model.specs.Simulation.{power_up, free_outputs}
use Rattle.model.specs.Expansion.{nout}
use Rattle.model.specs.Grade.{opposed_at}
use Rattle.lanes.specs.Lane.{bit, Lane}
use Rattle.unit.specs.Unit.{Stuck}
use Rattle.plain.specs.declared.Firsts.{Firsts}

-- the place noted for a lane: a time unit and a line
abbrev pub place_at : List ℕ → List ℕ → ℕ → ℕ × ℕ
place_at times lines lane = (get_or times lane 0, get_or lines lane 0)

-- a place is noted for the new lanes; all others keep theirs
pub record Noted (new u line : ℕ) (times lines times' lines' : List ℕ) : Type 0 where
  pub at : (lane : ℕ) → lane < 64 → place_at times' lines' lane ≡ cond (bit lane new) (u, line) (place_at times lines lane)

-- Of each lane below count, from the power-up state and over the first so many units: the lowest time unit, and in it the lowest line number,
-- at which an output opposes what the fault-free circuit shows, which the rows of `free` hold. A lane has a place if its bit of r's first word
-- is set; of a lane that has none in all the test's units the bit of the second says whether Nout(0) is above 0.
pub record Places (c t free : List ℕ) (count units : ℕ) (hits masks state times lines : List ℕ) (r : Firsts) : Type 0 where
  pub first : (lane : ℕ) (f : Fault) → lane < count → Stuck lane hits masks f → Lane lane state (power_up c) → Rows (O c) (L c t) free (free_outputs c t)
      → first_pair (λ u n. opposed_at c t f u n) units (N c) ≡ cond (bit lane r.found) (some (place_at times lines lane)) none
  pub left : (lane : ℕ) (f : Fault) → lane < count → Stuck lane hits masks f → Lane lane state (power_up c) → Rows (O c) (L c t) free (free_outputs c t)
      → units ≡ L c t → bit lane r.found ≡ false → bit lane r.left ≡ ltb 0 (nout c t f 0)
