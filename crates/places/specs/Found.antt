-- What stage 1 finds of a batch of faults.
use Rattle.std.specs.Prelude.{◌≡◌, false, cond, List, ℕ, ◌+◌, ◌*◌, ◌<◌, ◌≤◌, ltb, length}
use Rattle.std.proofs.Math.Option.{none, some}
use Rattle.lists.specs.Scan.{first_pair}
use Rattle.model.specs.Inputs.{N, L, Fault, fault_at}
use Rattle.model.specs.Accepted.{ValidFault}
use Rattle.model.specs.Expansion.{nout}
use Rattle.model.specs.Grade.{opposed_at}
use Rattle.lanes.specs.Lane.{bit}
use Rattle.plain.specs.declared.Firsts.{Firsts}
use Rattle.plain.specs.Places.{place_at}

-- so many faults of a list, from one on, which the lanes can have
pub record Faults (c fs : List ℕ) (from count : ℕ) : Type 0 where
  pub few : count ≤ 64
  pub room : 4 * (from + count) ≤ length fs
  pub valid : (s : ℕ) → s < count → ValidFault c (fault_at fs (from + s))

-- What stage 1 finds of a fault in the first so many units: the place noted for the lane, if its bit is set; else, where these are all units,
-- whether Nout(0) is above 0.
pub record FirstOf (c t : List ℕ) (f : Fault) (units : ℕ) (firsts : Firsts) (lane : ℕ) (times lines : List ℕ) : Type 0 where
  pub place : first_pair (λ u n. opposed_at c t f u n) units (N c) ≡ cond (bit lane firsts.found) (some (place_at times lines lane)) none
  pub left : units ≡ L c t → bit lane firsts.found ≡ false → bit lane firsts.left ≡ ltb 0 (nout c t f 0)

-- what it finds of a batch
pub record Found (c t fs : List ℕ) (from count units : ℕ) (firsts : Firsts) (times lines : List ℕ) : Type 0 where
  pub of : (lane : ℕ) → lane < count → FirstOf c t (fault_at fs (from + lane)) units firsts lane times lines
