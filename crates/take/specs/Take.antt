-- The plan's pairs, taken one after another: the tests of a pair, its two extras, and the table of those taken.
use Rattle.std.specs.Prelude.{◌≡◌, Bool, true, false, not, ◌&&◌, ◌||◌, List, ◌++◌, ℕ, ◌+◌, ◌*◌, ◌<◌, ◌≤◌, leb, ltb, get_or, length, take, drop}
use Rattle.lists.specs.Field.{overwritten, row_of, Rows}
use Rattle.model.specs.Inputs.{F, O, L, Fault}
use Rattle.model.specs.Accepted.{ThreeValued, ValidFault}
use Rattle.model.specs.Values.{is_specified}
use Rattle.model.specs.Simulation.{plain_state, free_outputs}
use Rattle.model.specs.Implication.{where_x, nothing, extra}
use Rattle.model.specs.Expansion.{state_row}
use Rattle.model.specs.Sequences.{overlaps, touches, take_next, taken}
use Rattle.lanes.specs.Lane.{bit, Lane}
use Rattle.unit.specs.Unit.{Stuck}
use Rattle.pending.specs.Pending.{OpenUnits}
use Rattle.sequences.specs.Ends.{Taken}

-- ---- what is given
-- Of the fault that all lanes have: its table of plain states, the responses without it, its state list, and where Nout is above 0.
pub record Prepared (c t free states list hits masks : List ℕ) (left : ℕ) (f : Fault) : Type 0 where
  pub stuck : (lane : ℕ) → lane < 64 → Stuck lane hits masks f
  pub fault : ValidFault c f
  pub plain : Rows (F c) (L c t) states (λ u. plain_state c t f u)
  pub frees : Rows (O c) (L c t) free (λ u. free_outputs c t u)
  pub rows : Rows (F c) (L c t) list (λ u. state_row c t f u)
  pub above : OpenUnits c t f left

-- ---- the tests that need no trial
-- Fewer than k pairs are taken; the pair names a unit and a flip-flop; outputs are left before it; its bit is X in the state list.
unfoldable pub may_take : ℕ → ℕ → ℕ → ℕ → ℕ → ℕ → ℕ → List ℕ → Bool
may_take m k u units i size left list = ltb m k && (ltb u units && (ltb i size && (leb u left && not (is_specified (get_or list (size * u + i) 0)))))

-- ---- rows of a table
-- row r written over
unfoldable pub with_row : ℕ → ℕ → List ℕ → List ℕ → List ℕ
with_row size r new table = take (size * r) table ++ overwritten new (drop (size * r) table)

-- the two rows of pair m written over
unfoldable pub with_pair : ℕ → ℕ → List ℕ → List ℕ → List ℕ → List ℕ
with_pair size m low high table = with_row size (2 * m + 1) high (with_row size (2 * m) low table)

-- some place of either row of pair m is specified in row r of a table
unfoldable pub meets_row : ℕ → List ℕ → ℕ → List ℕ → ℕ → Bool
meets_row size extras m table r = overlaps (row_of size extras (2 * m)) (row_of size table r) || overlaps (row_of size extras (2 * m + 1)) (row_of size table r)

-- ---- what the steps give
-- the extra of the value that a lane tries, in row r: nothing where the lane is marked
pub record LaneExtra (size : ℕ) (states : List ℕ) (u : ℕ) (after : List ℕ) (marks lane r : ℕ) (extras extras' : List ℕ) : Type 0 where
  pub marked : bit lane marks ≡ true → (c : List ℕ) → size ≡ F c → extras' ≡ with_row size r (nothing c) extras
  pub shown : bit lane marks ≡ false → (st : List ℕ) → Lane lane after st → length st ≡ size → ThreeValued st → extras' ≡ with_row size r (where_x (row_of size states u) st) extras

-- both extras of (u, i), in the rows of pair m
pub record PairMade (c t free states hits masks : List ℕ) (u i m : ℕ) (extras extras' : List ℕ) : Type 0 where
  pub rows : (f : Fault) → ((lane : ℕ) → lane < 64 → Stuck lane hits masks f) → Rows (F c) (L c t) states (λ u. plain_state c t f u) → Rows (O c) (L c t) free (λ u. free_outputs c t u)
      → extras' ≡ with_pair (F c) m (extra c t f u i 0) (extra c t f u i 1) extras

-- whether a place of either extra is specified in the state list at u or was given by a pair taken earlier
pub record Touched (size : ℕ) (list : List ℕ) (u : ℕ) (times : List ℕ) (m : ℕ) (extras : List ℕ) (r : Bool) : Type 0 where
  pub is : (c t : List ℕ) (f : Fault) (pairs : List (ℕ × ℕ)) (low high : List ℕ) → size ≡ F c → Taken c t f pairs m times extras → row_of size list u ≡ state_row c t f u
      → row_of size extras (2 * m) ≡ low → row_of size extras (2 * m + 1) ≡ high → r ≡ (touches c t f pairs u low || touches c t f pairs u high)

-- one pair of the plan more
pub record PairTaken (c t free states list hits masks : List ℕ) (left u i k m : ℕ) (times extras : List ℕ) (r : ℕ) (times' extras' : List ℕ) : Type 0 where
  pub most : r ≤ k
  pub next : (f : Fault) (pairs : List (ℕ × ℕ)) → Prepared c t free states list hits masks left f → Taken c t f pairs m times extras → Taken c t f (take_next c t f k pairs (u, i)) r times' extras'

-- the plan's pairs that are taken
pub record AllTaken (c t free states list plan hits masks : List ℕ) (left k r : ℕ) (times extras : List ℕ) : Type 0 where
  pub most : r ≤ k
  pub pairs : (f : Fault) → Prepared c t free states list hits masks left f → Taken c t f (taken c t f plan k) r times extras
