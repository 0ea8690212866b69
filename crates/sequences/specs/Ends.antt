-- What the sequences of the taken pairs ask for, and what the steps of 64 of them give in each lane.
use Rattle.std.specs.Prelude.{ℕ, ◌+◌, ◌*◌, ◌/◌, ◌%◌, ◌<◌, ◌≤◌, ◌≡◌, false, cond, not, ◌&&◌, ◌||◌, List, eqb, ltb, get_or, length}
use Rattle.lists.specs.Scan.{count_below}
use Rattle.lists.specs.Field.{row_of, Rows}
use Rattle.model.specs.Inputs.{F, O, L, inputs_at, Fault}
use Rattle.model.specs.Values.{give_row, has_conflict, some_oppose}
use Rattle.model.specs.Simulation.{line_values, outputs, next_state, free_outputs}
use Rattle.model.specs.Implication.{extra, nothing}
use Rattle.model.specs.Expansion.{state_row}
use Rattle.model.specs.Sequences.{sequence_row, end_of, count_ending, ends_differing, ends_clashing, ends_surviving}
use Rattle.lanes.specs.Lane.{bit, Lane, Follows}
use Rattle.unit.specs.Unit.{Stuck}
use Rattle.sequences.specs.declared.Ends.{Ends}
use Rattle.sequences.specs.declared.Endings.{Endings}

-- ---- what is given
-- The m taken pairs: the time unit of each, and rows of extras, row 2 q + α that of pair q with value α.
pub record Taken (c t : List ℕ) (f : Fault) (pairs : List (ℕ × ℕ)) (m : ℕ) (times extras : List ℕ) : Type 0 where
  pub count : length pairs ≡ m
  pub time : (q : ℕ) → q < m → get_or times q 0 ≡ (get_or pairs q (0, 0)).0
  pub rows : Rows (F c) (2 * m) extras (λ r. extra c t f (get_or pairs (r / 2) (0, 0)).0 (get_or pairs (r / 2) (0, 0)).1 (r % 2))

-- The lists of the sequences: the state list, a row a unit, and the taken pairs; no conflict is in any of them.
pub record Lists (c t : List ℕ) (f : Fault) (pairs : List (ℕ × ℕ)) (m : ℕ) (list times extras : List ℕ) : Type 0 where
  pub states : Rows (F c) (L c t) list (state_row c t f)
  pub taken : Taken c t f pairs m times extras
  pub clear : (b u : ℕ) → u < L c t → has_conflict (sequence_row c t f pairs b u) ≡ false

-- room for m taken pairs, with rows of so many bytes
pub record PairRoom (count m : ℕ) (times extras : List ℕ) : Type 0 where
  pub most : m ≤ 12
  pub time_room : m ≤ length times
  pub extra_room : 2 * m * count ≤ length extras

-- ---- what a step gives in each lane
-- the state is given the extras of the pairs at unit u, behind what the state list has there
pub record PairsGiven (times extras : List ℕ) (m u base count : ℕ) (state state' : List ℕ) : Type 0 where
  pub lane : (c t : List ℕ) (f : Fault) (pairs : List (ℕ × ℕ)) (lane : ℕ) (vs : List ℕ) → count ≡ F c → Taken c t f pairs m times extras → lane < 64 → length vs ≡ F c → length (state_row c t f u) ≡ F c
      → has_conflict (sequence_row c t f pairs (base + lane) u) ≡ false → Follows lane state (give_row vs (state_row c t f u)) → Follows lane state' (give_row vs (sequence_row c t f pairs (base + lane) u))

-- the state is given the sequence's list at unit u
pub record ListGiven (list times extras : List ℕ) (m u base count : ℕ) (state state' : List ℕ) : Type 0 where
  pub lane : (c t : List ℕ) (f : Fault) (pairs : List (ℕ × ℕ)) (lane : ℕ) (vs : List ℕ) → count ≡ F c → Taken c t f pairs m times extras → lane < 64 → length vs ≡ F c → row_of (F c) list u ≡ state_row c t f u
      → has_conflict (sequence_row c t f pairs (base + lane) u) ≡ false → Follows lane state vs → Follows lane state' (give_row vs (sequence_row c t f pairs (base + lane) u))

-- the state of unit 0
pub record Started (c list times extras : List ℕ) (m base : ℕ) (state : List ℕ) : Type 0 where
  pub lane : (t : List ℕ) (f : Fault) (pairs : List (ℕ × ℕ)) (lane : ℕ) → Lists c t f pairs m list times extras → 0 < L c t → lane < 64 → Lane lane state (sequence_row c t f pairs (base + lane) 0)

-- unit u: the next state, and the lanes in which an output opposes
pub record Passed (c t free hits masks : List ℕ) (u : ℕ) (state state' : List ℕ) (opposing : ℕ) : Type 0 where
  pub lane : (lane : ℕ) (f : Fault) (st : List ℕ) → Stuck lane hits masks f → Lane lane state st → length st ≡ F c
      → Lane lane state' (next_state c f (line_values c f (inputs_at c t u) st)) × (bit lane opposing ≡ some_oppose (row_of (O c) free u) (outputs c f (line_values c f (inputs_at c t u) st)))

-- what the next state is given at unit u: up to unit L - 1 the list of sequence b
unfoldable pub list_at : List ℕ → List ℕ → Fault → List (ℕ × ℕ) → ℕ → ℕ → List ℕ
list_at c t f pairs b u = cond (ltb u (L c t)) (sequence_row c t f pairs b u) (nothing c)

-- into unit u: the next state with what it is given, and the lanes in which the two conflict
pub record Entered (list times extras : List ℕ) (m u units base count : ℕ) (state state' : List ℕ) (conflicts : ℕ) : Type 0 where
  pub lane : (c t : List ℕ) (f : Fault) (pairs : List (ℕ × ℕ)) (lane : ℕ) (vs : List ℕ) → count ≡ F c → units ≡ L c t → Lists c t f pairs m list times extras → lane < 64 → length vs ≡ F c
      → has_conflict vs ≡ false → Lane lane state vs
      → Follows lane state' (give_row vs (list_at c t f pairs (base + lane) u)) × (bit lane conflicts ≡ has_conflict (give_row vs (list_at c t f pairs (base + lane) u)))

-- A lane that goes on differs where it opposes, else clashes where it conflicts, else goes on.
pub record Turned (lane opposing conflicts : ℕ) (before after : Ends) : Type 0 where
  pub differing : bit lane after.differing ≡ (bit lane before.differing || (bit lane before.surviving && bit lane opposing))
  pub clashing : bit lane after.clashing ≡ (bit lane before.clashing || ((bit lane before.surviving && not (bit lane opposing)) && bit lane conflicts))
  pub surviving : bit lane after.surviving ≡ ((bit lane before.surviving && not (bit lane opposing)) && not (bit lane conflicts))

-- ---- how sequences end
-- the lane, of those wanted, ends so
pub record Ended (lane wanted end : ℕ) (r : Ends) : Type 0 where
  pub differing : bit lane r.differing ≡ (bit lane wanted && eqb end ends_differing)
  pub clashing : bit lane r.clashing ≡ (bit lane wanted && eqb end ends_clashing)
  pub surviving : bit lane r.surviving ≡ (bit lane wanted && eqb end ends_surviving)

-- 64 sequences from number `base` on, of which some are wanted
pub record BlockEnded (c t free list times extras hits masks : List ℕ) (m base wanted : ℕ) (r : Ends) : Type 0 where
  pub lane : (lane : ℕ) (f : Fault) (pairs : List (ℕ × ℕ)) → Stuck lane hits masks f → Rows (O c) (L c t) free (free_outputs c t) → Lists c t f pairs m list times extras
      → Ended lane wanted (end_of c t f pairs (base + lane)) r

-- what a block adds to the counts
pub record Added (before : Endings) (ends : Ends) (after : Endings) : Type 0 where
  pub differing : after.differing ≡ before.differing + count_below (λ t. bit t ends.differing) 64
  pub clashing : after.clashing ≡ before.clashing + count_below (λ t. bit t ends.clashing) 64
  pub surviving : after.surviving ≡ before.surviving + count_below (λ t. bit t ends.surviving) 64

-- all 2^m sequences of a fault that every lane has: how many end so
pub record Counted (c t free list times extras hits masks : List ℕ) (m : ℕ) (r : Endings) : Type 0 where
  pub ends : (f : Fault) (pairs : List (ℕ × ℕ)) → ((lane : ℕ) → lane < 64 → Stuck lane hits masks f) → Rows (O c) (L c t) free (free_outputs c t) → Lists c t f pairs m list times extras
      → (r.differing ≡ count_ending c t f pairs ends_differing) × (r.clashing ≡ count_ending c t f pairs ends_clashing) × (r.surviving ≡ count_ending c t f pairs ends_surviving)
