-- Weighing the pairs of a time unit and a flip-flop: which of them stage 5 would take next, and how many bits their extras give, in a table with an
-- entry of 4 bytes for each; position e of the table is the pair (e / F, e % F).
use Rattle.std.specs.Prelude.{◌≡◌, true, false, List, ℕ, ◌+◌, ◌*◌, ◌/◌, ◌%◌, ◌<◌, ◌≤◌, get_or, length}
use Rattle.lists.specs.Field.{overwritten, row_of, Rows}
use Rattle.model.specs.Inputs.{F, L, Fault}
use Rattle.model.specs.Accepted.{ValidTest, ValidFault, ThreeValued}
use Rattle.model.specs.Values.{X, is_specified}
use Rattle.model.specs.Simulation.{plain_state}
use Rattle.model.specs.Implication.{extra}
use Rattle.model.specs.Expansion.{state_row}
use Rattle.model.specs.Sequences.{outputs_left}
use Rattle.sequences.specs.Ends.{Taken}
use Rattle.expand.specs.Expand.{pair_at, WordOf}
use Rattle.take.specs.Take.{Prepared, with_row}
use Rattle.best.specs.Weights.{entry_of, Weighed}

-- the row of each unit that has a position before `next` lies within the table
pub record UnitRows (count next : ℕ) (table : List ℕ) : Type 0 where
  pub room : (e : ℕ) → e < next → count * (e / count) + count ≤ length table

-- (u, i) names a unit and a flip-flop, its bit is X in the state list, and outputs are left before it: stage 5 takes it if its extras touch
-- nothing.
pub record Candidate (c t : List ℕ) (f : Fault) (u i : ℕ) : Type 0 where
  pub unit : u < L c t
  pub bit : i < F c
  pub unknown : is_specified (get_or (state_row c t f u) i X) ≡ false
  pub outputs : outputs_left c t f u ≡ true

-- the entry of a candidate at u, whose extras are in the rows behind those of the m pairs taken
pub record EntryMade (count : ℕ) (list : List ℕ) (u : ℕ) (times : List ℕ) (m : ℕ) (extras entry entry' : List ℕ) : Type 0 where
  pub is : (c t : List ℕ) (f : Fault) (pairs : List (ℕ × ℕ)) (i : ℕ) → count ≡ F c → Candidate c t f u i → Taken c t f pairs m times extras → row_of count list u ≡ state_row c t f u
      → row_of count extras (2 * m) ≡ extra c t f u i 0 → row_of count extras (2 * m + 1) ≡ extra c t f u i 1 → entry' ≡ overwritten (entry_of c t f pairs u i) entry

-- What weighing asks for, of the pairs before `stop`: plain states and state list of the fault, a row a unit; where outputs are left; and the m pairs
-- taken.
pub record Weighing (c t : List ℕ) (f : Fault) (pairs : List (ℕ × ℕ)) (count stop : ℕ) (states list : List ℕ) (m : ℕ) (times extras : List ℕ) : Type 0 where
  pub width : count ≡ F c
  pub test : ValidTest c t
  pub fault : ValidFault c f
  pub plain : Rows (F c) (L c t) states (λ u. plain_state c t f u)
  pub rows : Rows (F c) (L c t) list (λ u. state_row c t f u)
  pub three : (u : ℕ) → u < L c t → ThreeValued (state_row c t f u)
  pub unit : (e : ℕ) → e < stop → e / F c < L c t
  pub outputs : (e : ℕ) → e < stop → outputs_left c t f (e / F c) ≡ true
  pub taken : Taken c t f pairs m times extras

-- the entry of position e is written, and the pairs taken stay
pub record EntryAt (c t : List ℕ) (f : Fault) (pairs : List (ℕ × ℕ)) (m : ℕ) (times : List ℕ) (e : ℕ) (table extras' table' : List ℕ) : Type 0 where
  pub written : table' ≡ with_row 4 e (entry_of c t f pairs (e / F c) (e % F c)) table
  pub taken : Taken c t f pairs m times extras'

-- the entries from `from` to `to` are written, and no other; the pairs taken stay
pub record Entries (c t : List ℕ) (f : Fault) (pairs : List (ℕ × ℕ)) (m : ℕ) (times : List ℕ) (from to : ℕ) (table extras' table' : List ℕ) : Type 0 where
  pub weighed : Weighed c t f pairs from to table'
  pub before : (d : ℕ) → d < from → 4 * d + 4 ≤ length table → row_of 4 table' d ≡ row_of 4 table d
  pub behind : (d : ℕ) → to ≤ d → 4 * d + 4 ≤ length table → row_of 4 table' d ≡ row_of 4 table d
  pub taken : Taken c t f pairs m times extras'

-- the entry of position e, of a word that holds the pairs from `at` to `next`
pub record WeighedAt (count : ℕ) (states list after : List ℕ) (marks p e m : ℕ) (times extras table extras' table' : List ℕ) : Type 0 where
  pub entry : (c t : List ℕ) (f : Fault) (pairs : List (ℕ × ℕ)) (stop at next : ℕ) → Weighing c t f pairs count stop states list m times extras → WordOf c t f list at next marks after
      → F c ≤ at → at ≤ e → e < next → next ≤ stop → p ≡ pair_at list at e → EntryAt c t f pairs m times e table extras' table'

-- the entries of the pairs of a word
pub record WeighedWord (count : ℕ) (states list after : List ℕ) (marks at next m : ℕ) (times extras table extras' table' : List ℕ) : Type 0 where
  pub entries : (c t : List ℕ) (f : Fault) (pairs : List (ℕ × ℕ)) (stop : ℕ) → Weighing c t f pairs count stop states list m times extras → WordOf c t f list at next marks after
      → F c ≤ at → next ≤ stop → Entries c t f pairs m times at next table extras' table'

-- the entry of (0, i)
pub record WeighedFirst (count : ℕ) (list : List ℕ) (i m : ℕ) (times extras table extras' table' : List ℕ) : Type 0 where
  pub entry : (c t : List ℕ) (f : Fault) (pairs : List (ℕ × ℕ)) (stop : ℕ) (states : List ℕ) → Weighing c t f pairs count stop states list m times extras → i < stop
      → EntryAt c t f pairs m times i table extras' table'

-- the entries of unit 0 from position `from` to `to`; r is the position behind them
pub record WeighedStart (count : ℕ) (list : List ℕ) (from to m : ℕ) (times extras table extras' table' : List ℕ) (r : ℕ) : Type 0 where
  pub begin : from ≤ r
  pub unit : r < to → count ≤ r
  pub least : from ≤ to → r ≤ to
  pub entries : (c t : List ℕ) (f : Fault) (pairs : List (ℕ × ℕ)) (stop : ℕ) (states : List ℕ) → Weighing c t f pairs count stop states list m times extras → to ≤ stop
      → Entries c t f pairs m times from r table extras' table'

-- the entries of the pairs between two positions
pub record WeighedFrom (c t free states list hits masks : List ℕ) (from to m : ℕ) (times extras table extras' table' : List ℕ) : Type 0 where
  pub entries : (f : Fault) (pairs : List (ℕ × ℕ)) (stop left : ℕ) → Prepared c t free states list hits masks left f
      → Weighing c t f pairs (F c) stop states list m times extras → to ≤ stop → Entries c t f pairs m times from to table extras' table'
