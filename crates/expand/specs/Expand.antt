-- The walk of stages 3 and 4 over the pairs (u, i), by u and then by i: position e of the walk is the pair (e / F, e % F).
use Rattle.std.specs.Prelude.{◌≡◌, Some, None, Bool, true, false, cond, List, ◌++◌, ℕ, ◌+◌, ◌*◌, ◌-◌, ◌/◌, ◌%◌, ◌<◌, ◌≤◌, eqb, leb, get_or, length, take, drop}
use Rattle.lists.specs.Scan.{count_below}
use Rattle.lists.specs.Field.{overwritten, row_of, Rows}
use Rattle.model.specs.Inputs.{F, O, L, Fault}
use Rattle.model.specs.Accepted.{ValidTest, ValidFault, ThreeValued}
use Rattle.model.specs.Values.{X, give_row, some_oppose}
use Rattle.model.specs.Simulation.{next_state, plain_state, free_outputs}
use Rattle.model.specs.Implication.{where_x, implied_at, marked}
use Rattle.model.specs.Expansion.{tried, both_marked, opposed_write, row_after}
use Rattle.lanes.specs.Lane.{bit, Lane}
use Rattle.unit.specs.Unit.{Stuck}
use Rattle.trial.specs.declared.Pair.{Pair}
use Rattle.trial.specs.Trial.{pair_of}
use Rattle.pending.specs.Pending.{OpenUnits}
use Rattle.expand.specs.declared.Walk.{Walk}

-- ---- pairs that a word tries: bits of the table of states that are X
unfoldable pub is_x : List ℕ → ℕ → Bool
is_x states e = eqb (get_or states e 0) X

-- which pair of a word the position e is, where the word begins at `at`
unfoldable pub pair_at : List ℕ → ℕ → ℕ → ℕ
pair_at states at e = count_below (λ d. is_x states (at + d)) (e - at)

-- the pair at position e: its unit less 1, and its flip-flop
abbrev pub pair_for : ℕ → ℕ → Pair
pair_for size e = record { unit = e / size - 1; bit = e % size }

-- The pairs of a word from position `at` on, those of the positions with an X bit.
pub record Filled (size : ℕ) (states : List ℕ) (pairs : List Pair) (at next count : ℕ) : Type 0 where
  pub order : at ≤ next
  pub all : count ≡ pair_at states at next
  pub few : count ≤ 32
  pub pair : (e : ℕ) → at ≤ e → e < next → is_x states e ≡ true → pair_of pairs (pair_at states at e) ≡ pair_for size e
  pub below : (p : ℕ) → p < count → (e : ℕ) × (at ≤ e) × (e < next) × (is_x states e ≡ true) × (pair_at states at e ≡ p)

-- ---- what a pair does to the walk and to the list
-- the positions that a walk has met come before position n
pub record Before (n : ℕ) (w : Walk) : Type 0 where
  pub both : (p : ℕ) → w.both ≡ Some p → p < n
  pub opposed : (p : ℕ) → w.opposed ≡ Some p → p < n

-- The list with row u given the extra that a lane shows, unless it opposes; nothing where an earlier write opposed.
pub record Written (size : ℕ) (states after : List ℕ) (u lane e : ℕ) (list : List ℕ) (w : Walk) (list' : List ℕ) (r : Walk) : Type 0 where
  pub past : (p : ℕ) → w.opposed ≡ Some p → (r ≡ w) × (list' ≡ list)
  pub made : w.opposed ≡ None → (st : List ℕ) → Lane lane after st → length st ≡ size → ThreeValued st → ThreeValued (row_of size list u)
      → (some_oppose (row_of size list u) (where_x (row_of size states u) st) ≡ true → r ≡ record { both = w.both; opposed = Some e })
      × (some_oppose (row_of size list u) (where_x (row_of size states u) st) ≡ false
      → (r ≡ w) × (list' ≡ take (size * u) list ++ overwritten (give_row (row_of size list u) (where_x (row_of size states u) st)) (drop (size * u) list)))
  pub met : (n : ℕ) → e < n → Before n w → Before n r

-- by the pair's marks
pub record Settled (size : ℕ) (states after : List ℕ) (marks u p e : ℕ) (list : List ℕ) (w : Walk) (list' : List ℕ) (r : Walk) : Type 0 where
  pub none : bit (2 * p) marks ≡ false → bit (2 * p + 1) marks ≡ false → (r ≡ w) × (list' ≡ list)
  pub zero : bit (2 * p) marks ≡ true → bit (2 * p + 1) marks ≡ false → Written size states after u (2 * p + 1) e list w list' r
  pub one : bit (2 * p) marks ≡ false → bit (2 * p + 1) marks ≡ true → Written size states after u (2 * p) e list w list' r
  pub both : bit (2 * p) marks ≡ true → bit (2 * p + 1) marks ≡ true → r ≡ record { both = Some e; opposed = w.opposed }
  pub met : (n : ℕ) → e < n → Before n w → Before n r

module _ (c t : List ℕ) (f : Fault) where
  unfoldable pub both_at : ℕ → Bool
  both_at e = both_marked c t f (e / F c) (e % F c)

  unfoldable pub writes_at : ℕ → Bool
  writes_at e = opposed_write c t f (e / F c) (e % F c)

  -- the state list at u, once the pairs at the positions below e have written
  unfoldable pub row_to : ℕ → ℕ → List ℕ
  row_to e u = row_after c t f u (cond (leb (F c * u + F c) e) (F c) (e - F c * u))

  -- Pairs before `stop` whose bit is X are tried, and no other pair is.
  pub record TriedTo (stop : ℕ) (states : List ℕ) : Type 0 where
    pub least : F c ≤ stop
    pub most : stop ≤ L c t * F c
    pub inside : (e : ℕ) → F c ≤ e → e < stop → tried c t f (e / F c) (e % F c) ≡ is_x states e
    pub before : (e : ℕ) → e < F c → tried c t f (e / F c) (e % F c) ≡ false
    pub behind : (e : ℕ) → stop ≤ e → e < L c t * F c → tried c t f (e / F c) (e % F c) ≡ false

  -- What a word says of the pairs between `at` and `next`: lanes 2 p and 2 p + 1 are those of pair p, with 0 and with 1.
  pub record WordOf (states : List ℕ) (at next marks : ℕ) (after : List ℕ) : Type 0 where
    pub mark : (e α : ℕ) → at ≤ e → e < next → is_x states e ≡ true → α < 2 → bit (2 * pair_at states at e + α) marks ≡ marked c t f (e / F c) (e % F c) α
    pub shown : (e α : ℕ) → at ≤ e → e < next → is_x states e ≡ true → α < 2 → marked c t f (e / F c) (e % F c) α ≡ false
        → Lane (2 * pair_at states at e + α) after (next_state c f (implied_at c t f (e / F c - 1) (e % F c) α))

  -- Where the walk stands before position e: it has met a pair with both values marked, or none; and of the writes the first that
  -- opposed, or the state list that they made.
  pub record Walked (e : ℕ) (list : List ℕ) (w : Walk) : Type 0 where
    pub met : (p : ℕ) → w.both ≡ Some p → (both_at p ≡ true) × ((j : ℕ) → j < p → both_at j ≡ false)
    pub unmet : w.both ≡ None → (j : ℕ) → j < e → both_at j ≡ false
    pub opposed : w.both ≡ None → (p : ℕ) → w.opposed ≡ Some p → (writes_at p ≡ true) × ((j : ℕ) → j < p → writes_at j ≡ false)
    pub unopposed : w.both ≡ None → w.opposed ≡ None → (j : ℕ) → j < e → writes_at j ≡ false
    pub rows : w.both ≡ None → w.opposed ≡ None → Rows (F c) (L c t) list (λ u. row_to e u)
    pub three : w.both ≡ None → w.opposed ≡ None → (u : ℕ) → u < L c t → ThreeValued (row_to e u)

  -- What settling the pairs between `at` and `next` asks for: the table of plain states, which pairs are tried, and what their word says.
  pub record Settling (width stop : ℕ) (states : List ℕ) (pairs : List Pair) (at next marks : ℕ) (after : List ℕ) : Type 0 where
    pub test : ValidTest c t
    pub fault : ValidFault c f
    pub size : width ≡ F c
    pub some : 0 < F c
    pub first : F c ≤ at
    pub last : next ≤ stop
    pub plain : Rows (F c) (L c t) states (λ u. plain_state c t f u)
    pub tried : TriedTo stop states
    pub word : WordOf states at next marks after
    pub unit : (e : ℕ) → at ≤ e → e < next → is_x states e ≡ true → (pair_of pairs (pair_at states at e)).unit ≡ e / width - 1

-- What stages 3 and 4 ask of the fault that all lanes have: its table of plain states, the responses without it, and where Nout is above 0.
pub record Ready (c t free states hits masks : List ℕ) (units : ℕ) (f : Fault) : Type 0 where
  pub stuck : (lane : ℕ) → lane < 64 → Stuck lane hits masks f
  pub fault : ValidFault c f
  pub plain : Rows (F c) (L c t) states (λ u. plain_state c t f u)
  pub frees : Rows (O c) (L c t) free (λ u. free_outputs c t u)
  pub above : OpenUnits c t f units

-- The walk stands behind the last pair; what it has met are positions of pairs.
pub record Expanded (c t free states hits masks : List ℕ) (units : ℕ) (list : List ℕ) (w : Walk) : Type 0 where
  pub walked : (f : Fault) → Ready c t free states hits masks units f → Walked c t f (L c t * F c) list w
  pub met : Before (L c t * F c) w
