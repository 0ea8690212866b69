-- Picking pairs: one after another, each the best of those that stage 5 would take next.
use Rattle.std.specs.Prelude.{◌≡◌, cond, List, ℕ, ◌+◌, ◌*◌, ◌<◌, ◌≤◌, ltb, get_or, length}
use Rattle.lists.specs.Field.{overwritten}
use Rattle.model.specs.Inputs.{F, O, L, Fault}
use Rattle.model.specs.Accepted.{ThreeValued}
use Rattle.model.specs.Expansion.{nout, state_row}
use Rattle.model.specs.Choose.{best_pairs, plan_bytes}
use Rattle.sequences.specs.Ends.{Taken}
use Rattle.take.specs.Take.{Prepared}
use Rattle.stages.specs.Stages.{RowRoom}
use Rattle.best.specs.Weights.{Weighed}
use Rattle.best.specs.Best.{Merits}
use Rattle.pick.specs.declared.Span.{Span}

-- So many units may have a pair that is taken: the first, and those behind a unit with Nout above 0.
unfoldable pub reach_of : ℕ → ℕ → ℕ
reach_of units left = cond (ltb left units) (left + 1) units

-- the positions of the entries that a pick of (u, i) may change: at unit 0 its own, and else those of its unit
pub record Touched (count u i : ℕ) (span : Span) : Type 0 where
  pub order : span.from ≤ span.to
  pub last : span.to ≤ count * u + count
  pub own : u ≡ 0 → (span.from ≡ i) × (span.to ≡ i + 1)
  pub unit : 0 < u → (span.from ≡ count * u) × (span.to ≡ count * u + count)

-- What picking is lent has room: the fault-free responses, plain states and state list, a merit of each unit, and the extras of 12 pairs.
pub record PickRoom (c t free states list merits extras : List ℕ) : Type 0 where
  pub responses : L c t * O c ≤ length free
  pub plain : RowRoom c t states
  pub rows : RowRoom c t list
  pub units : L c t ≤ length merits
  pub pairs : 24 * F c ≤ length extras

-- What picking asks for, of the fault that all lanes have: what stage 5 does, a state list of 0, 1 and X, and the merits of the units.
pub record Picking (c t : List ℕ) (f : Fault) (free states list hits masks merits : List ℕ) (left reach : ℕ) : Type 0 where
  pub ready : Prepared c t free states list hits masks left f
  pub three : (u : ℕ) → u < L c t → ThreeValued (state_row c t f u)
  pub units : reach ≡ reach_of (L c t) left
  pub worth : Merits c t f reach merits

-- m pairs are picked: their units and extras, the table of the pairs that could be taken behind them, but for the entries from `from` to `to`, and
-- the records
pub record PickedTo (c t : List ℕ) (f : Fault) (reach from to m : ℕ) (times extras table old area : List ℕ) : Type 0 where
  pub taken : Taken c t f (best_pairs c t f m) m times extras
  pub before : Weighed c t f (best_pairs c t f m) 0 from table
  pub behind : Weighed c t f (best_pairs c t f m) to (F c * reach) table
  pub records : area ≡ overwritten (plan_bytes (best_pairs c t f m)) old

-- so many pairs, as plan records
pub record Records (pairs : List (ℕ × ℕ)) (old new : List ℕ) (r : ℕ) : Type 0 where
  pub count : r ≡ length pairs
  pub area : new ≡ overwritten (plan_bytes pairs) old

-- all picks
pub record AllPicked (c t free states list hits masks merits : List ℕ) (left reach k : ℕ) (old new : List ℕ) (r : ℕ) : Type 0 where
  pub records : (f : Fault) → Picking c t f free states list hits masks merits left reach → Records (best_pairs c t f k) old new r

-- all picks of a fault that stages 1 to 4 leave open
pub record ChosenFrom (c t free states list hits masks counts : List ℕ) (left k : ℕ) (old new : List ℕ) (r : ℕ) : Type 0 where
  pub records : (f : Fault) → Prepared c t free states list hits masks left f → ((u : ℕ) → u < L c t → ThreeValued (state_row c t f u)) → ((u : ℕ) → u ≤ L c t → get_or counts u 0 ≡ nout c t f u)
      → Records (best_pairs c t f k) old new r
