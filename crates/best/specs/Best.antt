-- What the scan for the best pair asks for and gives. A pair's score is one number whose digits are the criteria, the first one highest, so
-- that the better of two pairs is the one with the larger score; of two that are the same the earlier stays.
use Rattle.std.specs.Prelude.{◌≡◌, false, List, ℕ, ◌+◌, ◌*◌, ◌-◌, ◌<◌, ◌≤◌, get_or, Option, Some, None}
use Rattle.std.proofs.Math.Option.{none, some}
use Rattle.std.proofs.Math.Option as model
use Rattle.lists.specs.Field.{Rows}
use Rattle.model.specs.Inputs.{F, L, Fault}
use Rattle.model.specs.Simulation.{plain_state}
use Rattle.model.specs.Expansion.{nout}
use Rattle.model.specs.Sequences.{takes}
use Rattle.model.specs.Choose.{smaller_extra, larger_extra, best_at, next_pair}
use Rattle.best.specs.Weights.{Weighed, merit}
use Rattle.best.specs.declared.Best.{Best}

-- ---- scores
-- 1 more than the score of a pair whose unit has this merit and whose entry has these fields, the first of them above 0
unfoldable pub score_of : ℕ → ℕ → ℕ → ℕ
score_of m a b = (m * 512 + (a - 1)) * 512 + b + 1

-- 1 more than the score of (u, i)
unfoldable pub pair_score : List ℕ → List ℕ → Fault → ℕ → ℕ → ℕ
pair_score c t f u i = score_of (merit c t f u) (smaller_extra c t f u i + 1) (larger_extra c t f u i)

-- ---- merits
-- the merits of the first so many units
pub record Merits (c t : List ℕ) (f : Fault) (units : ℕ) (merits : List ℕ) : Type 0 where
  pub at : (u : ℕ) → u < units → get_or merits u 0 ≡ merit c t f u

-- no entry of the first so many is above a bound
pub record AtMost (bound units : ℕ) (entries : List ℕ) : Type 0 where
  pub at : (u : ℕ) → u < units → get_or entries u 0 ≤ bound

-- no more places than 256 outputs have in 1024 units; and 2^28 - 1, which no merit with such a Nout is above
abbrev pub most_nout : ℕ
most_nout = 262144

abbrev pub most_merit : ℕ
most_merit = 268435455

-- merits made of the table of plain states and of Nout of every unit
pub record MeritsSet (units size : ℕ) (states nouts merits : List ℕ) : Type 0 where
  pub small : AtMost most_merit units merits
  pub right : (c t : List ℕ) (f : Fault) → size ≡ F c → Rows (F c) units states (λ u. plain_state c t f u) → ((u : ℕ) → u < units → get_or nouts u 0 ≡ nout c t f u) → Merits c t f units merits

-- ---- the best so far
-- One pair more: it is passed over where its first field is 0, and else replaces the best if there is none or its score is larger.
pub record Compared (best : Option Best) (m u i a b : ℕ) (r : Option Best) : Type 0 where
  pub passed : a ≡ 0 → r ≡ best
  pub stays : 0 < a → (old : Best) → best ≡ Some old → score_of m a b ≤ old.score → r ≡ best
  pub replaced : 0 < a → ((old : Best) → best ≡ Some old → old.score < score_of m a b) → r ≡ Some (record { score = score_of m a b; unit = u; bit = i })

-- a pair below so many units and flip-flops, where there is one
pub record Inside (units size : ℕ) (r : Option Best) : Type 0 where
  pub unit : (x : Best) → r ≡ Some x → x.unit < units
  pub bit : (x : Best) → r ≡ Some x → x.bit < size

-- a pair with its score
abbrev pub scored : List ℕ → List ℕ → Fault → ℕ × ℕ → Best
scored c t f q = record { score = pair_score c t f q.0 q.1; unit = q.0; bit = q.1 }

-- the best of the pairs before (u, i)
pub record Standing (c t : List ℕ) (f : Fault) (o : model.Option (ℕ × ℕ)) (u i : ℕ) (r : Option Best) : Type 0 where
  pub absent : o ≡ none → r ≡ None
  pub present : (q : ℕ × ℕ) → o ≡ some q → r ≡ Some (scored c t f q)
  pub early : (q : ℕ × ℕ) → o ≡ some q → q.0 ≤ u
  pub earlier : (q : ℕ × ℕ) → o ≡ some q → q.0 ≡ u → q.1 < i

-- the flip-flops of unit u scanned
pub record Scanned (u size m : ℕ) (table : List ℕ) (best r : Option Best) : Type 0 where
  pub inside : (units : ℕ) → u < units → Inside units size best → Inside units size r
  pub next : (c t : List ℕ) (f : Fault) (pairs : List (ℕ × ℕ)) (o : model.Option (ℕ × ℕ)) → size ≡ F c → m ≡ merit c t f u → Weighed c t f pairs (size * u) (size * u + size) table
      → Standing c t f o u 0 best → Standing c t f (best_at c t f pairs u size o) (u + 1) 0 r

-- ---- the next pair
-- The answer to what Choose asks: the next pair after those taken, or that there is none.
pub record Picked (c t : List ℕ) (f : Fault) (pairs : List (ℕ × ℕ)) (r : Option Best) : Type 0 where
  pub absent : next_pair c t f pairs ≡ none → r ≡ None
  pub present : (q : ℕ × ℕ) → next_pair c t f pairs ≡ some q → r ≡ Some (scored c t f q)
  pub nothing : r ≡ None → next_pair c t f pairs ≡ none
  pub found : (x : Best) → r ≡ Some x → next_pair c t f pairs ≡ some (x.unit, x.bit)

-- the units below `units` scanned
pub record BestPicked (units size : ℕ) (merits table : List ℕ) (r : Option Best) : Type 0 where
  pub inside : Inside units size r
  pub picked : (c t : List ℕ) (f : Fault) (pairs : List (ℕ × ℕ)) → size ≡ F c → units ≤ L c t → Merits c t f units merits → Weighed c t f pairs 0 (size * units) table
      → ((u i : ℕ) → units ≤ u → u < L c t → takes c t f pairs u i ≡ false) → Picked c t f pairs r
