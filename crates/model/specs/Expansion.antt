-- Nsv and Nout, and stages 3 and 4 over the pairs (u, i) of a time unit and a flip-flop: which are tried, what is marked, and the state
-- list, which has a row of F values for each unit.
use Rattle.std.specs.Prelude.{ℕ, zero, suc, ◌+◌, ◌-◌, Bool, false, cond, not, ◌&&◌, List, [], ◌∷◌, get_or, eqb, ltb}
use Rattle.model.specs.Inputs.{F, L, Fault}
use Rattle.model.specs.Values.{X, is_specified, invert, give_row, some_oppose}
use Rattle.model.specs.Simulation.{plain_state, plain_outputs, free_outputs}
use Rattle.model.specs.Implication.{nothing, marked, extra}

unfoldable pub count_x : List ℕ → ℕ
count_x [] = 0
count_x (a ∷ row) = cond (eqb a X) 1 0 + count_x row

-- places specified in the first row and X in the second
unfoldable pub count_open : List ℕ → List ℕ → ℕ
count_open [] bs = 0
count_open (a ∷ row) [] = 0
count_open (a ∷ row) (b ∷ bs) = cond (is_specified a && eqb b X) 1 0 + count_open row bs

module _ (c t : List ℕ) (f : Fault) where
  -- Nsv(u): unknown state bits
  unfoldable pub nsv : ℕ → ℕ
  nsv u = count_x (plain_state c t f u)

  unfoldable pub open_places : ℕ → ℕ → ℕ
  open_places u zero = 0
  open_places u (suc units) = count_open (free_outputs c t u) (plain_outputs c t f u) + open_places (suc u) units

  -- Nout(u): places at u or later specified fault-free and X faulty
  unfoldable pub nout : ℕ → ℕ
  nout u = open_places u (L c t - u)

  -- Nsv(u) and Nout(u) are both above 0
  abbrev pub both_open : ℕ → Bool
  both_open u = ltb 0 (nsv u) && ltb 0 (nout u)

  -- stage 3 tries the pair: u from 1, where the bit is X and Nout(u - 1) > 0
  unfoldable pub tried : ℕ → ℕ → Bool
  tried zero i = false
  tried (suc u) i = eqb (get_or (plain_state c t f (suc u)) i 0) X && ltb 0 (nout u)

  -- both values are marked
  unfoldable pub both_marked : ℕ → ℕ → Bool
  both_marked u i = tried u i && marked c t f u i 0 && marked c t f u i 1

  -- α alone is marked
  unfoldable pub alone : ℕ → ℕ → ℕ → Bool
  alone u i α = tried u i && marked c t f u i α && not (marked c t f u i (invert α))

  -- where α alone is marked, stage 4 writes the other value's extra
  unfoldable pub written : ℕ → ℕ → List ℕ
  written u i = cond (alone u i 0) (extra c t f u i 1) (cond (alone u i 1) (extra c t f u i 0) (nothing c))

  -- the state list at u, which begins as the faulty plain state, after the writes of the flip-flops below i
  unfoldable pub row_after : ℕ → ℕ → List ℕ
  row_after u zero = plain_state c t f u
  row_after u (suc i) = give_row (row_after u i) (written u i)

  -- a write against an opposite value
  unfoldable pub opposed_write : ℕ → ℕ → Bool
  opposed_write u i = some_oppose (row_after u i) (written u i)

  -- the state list at u, after stage 4
  unfoldable pub state_row : ℕ → List ℕ
  state_row u = row_after u (F c)
