-- A word of trials: lanes 2 p and 2 p + 1 are pair p's, which implication tries with 0 and with 1. Pair p is (v + 1, i), with v its unit, where
-- implication works, and i its flip-flop.
use Rattle.std.specs.Prelude.{◌≡◌, false, cond, List, ℕ, suc, ◌/◌, ◌%◌, ◌<◌, ◌≤◌, ltb, get_or, length}
use Rattle.lists.specs.Field.{row_of}
use Rattle.model.specs.Inputs.{pin_line, flip_flop_line, O, F, L, Fault}
use Rattle.model.specs.Simulation.{plain_state, free_outputs}
use Rattle.model.specs.Implication.{give_line, implied_at, marked}
use Rattle.lanes.specs.Lane.{bit, Lane}
use Rattle.unit.specs.Unit.{Stuck}
use Rattle.trial.specs.declared.Pair.{Pair}

-- pair p
abbrev pub pair_of : List Pair → ℕ → Pair
pair_of pairs p = get_or pairs p record { unit = 0; bit = 0 }

-- the lane has the inputs and the state of unit v
pub record StandsAt (lane inputs flops : ℕ) (t states feed state : List ℕ) (v : ℕ) : Type 0 where
  pub fed : Lane lane feed (row_of inputs t v)
  pub kept : Lane lane state (row_of flops states v)

-- What is so of each lane for its pair's unit, of the pairs below p; the lanes above them are as those of the last of these pairs.
pub record Carried (p : ℕ) (pairs : List Pair) (Has : ℕ → ℕ → Type 0) : Type 0 where
  pub pair : (lane : ℕ) → lane / 2 < p → lane < 64 → Has lane (pair_of pairs (lane / 2)).unit
  pub rest : (q lane : ℕ) → suc q ≡ p → q ≤ lane / 2 → lane < 64 → Has lane (pair_of pairs q).unit

-- a lane's values, once the pin lines of the flip-flops of the pairs below p are given what their lanes try
unfoldable pub tried_to : List ℕ → List Pair → ℕ → ℕ → List ℕ → List ℕ
tried_to c pairs p lane values = cond (ltb (lane / 2) p) (give_line values (pin_line c (flip_flop_line c (pair_of pairs (lane / 2)).bit) 1) (lane % 2)) values

-- Of each pair, of a fault that all lanes have: which of its two values are marked, and where one is not, the line values that it implies.
pub record Tried (c t free states : List ℕ) (pairs : List Pair) (hits masks : List ℕ) (found : ℕ) (words : List ℕ) : Type 0 where
  pub lane : (f : Fault) → ((lane : ℕ) → lane < 64 → Stuck lane hits masks f)
      → ((u : ℕ) → u < L c t → row_of (F c) states u ≡ plain_state c t f u) → ((u : ℕ) → u < L c t → row_of (O c) free u ≡ free_outputs c t u)
      → (lane : ℕ) → lane / 2 < length pairs → lane < 64
      → (bit lane found ≡ marked c t f (suc (pair_of pairs (lane / 2)).unit) (pair_of pairs (lane / 2)).bit (lane % 2))
      × (marked c t f (suc (pair_of pairs (lane / 2)).unit) (pair_of pairs (lane / 2)).bit (lane % 2) ≡ false
      → Lane lane words (implied_at c t f (pair_of pairs (lane / 2)).unit (pair_of pairs (lane / 2)).bit (lane % 2)))

-- these are up to 32 pairs of the job
pub record PairsOf (c t : List ℕ) (pairs : List Pair) : Type 0 where
  pub few : length pairs ≤ 32
  pub unit : (p : ℕ) → p < length pairs → (pair_of pairs p).unit < L c t
  pub bit : (p : ℕ) → p < length pairs → (pair_of pairs p).bit < F c
