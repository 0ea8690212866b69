-- The weights of pairs: a table with an entry for each pair of a time unit and a flip-flop, and the merit of each unit.
use Rattle.std.specs.Prelude.{◌≡◌, cond, List, ◌++◌, ℕ, ◌+◌, ◌*◌, ◌-◌, ◌/◌, ◌%◌, ◌<◌, ◌≤◌}
use Rattle.lists.specs.Field.{bytes16, row_of}
use Rattle.model.specs.Inputs.{F, Fault}
use Rattle.model.specs.Expansion.{nsv, nout}
use Rattle.model.specs.Sequences.{takes}
use Rattle.model.specs.Choose.{smaller_extra, larger_extra}

-- a pair's entry in the table: two 16-bit fields
unfoldable pub weight_bytes : ℕ → ℕ → List ℕ
weight_bytes a b = bytes16 a ++ bytes16 b

module _ (c t : List ℕ) (f : Fault) where
  -- The entry of (u, i), where `pairs` are taken: 0 and 0 where stage 5 would not take it next; else 1 more than the smaller size of its two
  -- extras, and the larger size.
  unfoldable pub entry_of : List (ℕ × ℕ) → ℕ → ℕ → List ℕ
  entry_of pairs u i = cond (takes c t f pairs u i) (weight_bytes (smaller_extra c t f u i + 1) (larger_extra c t f u i)) (weight_bytes 0 0)

  -- the entries of the pairs at the positions from `from` to `to`; position e is the pair (e / F, e % F)
  pub record Weighed (pairs : List (ℕ × ℕ)) (from to : ℕ) (table : List ℕ) : Type 0 where
    pub at : (e : ℕ) → from ≤ e → e < to → row_of 4 table e ≡ entry_of pairs (e / F c) (e % F c)

  -- the merit of unit u: its Nout, and then how few state bits are unknown
  unfoldable pub merit : ℕ → ℕ
  merit u = nout c t f u * 512 + (256 - nsv c t f u)
