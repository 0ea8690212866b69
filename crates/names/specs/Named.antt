-- Rows of a table of names that can be listed.
use Rattle.std.specs.Prelude.{ℕ, ◌≤◌, ◌<◌, List}
use Rattle.lookup.specs.Lookup.{row_part, RowWithin}

-- the rows below `count`, at most 4,096, tell names within the text, each of at most 32 bytes
pub record Named (text names : List ℕ) (count : ℕ) : Type 0 where
  pub few : count ≤ 4096
  pub row : (n : ℕ) → n < count → RowWithin text names n
  pub short : (n : ℕ) → n < count → (row_part names n).size ≤ 32
