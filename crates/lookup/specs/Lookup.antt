-- Names in tables: a row of three words for each line (where its name begins, its size, its link), and a word for each hash.
-- A line is told by one more than its number, and no line by 0.
use Rattle.std.specs.Prelude.{◌≡◌, Bool, cond, List, ℕ, zero, suc, ◌+◌, ◌*◌, ◌≤◌, ◌<◌, eqb, get_or, length}
use Rattle.bench_text.specs.Text.{Part, bytes_of}
use Rattle.bench_text.specs.Bench.{name_at}
use Rattle.parts.specs.Hash.{hash_of}

-- one more than the highest number below n that passes, or 0
unfoldable pub last : (ℕ → Bool) → ℕ → ℕ
last P zero = 0
last P (suc n) = cond (P n) (suc n) (last P n)

-- the part of the text that row n tells
abbrev pub row_part : List ℕ → ℕ → Part
row_part names n = record { at = get_or names (3 * n) 0; size = get_or names (3 * n + 1) 0 }

-- row n stands in the table, and its part lies within the text
pub record RowWithin (text names : List ℕ) (n : ℕ) : Type 0 where
  pub row : 3 * n + 2 ≤ length names
  pub within : (row_part names n).at + (row_part names n).size ≤ length text

-- the hash of line n's name
unfoldable pub line_hash : List ℕ → ℕ → ℕ
line_hash text n = hash_of (bytes_of text (name_at text n))

-- the lines below `count` of a text are held
pub record Held (text names heads : List ℕ) (count : ℕ) : Type 0 where
  pub few : count ≤ 4096
  pub room : length names ≡ 12288
  pub slots : length heads ≡ 4096
  -- row n tells line n's name, which lies within the text
  pub starts : (n : ℕ) → n < count → get_or names (3 * n) 0 ≡ (name_at text n).at
  pub sizes : (n : ℕ) → n < count → get_or names (3 * n + 1) 0 ≡ (name_at text n).size
  pub within : (n : ℕ) → n < count → (name_at text n).at + (name_at text n).size ≤ length text
  -- and links to the next lower line with the same hash
  pub links : (n : ℕ) → n < count → get_or names (3 * n + 2) 0 ≡ last (λ m. eqb (line_hash text m) (line_hash text n)) n
  -- a hash tells the highest line that has it
  pub tops : (hash : ℕ) → hash < 4096 → get_or heads hash 0 ≡ last (λ m. eqb (line_hash text m) hash) count
