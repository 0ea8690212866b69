-- 16-bit fields, low byte first, bytes written over the beginning of an area, and tables of rows of one size.
use Rattle.std.specs.Prelude.{◌≡◌, ℕ, ◌+◌, ◌*◌, ◌/◌, ◌%◌, ◌<◌, List, [], ◌∷◌, ◌++◌, get_or, length, take, drop}

-- the 16-bit number at a place
unfoldable pub word16 : List ℕ → ℕ → ℕ
word16 bytes at = get_or bytes at 0 + 256 * get_or bytes (at + 1) 0

-- the two bytes of a 16-bit number
unfoldable pub bytes16 : ℕ → List ℕ
bytes16 n = n % 256 ∷ n / 256 % 256 ∷ []

-- an area that held `old`, with `new` written at its beginning
unfoldable pub overwritten : List ℕ → List ℕ → List ℕ
overwritten new old = new ++ drop (length new) old

-- row u of a table
unfoldable pub row_of : ℕ → List ℕ → ℕ → List ℕ
row_of size table u = take size (drop (size * u) table)

-- the first so many rows of a table
pub record Rows (size count : ℕ) (table : List ℕ) (row : ℕ → List ℕ) : Type 0 where
  pub at : (u : ℕ) → u < count → row_of size table u ≡ row u
