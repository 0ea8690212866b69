-- Bytes appended to a print, which is filled from its beginning.
use Rattle.std.specs.Prelude.{◌≡◌, List, [], ◌∷◌, ◌++◌, ℕ, ◌+◌, ◌<◌, length, take}

-- every number of a list is below a bound
unfoldable pub Below : ℕ → List ℕ → Type 0
Below bound [] = Unit {0}
Below bound (n ∷ ns) = (n < bound) × Below bound ns

-- a print that held `old` up to `at` holds `new` behind it, up to `r`
pub record Put (at r : ℕ) (new old out : List ℕ) : Type 0 where
  pub end : r ≡ at + length new
  pub bytes : take r out ≡ take at old ++ new
