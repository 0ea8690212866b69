-- Tokens as the code keeps them.
use Rattle.std.specs.Prelude.{◌≡◌, ℕ, zero, suc, ◌≤◌, ◌<◌, cond, List, [], ◌∷◌, ◌++◌, get_or, length, eqb}
use Rattle.bench_text.specs.Text.{Part}
use Rattle.parts.specs.declared.Part as code
use Rattle.parts.specs.Place.{text_part}

unfoldable pub part_of : List code.Part → ℕ → Part
part_of parts i = text_part (get_or parts i (record { at = 0; size = 0 }))

-- the first so many of them
unfoldable pub kept : List code.Part → ℕ → List Part
kept parts zero = []
kept parts (suc n) = kept parts n ++ (part_of parts n ∷ [])

-- all of them
abbrev pub all_kept : List code.Part → List Part
all_kept parts = kept parts (length parts)

-- a part that is not empty
unfoldable pub part_if : ℕ → ℕ → List Part
part_if at size = cond (eqb size 0) [] (record { at = at; size = size } ∷ [])

-- No form has more than 12 tokens: up to so many are all kept; of more it is known that they are more.
pub record Scanned (ts : List Part) (parts : List code.Part) (count : ℕ) : Type 0 where
  pub all : count ≤ 12 → kept parts count ≡ ts
  pub more : 12 < count → 12 < length ts
