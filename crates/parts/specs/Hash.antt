-- A number for a name: names that are the same have the same, and few others have it too.
use Rattle.std.specs.Prelude.{ℕ, ◌+◌, ◌*◌, ◌%◌, List, [], ◌∷◌}

-- what the number h becomes with these bytes behind those that it stands for
unfoldable pub hash_from : ℕ → List ℕ → ℕ
hash_from h [] = h
hash_from h (b ∷ bs) = hash_from ((25173 * h + b) % 65536) bs

-- below 4,096
unfoldable pub hash_of : List ℕ → ℕ
hash_of name = hash_from 0 name % 4096
