-- What `kept` says of an area.
use Rattle.std.specs.Prelude.{ℕ, ◌≡◌, List, length, replicate}

-- every byte is this one
abbrev pub Only : ℕ → List ℕ → Type 0
Only byte area = area ≡ replicate (length area) byte
