-- After how many steps a number is back at its seed.
use Rattle.std.specs.Prelude.{◌≡◌, ℕ, ◌≤◌, ◌<◌}
use Rattle.model.specs.Generate.{stepped}

-- it is back after n steps, at least one, and not before; of n = 65,536 only that it is not before
pub record Period (seed n : ℕ) : Type 0 where
  pub some : 1 ≤ n
  pub back : n < 65536 → stepped seed n ≡ seed
  pub first : (m : ℕ) → 1 ≤ m → m < n → stepped seed m ≡ seed → ⊥
