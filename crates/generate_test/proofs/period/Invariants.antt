-- x is the number after n steps, and after fewer it was not back.
use Rattle.std.proofs.Common.{ℕ, ◌≡◌, ◌≤◌, ◌<◌}
use Rattle.model.specs.Generate.{stepped}
use Rattle.generate_test.proofs.period.Given as goal

abbrev pub invariant-loop-n : goal.invariant-loop-n
invariant-loop-n l =
    (l.x ≡ stepped l.seed l.n) × ((m : ℕ) → 1 ≤ m → m < l.n → stepped l.seed m ≡ l.seed → ⊥)
