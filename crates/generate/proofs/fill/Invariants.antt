-- x is the number after b steps, and the first b bytes are written.
use mathlib.Core.Path.{◌≡◌}
use mathlib.Core.List.{List}
use Prim.Native.Nat.{ℕ}
use lib.ListN.{take}
use Rattle.lists.specs.Scan.{tabulate}
use Rattle.lists.specs.Field.{overwritten}
use Rattle.model.specs.Generate.{stepped, generate_byte}
use Rattle.generate.proofs.fill.Given as goal

abbrev pub bytes : ℕ → ℕ → List ℕ
bytes seed size = tabulate (λ b. generate_byte seed b) 0 size

abbrev pub invariant-loop-b : goal.invariant-loop-b
invariant-loop-b l = (l.x ≡ stepped l.seed l.b) × (l.res ≡ overwritten (take l.b (bytes l.seed l.size)) l.initial.res)
