-- So many are found specified below s.
use mathlib.Core.Path.{◌≡◌}
use Prim.Native.Nat.{◌≤◌}
use lib.ListN.{take}
use Rattle.model.specs.Choose.{size}
use Rattle.rows.proofs.specified.Given as goal

abbrev pub invariant-loop-s : goal.invariant-loop-s
invariant-loop-s l = (l.found ≤ l.s) × (l.found ≡ size (take l.s l.row))
