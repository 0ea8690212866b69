-- The row begins with the first s places of the extra.
use mathlib.Core.Path.{◌≡◌}
use mathlib.Core.List.{List}
use Prim.Native.Nat.{ℕ}
use lib.ListN.{length, take}
use Rattle.lists.specs.Field.{overwritten}
use Rattle.model.specs.Accepted.{ThreeValued}
use Rattle.model.specs.Implication.{where_x}
use Rattle.lanes.specs.Lane.{Lane}
use Rattle.rows.proofs.extra_row.Given as goal

abbrev pub invariant-loop-s : goal.invariant-loop-s
invariant-loop-s l =
    (st : List ℕ) → Lane l.lane l.state st → length st ≡ l.count → ThreeValued st → l.row ≡ overwritten (take l.s (where_x (take l.count l.plain) st)) l.initial.row
