-- The area begins with the first s bits of the state.
use mathlib.Core.Path.{◌≡◌}
use mathlib.Core.List.{List}
use Prim.Native.Nat.{ℕ, ◌≤◌}
use lib.ListN.{length, take}
use Rattle.lists.specs.Field.{overwritten}
use Rattle.model.specs.Accepted.{ThreeValued}
use Rattle.lanes.specs.Lane.{Lane}
use Rattle.run.proofs.write_state.Given as goal

abbrev pub invariant-loop-s : goal.invariant-loop-s
invariant-loop-s l = (st : List ℕ) → Lane l.lane l.state st → l.count ≤ length st → ThreeValued st → l.area ≡ overwritten (take l.s st) l.initial.area
