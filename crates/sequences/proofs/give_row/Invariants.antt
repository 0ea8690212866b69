-- The first s places of the state are given their bytes.
use mathlib.Core.Bool.{true, false}
use mathlib.Core.List.{List}
use mathlib.Core.Path.{◌≡◌}
use Prim.Native.Nat.{ℕ, ◌<◌}
use lib.ListN.{length, take}
use Rattle.model.specs.Values.{give_row, has_conflict}
use Rattle.lanes.specs.Lane.{bit, Follows}
use Rattle.sequences.proofs.give_row.Given as goal

abbrev pub invariant-loop-s : goal.invariant-loop-s
invariant-loop-s l =
    (lane : ℕ) (vs new : List ℕ) → lane < 64 → length vs ≡ l.count → has_conflict new ≡ false → (bit lane l.ones ≡ false → new ≡ l.low) → (bit lane l.ones ≡ true → new ≡ l.high)
    → Follows lane l.initial.state vs → Follows lane l.state (give_row vs (take l.s new))
