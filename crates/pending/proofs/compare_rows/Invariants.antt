-- The first `places` places were compared, and `open_places` of them are open.
use mathlib.Core.Path.{◌≡◌}
use Prim.Native.Nat.{◌-◌, ◌≤◌}
use lib.ListN.{length, take}
use Rattle.model.specs.Expansion.{count_open}
use Rattle.pending.proofs.compare_rows.Given as goal

abbrev pub invariant-loop-places : goal.invariant-loop-places
invariant-loop-places l = (l.places ≤ length l.free) × (l.open_places ≤ l.places) × (l.open_places ≡ count_open (take l.places l.free) (take l.places l.faulty))

abbrev pub decreases-loop-places : goal.decreases-loop-places
decreases-loop-places l = length l.free - l.places
