-- The state holds, in each lane, the first i bits of the lane's number.
use Prim.Native.Nat.{ℕ, ◌+◌, ◌<◌}
use Rattle.model.specs.Starts.{bits}
use Rattle.lanes.specs.Lane.{Lane}
use Rattle.starts.proofs.load_starts.Given as goal

abbrev pub invariant-loop-i : goal.invariant-loop-i
invariant-loop-i l = (lane : ℕ) → lane < 64 → Lane lane l.state (bits l.i (l.base + lane))
