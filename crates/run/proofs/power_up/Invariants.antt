-- The state holds, in each lane, the first s bits of the power-up state.
use Prim.Native.Nat.{ℕ}
use lib.ListN.{take}
use Rattle.model.specs.Simulation.{power_up}
use Rattle.lanes.specs.Lane.{Lane}
use Rattle.run.proofs.power_up.Given as goal

abbrev pub invariant-loop-s : goal.invariant-loop-s
invariant-loop-s l = (lane : ℕ) → Lane lane l.state (take l.s (power_up l.c))
