-- The first i places hold the row's values in the lanes wanted; every other lane holds what it held.
use Prim.Native.Nat.{ℕ, ◌<◌}
use Rattle.run.proofs.Laws.{Loaded}
use Rattle.run.proofs.load_row.Given as goal

abbrev pub invariant-loop-i : goal.invariant-loop-i
invariant-loop-i l = (lane : ℕ) → lane < 64 → Loaded lane l.wanted l.row l.i l.initial.words l.words
