-- The state is given the list of the pairs from q on.
use mathlib.Core.Bool.{false}
use mathlib.Core.List.{List}
use mathlib.Core.Path.{◌≡◌}
use Prim.Native.Nat.{ℕ, ◌+◌, ◌/◌, ◌^◌, ◌<◌}
use lib.ListN.{length, drop}
use Rattle.model.specs.Inputs.{F, Fault}
use Rattle.model.specs.Values.{give_row, has_conflict}
use Rattle.model.specs.Expansion.{state_row}
use Rattle.model.specs.Sequences.{sequence_row}
use Rattle.lanes.specs.Lane.{Follows}
use Rattle.sequences.specs.Ends.{Taken}
use Rattle.sequences.proofs.give_pairs.Given as goal

abbrev pub invariant-loop-q : goal.invariant-loop-q
invariant-loop-q l =
    (c t : List ℕ) (f : Fault) (pairs : List (ℕ × ℕ)) (lane : ℕ) (vs : List ℕ) → l.count ≡ F c → Taken c t f pairs l.m l.times l.extras → lane < 64 → length vs ≡ F c → length (state_row c t f l.u) ≡ F c
    → has_conflict (sequence_row c t f pairs (l.base + lane) l.u) ≡ false → Follows lane l.initial.state (give_row vs (state_row c t f l.u))
    → Follows lane l.state (give_row vs (sequence_row c t f (drop l.q pairs) ((l.base + lane) / 2 ^ l.q) l.u))
