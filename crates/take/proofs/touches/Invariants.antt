-- What the extras touch of the state list and of the pairs from q on is found.
use Rattle.std.proofs.Common.{◌≡◌, ◌||◌, List, ℕ, ◌+◌, ◌*◌, drop}
use Rattle.lists.specs.Field.{row_of}
use Rattle.model.specs.Inputs.{F, Fault}
use Rattle.model.specs.Expansion.{state_row}
use Rattle.model.specs.Sequences.{touches}
use Rattle.sequences.specs.Ends.{Taken}
use Rattle.take.proofs.touches.Given as goal

abbrev pub invariant-loop-q : goal.invariant-loop-q
invariant-loop-q l =
    (c t : List ℕ) (f : Fault) (pairs : List (ℕ × ℕ)) (low high : List ℕ) → l.size ≡ F c → Taken c t f pairs l.m l.times l.extras → row_of l.size l.list l.u ≡ state_row c t f l.u
    → row_of l.size l.extras (2 * l.m) ≡ low → row_of l.size l.extras (2 * l.m + 1) ≡ high → l.found ≡ (touches c t f (drop l.q pairs) l.u low || touches c t f (drop l.q pairs) l.u high)
