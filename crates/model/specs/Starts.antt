-- Starting states, their numbers, and whether one differs. Plan, state list and extras have no part in a run.
use Rattle.std.specs.Prelude.{ℕ, zero, suc, ◌/◌, ◌%◌, ◌^◌, Bool, List, [], ◌∷◌}
use Rattle.lists.specs.Scan.{any_below}
use Rattle.model.specs.Inputs.{F, L, Fault}
use Rattle.model.specs.Values.{some_oppose}
use Rattle.model.specs.Simulation.{outputs_at, free_outputs}

-- the lowest n bits of s, bit 0 first
unfoldable pub bits : ℕ → ℕ → List ℕ
bits zero s = []
bits (suc n) s = s % 2 ∷ bits n (s / 2)

-- F, the state bits that a starting state is free to choose
unfoldable pub free_bits : List ℕ → ℕ
free_bits c = F c

-- A starting state gives each flip-flop's state bit 0 or 1. Bit i of its number (bit 0 lowest) is flip-flop i.
unfoldable pub starting_state : List ℕ → ℕ → List ℕ
starting_state c s = bits (F c) s

-- how many there are; with no flip-flop there is one, number 0
unfoldable pub start_count : List ℕ → ℕ
start_count c = 2 ^ free_bits c

-- The state differs if at some unit some output shows the opposite of what plain simulation of the fault-free circuit shows there.
unfoldable pub differs : List ℕ → List ℕ → Fault → ℕ → Bool
differs c t f s = any_below (λ u. some_oppose (free_outputs c t u) (outputs_at c t f (starting_state c s) u)) (L c t)
