-- Implication in one unit: a line is given a value, and two passes add what follows. Down, a gate whose value is known tells what its pins
-- must be; up, each gate is evaluated. A stuck line says nothing of its gate, and a stuck pin nothing of the line behind it.
use Rattle.std.specs.Prelude.{ℕ, zero, suc, ◌/◌, Bool, false, cond, not, ◌&&◌, ◌||◌, List, [], ◌∷◌, get_or, set, replicate, eqb}
use Rattle.model.specs.Inputs.{N, kind, pin_count, pin_line, is_gate, flip_flop_line, F, Fault}
use Rattle.model.specs.Values.{X, is_specified, invert, and_of, invert_all, xor_pair, xor_of, invert_if, inverts, gate, some_oppose, give, has_conflict}
use Rattle.model.specs.Simulation.{is_stuck, pins_seen, outputs, next_state, plain_state, plain_values, free_outputs}

-- the list without place i
unfoldable pub others : List ℕ → ℕ → List ℕ
others [] i = []
others (a ∷ pins) zero = pins
others (a ∷ pins) (suc i) = a ∷ others pins i

-- AND at 1: every pin 1. AND at 0: if exactly one pin is X and the rest 1, that pin 0. X stands for nothing implied.
unfoldable pub and_implies : ℕ → List ℕ → ℕ → ℕ
and_implies zero pins i = cond (not (is_specified (get_or pins i X)) && eqb (and_of (others pins i)) 1) 0 X
and_implies (suc zero) pins i = 1
and_implies (suc (suc v)) pins i = X

-- XOR: if exactly one pin is X, the parity
unfoldable pub xor_implies : ℕ → List ℕ → ℕ → ℕ
xor_implies v pins i = cond (not (is_specified (get_or pins i X))) (xor_pair v (xor_of (others pins i))) X

-- the even kinds, by half their number. Buffer: the pin. OR dual.
unfoldable pub even_implies : ℕ → ℕ → List ℕ → ℕ → ℕ
even_implies zero v pins i = X
even_implies (suc zero) v pins zero = v
even_implies (suc zero) v pins (suc i) = X
even_implies (suc (suc zero)) v pins i = and_implies v pins i
even_implies (suc (suc (suc zero))) v pins i = invert (and_implies (invert v) (invert_all pins) i)
even_implies (suc (suc (suc (suc zero)))) v pins i = xor_implies v pins i
even_implies (suc (suc (suc (suc (suc half))))) v pins i = X

-- what a gate of kind k at v, whose pins see these values, implies for the pin at index i; inverted kinds likewise
unfoldable pub implies : ℕ → ℕ → List ℕ → ℕ → ℕ
implies k v pins i = even_implies (k / 2) (invert_if (inverts k) v) pins i

-- a specified value fills an X or, if opposite, is a conflict
unfoldable pub give_line : List ℕ → ℕ → ℕ → List ℕ
give_line values line v = set values line (give (get_or values line X) v)

module _ (c : List ℕ) (f : Fault) where
  -- Line n at v implies `left` of its pins from index i. A stuck pin counts with its value; the line behind it is neither given a value nor
  -- compared.
  unfoldable pub give_pins : ℕ → ℕ → List ℕ → ℕ → ℕ → List ℕ → List ℕ
  give_pins n v pins i zero values = values
  give_pins n v pins i (suc left) values =
      give_pins n v pins (suc i) left
      (cond (is_stuck f n (suc i)) values (give_line values (pin_line c n (suc i)) (implies (kind c n) v pins i)))

  -- a gate line that is specified and not stuck implies pins
  unfoldable pub down_line : List ℕ → ℕ → List ℕ
  down_line values n =
      cond (is_gate c n && not (is_stuck f n 0) && is_specified (get_or values n X))
      (give_pins n (get_or values n X) (pins_seen c f values n) 0 (pin_count c n) values) values

  -- from line n - 1 to 0
  unfoldable pub down : ℕ → List ℕ → List ℕ
  down zero values = values
  down (suc n) values = down n (down_line values n)

  -- each gate not stuck is evaluated
  unfoldable pub up_line : List ℕ → ℕ → List ℕ
  up_line values n = cond (is_gate c n && not (is_stuck f n 0)) (give_line values n (gate (kind c n) (pins_seen c f values n))) values

  -- from 0 to line n - 1
  unfoldable pub up : ℕ → List ℕ → List ℕ
  up zero values = values
  up (suc n) values = up_line (up n values) n

  -- the implication of one value: give the line the value, then make two passes
  unfoldable pub implied : List ℕ → ℕ → ℕ → List ℕ
  implied values line v = up (N c) (down (N c) (give_line values line v))

-- a row that says nothing
unfoldable pub nothing : List ℕ → List ℕ
nothing c = replicate (F c) X

-- of the second row, the places that are X in the first
unfoldable pub where_x : List ℕ → List ℕ → List ℕ
where_x [] bs = []
where_x (a ∷ row) [] = []
where_x (a ∷ row) (b ∷ bs) = cond (eqb a X) b X ∷ where_x row bs

-- for a pair (u, i) of a time unit and a flip-flop; an extra is a row of F values, X where it says nothing
module _ (c t : List ℕ) (f : Fault) where
  -- the line values of unit u, once flip-flop i's pin line is given the value α there
  unfoldable pub implied_at : ℕ → ℕ → ℕ → List ℕ
  implied_at u i α = implied c f (plain_values c t f u) (pin_line c (flip_flop_line c i) 1) α

  -- Value α is marked if there is a conflict, or if an output then opposes a specified fault-free value of unit u - 1.
  unfoldable pub marked : ℕ → ℕ → ℕ → Bool
  marked zero i α = false
  marked (suc u) i α =
      let values = implied_at u i α in
      has_conflict values || some_oppose (free_outputs c t u) (outputs c f values)

  -- Else extra(u, i, α) is every (j, β), unknown in the plain state at u, whose pin shows β now. At u = 0 it is (i, α).
  unfoldable pub extra : ℕ → ℕ → ℕ → List ℕ
  extra zero i α = set (nothing c) i α
  extra (suc u) i α =
      cond (marked (suc u) i α) (nothing c) (where_x (plain_state c t f (suc u)) (next_state c f (implied_at u i α)))
