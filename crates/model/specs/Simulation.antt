-- Plain simulation: what a fault lets be seen, the values of all lines in one time unit, what outputs show, the next state, and runs.
-- The fault-free circuit is the circuit with a fault that names no line.
use Rattle.std.specs.Prelude.{ℕ, zero, suc, Bool, cond, ◌&&◌, List, [], ◌∷◌, ◌++◌, map, get_or, replicate, eqb}
use Rattle.lists.specs.Scan.{count_below, tabulate}
use Rattle.model.specs.Inputs.{N, kind, pin_count, pin_line, is_input, is_flip_flop, flip_flops, output_lines, F, inputs_at, Fault}
use Rattle.model.specs.Values.{X, gate}

unfoldable pub no_fault : Fault
no_fault = record { line = 65536; pin = 0; value = 0 }

-- the fault is on this pin of line n; pin 0 is the line itself
unfoldable pub is_stuck : Fault → ℕ → ℕ → Bool
is_stuck f n pin = eqb f.line n && eqb f.pin pin

-- A fault fixes what is seen: there the stuck value, elsewhere v.
unfoldable pub seen : Fault → ℕ → ℕ → ℕ → ℕ
seen f n pin v = cond (is_stuck f n pin) f.value v

-- what output line n shows: its line's value, which is already what the fault lets be seen; a stuck line shows its value to all, outputs
-- included
unfoldable pub shown : Fault → List ℕ → ℕ → ℕ
shown f values n = get_or values n X

module _ (c : List ℕ) (f : Fault) where
  -- a stuck pin shows its value only to its gate or flip-flop
  unfoldable pub pin_seen : List ℕ → ℕ → ℕ → ℕ
  pin_seen values n pin = seen f n pin (get_or values (pin_line c n pin) X)

  unfoldable pub pins_seen : List ℕ → ℕ → List ℕ
  pins_seen values n = tabulate (λ pin. pin_seen values n pin) 1 (pin_count c n)

  -- Inputs take the test, flip-flop lines the state, gates follow in line order: what stands behind line n, with the values of the
  -- lines below it.
  unfoldable pub behind : List ℕ → List ℕ → List ℕ → ℕ → ℕ
  behind inputs state below n =
      cond (is_input c n) (get_or inputs (count_below (λ m. is_input c m) n) X)
      (cond (is_flip_flop c n) (get_or state (count_below (λ m. is_flip_flop c m) n) X)
      (gate (kind c n) (pins_seen below n)))

  -- the values of the lines below n
  unfoldable pub values_below : List ℕ → List ℕ → ℕ → List ℕ
  values_below inputs state zero = []
  values_below inputs state (suc n) =
      let below = values_below inputs state n in
      below ++ (seen f n 0 (behind inputs state below n) ∷ [])

  -- the values of all lines in one unit
  unfoldable pub line_values : List ℕ → List ℕ → List ℕ
  line_values inputs state = values_below inputs state (N c)

  unfoldable pub outputs : List ℕ → List ℕ
  outputs values = map (λ n. shown f values n) (output_lines c)

  -- the next state is what the flip-flop pins see
  unfoldable pub next_state : List ℕ → List ℕ
  next_state values = map (λ n. pin_seen values n 1) (flip_flops c)

-- every flip-flop starts at X
unfoldable pub power_up : List ℕ → List ℕ
power_up c = replicate (F c) X

module _ (c t : List ℕ) (f : Fault) where
  -- the run from a state: its state, line values and outputs at unit u
  unfoldable pub state_at : List ℕ → ℕ → List ℕ
  state_at start zero = start
  state_at start (suc u) = next_state c f (line_values c f (inputs_at c t u) (state_at start u))

  unfoldable pub values_at : List ℕ → ℕ → List ℕ
  values_at start u = line_values c f (inputs_at c t u) (state_at start u)

  unfoldable pub outputs_at : List ℕ → ℕ → List ℕ
  outputs_at start u = outputs c f (values_at start u)

  -- plain simulation, begun without a starting state
  unfoldable pub plain_state : ℕ → List ℕ
  plain_state u = state_at (power_up c) u

  unfoldable pub plain_values : ℕ → List ℕ
  plain_values u = values_at (power_up c) u

  unfoldable pub plain_outputs : ℕ → List ℕ
  plain_outputs u = outputs_at (power_up c) u

-- what plain simulation of the fault-free circuit shows
unfoldable pub free_values : List ℕ → List ℕ → ℕ → List ℕ
free_values c t u = plain_values c t no_fault u

unfoldable pub free_outputs : List ℕ → List ℕ → ℕ → List ℕ
free_outputs c t u = plain_outputs c t no_fault u
