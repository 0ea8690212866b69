-- A run that never differs: its state is allowed by the plain states, by the state list, and by the list of one of the sequences. So it
-- stands against every verdict from 1 to 4, stage by stage.
use mathlib.Core.Path.{◌≡◌, refl, sym, ◌∙◌}
use Prim.Native.Nat.{ℕ, zero, suc, ◌+◌, ◌-◌, ◌*◌, ◌/◌, ◌%◌, ◌^◌, ◌≤◌, ◌<◌}
use mathlib.Core.Bool.{true, false, cond, ◌&&◌, false≢true}
use mathlib.Core.List.{List, [], ◌∷◌, ◌++◌}
use lib.ListN.{get_or, length, length-take, length-drop}
use lib.Dec.{eqb, ltb}
use native.Mathlib.Omega.{arith}
use native.Mathlib.Decide.{dec_le}
use native.Mathlib.Nat.{le-div_iff_mul-le}
use borrow.Author.Tests.{eqb-true, eq-eqb, ltb-true, ltb-false, lt-ltb}
use Rattle.lists.specs.Scan.{any_below}
use Rattle.model.specs.Inputs.{N, pin_line, is_output, flip_flop_line, output_lines, I, F, L, inputs_at, Fault}
use Rattle.model.specs.Accepted.{ValidCircuit}
use Rattle.model.specs.Values.{X, give_row, some_oppose}
use Rattle.model.specs.Simulation.{line_values, outputs, next_state, power_up, state_at, values_at, outputs_at, plain_state, plain_values, plain_outputs, free_values, free_outputs}
use Rattle.model.specs.Starts.{bits, starting_state, differs}
use Rattle.model.specs.Implication.{nothing, implied_at, marked, extra}
use Rattle.model.specs.Expansion.{count_open, nsv, open_places, nout, both_open, tried, both_marked, alone, written, row_after, opposed_write, state_row}
use Rattle.model.specs.Sequences.{taken, sequence_row, ending, end_of, count_ending, ends_surviving}
use Rattle.model.specs.Grade.{opposed_at}
use Rattle.lists.proofs.Tests.{and_left, and_right, and-fails, or_cases, cond_cases, clash, is_false, is_true}
use Rattle.lists.proofs.Scan.{any_below-false, any_below-none, count_below-positive}
use Rattle.model.proofs.Allows.{Allows, AllowsRow, outputs_allows, next_state_allows, line_values_allows, state_at_allows, values_at_allows, outputs_at_allows}
use Rattle.model.proofs.Total.{Total, TotalRow, take-total, drop-total, total_allows, total_row_allows, total-bit, total-cases, get_or_total, allows_equal}
use Rattle.model.proofs.Implication.{Settled, implied_allows, no-conflict, some_oppose_allows}
use Rattle.model.proofs.Runs.{flip_flop_line-holds, length-next_state, length-line_values, line_values-total, next_state-total, settled}
use Rattle.model.proofs.Pairs.{taken-all}
use Rattle.model.proofs.Rows.{give_row_allows, rows_agree, where_x_allows, unknown_allows, set_allows, length-bits, bits-total, some_oppose-select, closed-row, count_x-unknown}

-- what an accepted job gives of its circuit, its test and one of its faults
pub record FaultJob (c t : List ℕ) (f : Fault) : Type 0 where
  pub circuit : ValidCircuit c
  pub test : TotalRow t
  pub units : 0 < L c t
  pub value : Total f.value

-- pairs that name a state bit
Named : List ℕ → List ℕ → List (ℕ × ℕ) → Type 0
Named c t [] = Unit {0}
Named c t (q ∷ pairs) = (q.0 < L c t) × (q.1 < F c) × Named c t pairs

nil-named : (c t : List ℕ) → Named c t []
unfolding Named
nil-named c t = tt

snoc-named : (c t : List ℕ) (pairs : List (ℕ × ℕ)) (u i : ℕ) → Named c t pairs → u < L c t → i < F c → Named c t (pairs ++ ((u, i) ∷ []))
unfolding Named
snoc-named c t [] u i h a b = (a, b, tt)
snoc-named c t (q ∷ pairs) u i h a b = (h.0, h.1, snoc-named c t pairs u i h.2 a b)

taken-named : (c t : List ℕ) (f : Fault) (p : List ℕ) (k : ℕ) → Named c t (taken c t f p k)
taken-named c t f p k = taken-all c t f p k (Named c t) (nil-named c t) (λ pairs u i _ h n. snoc-named c t pairs u i n h.unit h.bit)

-- the responses of a unit oppose where one of its lines does
pub outputs-opposed : (c t : List ℕ) (f : Fault) (u : ℕ) → some_oppose (free_outputs c t u) (plain_outputs c t f u) ≡ any_below (λ n. opposed_at c t f u n) (N c)
unfolding free_outputs plain_outputs outputs_at outputs output_lines opposed_at free_values plain_values
outputs-opposed c t f u = some_oppose-select (λ n. is_output c n) _ _ (N c)

module _ (c t : List ℕ) (f : Fault) (a : FaultJob c t f) where
  inputs-total : (u : ℕ) → TotalRow (inputs_at c t u)
  unfolding inputs_at
  inputs-total u = take-total (I c) _ (drop-total (I c * u) t a.test)

  inputs_allow : (u : ℕ) → AllowsRow (inputs_at c t u) (inputs_at c t u)
  inputs_allow u = total_row_allows _ (inputs-total u)

  stuck : Allows f.value f.value
  stuck = total_allows _ a.value

  length-inputs : (u : ℕ) → u < L c t → length (inputs_at c t u) ≡ I c
  unfolding inputs_at L
  length-inputs u h =
      let m : suc u * I c ≤ length t = (le-div_iff_mul-le a.circuit.some_input).0 h in
      simp (length-take, length-drop) (omega arith)

  -- ---- the run from a total state
  module _ (st : List ℕ) (whole : TotalRow st) (each : length st ≡ F c) where
    -- the run's value of bit i of unit u, or of the line that decides it
    bit_of : ℕ → ℕ → ℕ
    bit_of zero i = get_or st i X
    bit_of (suc u) i = get_or (values_at c t f st u) (pin_line c (flip_flop_line c i) 1) X

    state-total : (u : ℕ) → u ≤ L c t → TotalRow (state_at c t f st u) × (length (state_at c t f st u) ≡ F c)
    unfolding state_at
    state-total zero h = (whole, each)
    state-total (suc u) h =
        let ih : TotalRow (state_at c t f st u) × (length (state_at c t f st u) ≡ F c) = state-total u (omega arith) in (
          next_state-total c a.circuit f a.value (inputs_at c t u) (inputs-total u) (length-inputs u h) _ ih.0 ih.1,
          length-next_state c f _,
        )

    settled_at : (u : ℕ) → u < L c t → Settled c f (values_at c t f st u)
    unfolding values_at
    settled_at u h =
        let ih : TotalRow (state_at c t f st u) × (length (state_at c t f st u) ≡ F c) = state-total u (omega arith) in
        settled c a.circuit f a.value (inputs_at c t u) (inputs-total u) (length-inputs u h) _ ih.0 ih.1

    pub values-total : (u : ℕ) → u < L c t → TotalRow (values_at c t f st u) × (length (values_at c t f st u) ≡ N c)
    unfolding values_at
    values-total u h =
        let ih : TotalRow (state_at c t f st u) × (length (state_at c t f st u) ≡ F c) = state-total u (omega arith) in (
          line_values-total c a.circuit f a.value (inputs_at c t u) (inputs-total u) (length-inputs u h) _ ih.0 ih.1,
          length-line_values c f _ _,
        )

    power_up_allows : AllowsRow (power_up c) st
    unfolding power_up
    power_up_allows = unknown_allows (F c) st each

    plain_state_allows : (u : ℕ) → AllowsRow (plain_state c t f u) (state_at c t f st u)
    unfolding plain_state
    plain_state_allows u = state_at_allows c t f stuck inputs_allow (power_up c) st power_up_allows u

    plain_values_allows : (u : ℕ) → AllowsRow (plain_values c t f u) (values_at c t f st u)
    unfolding plain_values
    plain_values_allows u = values_at_allows c t f stuck inputs_allow (power_up c) st power_up_allows u

    plain_outputs_allows : (u : ℕ) → AllowsRow (plain_outputs c t f u) (outputs_at c t f st u)
    unfolding plain_outputs
    plain_outputs_allows u = outputs_at_allows c t f stuck inputs_allow (power_up c) st power_up_allows u

    nothing_allows : (u : ℕ) → u ≤ L c t → AllowsRow (nothing c) (state_at c t f st u)
    unfolding nothing
    nothing_allows u h = unknown_allows (F c) _ (state-total u h).1

    bit-of-total : (u i : ℕ) → u < L c t → i < F c → Total (bit_of u i)
    unfolding bit_of
    bit-of-total zero i h k = get_or_total st i whole (omega arith)
    bit-of-total (suc u) i h k =
        let n = flip_flop_line-holds c i k in
        let v : TotalRow (values_at c t f st u) × (length (values_at c t f st u) ≡ N c) = values-total u (omega arith) in
        get_or_total _ _ v.0 (omega (arith, a.circuit.fed (flip_flop_line c i) n.0 n.1))

    implied_at_allows : (u i α : ℕ) → u < L c t → Allows α (bit_of (suc u) i) → AllowsRow (implied_at c t f u i α) (values_at c t f st u)
    unfolding implied_at bit_of
    implied_at_allows u i α h k = implied_allows c f stuck _ (settled_at u h) _ _ α (plain_values_allows u) k

    values-step : (u : ℕ) (now : List ℕ) → AllowsRow now (state_at c t f st u) → AllowsRow (line_values c f (inputs_at c t u) now) (values_at c t f st u)
    unfolding values_at
    values-step u now h = line_values_allows c f stuck (inputs_at c t u) (inputs_allow u) _ _ h

    next-step : (u : ℕ) (vs : List ℕ) → AllowsRow vs (values_at c t f st u) → AllowsRow (next_state c f vs) (state_at c t f st (suc u))
    unfolding values_at state_at
    next-step u vs h = next_state_allows c f stuck _ _ h

    extra_allows : (u i α : ℕ) → u < L c t → Allows α (bit_of u i) → AllowsRow (extra c t f u i α) (state_at c t f st u)
    unfolding extra bit_of
    extra_allows zero i α h k = set_allows (nothing c) _ i α (nothing_allows 0 (omega arith)) (unfold state_at in k)
    extra_allows (suc u) i α h k =
        cond_cases (λ (row : List ℕ). AllowsRow row (state_at c t f st (suc u))) (marked c t f (suc u) i α) _ _
        (λ _. nothing_allows (suc u) (omega arith))
        (λ _. where_x_allows (plain_state c t f (suc u)) _ _ (plain_state_allows (suc u)) (next-step u _ (implied_at_allows u i α (omega arith) k)))

    -- ---- a run that never differs
    module _ (never : (u : ℕ) → u < L c t → some_oppose (free_outputs c t u) (outputs_at c t f st u) ≡ false) where
      no_opposing : (u : ℕ) (vs : List ℕ) → u < L c t → AllowsRow vs (values_at c t f st u) → some_oppose (free_outputs c t u) (outputs c f vs) ≡ false
      unfolding outputs_at
      no_opposing u vs h r = is_false _ (λ p. clash _ (some_oppose_allows (free_outputs c t u) _ _ (outputs_allows c f _ _ r) p) (never u h))

      -- the value that the run has is never marked
      unmarked : (u i α : ℕ) → u < L c t → Allows α (bit_of u i) → marked c t f u i α ≡ true → ⊥
      unfolding marked
      unmarked zero i α h k e = false≢true e
      unmarked (suc u) i α h k e =
          let r : AllowsRow (implied_at c t f u i α) (values_at c t f st u) = implied_at_allows u i α (omega arith) k in
          or_cases _ _ e
          (λ p. clash _ p (no-conflict _ _ r))
          (λ p. clash _ p (no_opposing u _ (omega arith) r))

      -- so where a value is marked the run has the other
      not-marked : (u i α : ℕ) → u < L c t → i < F c → marked c t f u i α ≡ true → bit_of u i ≡ α → ⊥
      not-marked u i α h k e p = unmarked u i α h (allows_equal α _ (bit-of-total u i h k) p) e

      -- stage 3
      not-both : (u i : ℕ) → u < L c t → i < F c → both_marked c t f u i ≡ true → ⊥
      unfolding both_marked
      not-both u i h k e =
          total-cases (bit_of u i) (bit-of-total u i h k)
          (not-marked u i 0 h k (and_right (tried c t f u i) _ (and_left _ _ e)))
          (not-marked u i 1 h k (and_right (tried c t f u i && marked c t f u i 0) _ e))

      alone-marked : (u i α : ℕ) → alone c t f u i α ≡ true → marked c t f u i α ≡ true
      unfolding alone
      alone-marked u i α e = and_right (tried c t f u i) _ (and_left _ _ e)

      -- stage 4
      written_allows : (u i : ℕ) → u < L c t → i < F c → AllowsRow (written c t f u i) (state_at c t f st u)
      unfolding written
      written_allows u i h k =
          cond_cases (λ (row : List ℕ). AllowsRow row (state_at c t f st u)) _ _ _
          (λ e. extra_allows u i 1 h (total-cases (bit_of u i) (bit-of-total u i h k)
          (λ p. absurd (not-marked u i 0 h k (alone-marked u i 0 e) p)) (λ p. allows_equal 1 _ (bit-of-total u i h k) p)))
          (λ _. cond_cases (λ (row : List ℕ). AllowsRow row (state_at c t f st u)) _ _ _
          (λ e. extra_allows u i 0 h (total-cases (bit_of u i) (bit-of-total u i h k)
          (λ p. allows_equal 0 _ (bit-of-total u i h k) p) (λ p. absurd (not-marked u i 1 h k (alone-marked u i 1 e) p))))
          (λ _. nothing_allows u (omega arith)))

      row_after_allows : (u i : ℕ) → u < L c t → i ≤ F c → AllowsRow (row_after c t f u i) (state_at c t f st u)
      unfolding row_after
      row_after_allows u zero h k = plain_state_allows u
      row_after_allows u (suc i) h k = give_row_allows _ _ _ (row_after_allows u i h (omega arith)) (written_allows u i h k)

      no-opposed-write : (u i : ℕ) → u < L c t → i < F c → opposed_write c t f u i ≡ true → ⊥
      unfolding opposed_write
      no-opposed-write u i h k e = clash _ e (rows_agree _ _ _ (row_after_allows u _ h (omega arith)) (written_allows u i h k))

      state_row_allows : (u : ℕ) → u < L c t → AllowsRow (state_row c t f u) (state_at c t f st u)
      unfolding state_row
      state_row_allows u h = row_after_allows u (F c) h (omega arith)

      -- stage 5: the number of the sequence that has the run's values
      run_number : List (ℕ × ℕ) → ℕ
      run_number [] = 0
      run_number (q ∷ pairs) = bit_of q.0 q.1 + 2 * run_number pairs

      run_number-less : (pairs : List (ℕ × ℕ)) → Named c t pairs → run_number pairs < 2 ^ length pairs
      unfolding run_number Named
      run_number-less [] n = omega arith
      run_number-less (q ∷ pairs) n =
          let p : bit_of q.0 q.1 < 2 = total-bit _ (bit-of-total q.0 q.1 n.0 n.1) in
          let ih : run_number pairs < 2 ^ length pairs = run_number-less pairs n.2 in
          let g : bit_of q.0 q.1 + 2 * run_number pairs < 2 ^ suc (length pairs) = omega arith in
          g

      sequence_row_allows : (pairs : List (ℕ × ℕ)) (u : ℕ) → Named c t pairs → u < L c t
          → AllowsRow (sequence_row c t f pairs (run_number pairs) u) (state_at c t f st u)
      unfolding sequence_row run_number Named
      sequence_row_allows [] u n h = state_row_allows u h
      sequence_row_allows (q ∷ pairs) u n h =
          let b : Total (bit_of q.0 q.1) = bit-of-total q.0 q.1 n.0 n.1 in
          let p : bit_of q.0 q.1 < 2 = total-bit _ b in
          let rest : (bit_of q.0 q.1 + 2 * run_number pairs) / 2 ≡ run_number pairs = omega arith in
          let bit : (bit_of q.0 q.1 + 2 * run_number pairs) % 2 ≡ bit_of q.0 q.1 = omega arith in
          let ih : AllowsRow (sequence_row c t f pairs (run_number pairs) u) (state_at c t f st u) = sequence_row_allows pairs u n.2 h in
          rw (rest, bit)
          (cond_cases (λ (row : List ℕ). AllowsRow row (state_at c t f st u)) _ _ _
          (λ e.
          let at : q.0 ≡ u = eqb-true _ _ e in
          give_row_allows _ _ _ ih (rw (← at) (extra_allows q.0 q.1 _ n.0 (total_allows _ b))))
          (λ _. ih))

      ending-survives : (pairs : List (ℕ × ℕ)) → Named c t pairs → (left u : ℕ) (now : List ℕ) → u + left ≡ L c t → AllowsRow now (state_at c t f st u)
          → ending c t f pairs (run_number pairs) u left now ≡ ends_surviving
      unfolding ending
      ending-survives pairs n zero u now e h = refl
      ending-survives pairs n (suc left) u now e h =
          let v : AllowsRow (line_values c f (inputs_at c t u) now) (values_at c t f st u) = values-step u now h in
          let row : AllowsRow (cond (ltb (suc u) (L c t)) (sequence_row c t f pairs (run_number pairs) (suc u)) (nothing c)) (state_at c t f st (suc u)) =
          cond_cases (λ (row : List ℕ). AllowsRow row (state_at c t f st (suc u))) _ _ _
          (λ g. sequence_row_allows pairs (suc u) n (ltb-true _ _ g)) (λ _. nothing_allows (suc u) (omega arith)) in
          let m : AllowsRow (give_row (next_state c f (line_values c f (inputs_at c t u) now)) _) (state_at c t f st (suc u)) =
          give_row_allows _ _ _ (next-step u _ v) row in
          rw (no-conflict _ _ m, no_opposing u _ (omega arith) v) (ending-survives pairs n left (suc u) _ (omega arith) m)

      some-survives : (pairs : List (ℕ × ℕ)) → Named c t pairs → eqb (count_ending c t f pairs ends_surviving) 0 ≡ true → ⊥
      unfolding count_ending end_of
      some-survives pairs n e =
          let none : count_ending c t f pairs ends_surviving ≡ 0 = eqb-true _ _ e in
          let one : 0 < count_ending c t f pairs ends_surviving =
          count_below-positive (λ b. eqb (end_of c t f pairs b) ends_surviving) _ (run_number pairs) (run_number-less pairs n)
          (eq-eqb _ _ (ending-survives pairs n (L c t) 0 _ (omega arith) (sequence_row_allows pairs 0 n a.units))) in
          let z : ⊥ = omega arith in
          z

  -- ---- each stage, of every starting state
  start-whole : (s : ℕ) → TotalRow (starting_state c s)
  unfolding starting_state
  start-whole s = bits-total (F c) s

  start-each : (s : ℕ) → length (starting_state c s) ≡ F c
  unfolding starting_state
  start-each s = length-bits (F c) s

  alike : (s : ℕ) → differs c t f s ≡ false → (u : ℕ) → u < L c t → some_oppose (free_outputs c t u) (outputs_at c t f (starting_state c s) u) ≡ false
  unfolding differs
  alike s e u h = any_below-false (λ u. some_oppose (free_outputs c t u) (outputs_at c t f (starting_state c s) u)) (L c t) u e h

  pub stage1-sound : (u n : ℕ) → u < L c t → n < N c → opposed_at c t f u n ≡ true → (s : ℕ) → differs c t f s ≡ true
  stage1-sound u n h k e s = is_true _ (λ d.
      let plain : some_oppose (free_outputs c t u) (plain_outputs c t f u) ≡ true =
      is_true _ (λ z. clash _ e (any_below-false (λ n. opposed_at c t f u n) (N c) n (sym (outputs-opposed c t f u) ∙ z) k)) in
      clash _ (some_oppose_allows (free_outputs c t u) _ _ (plain_outputs_allows (starting_state c s) (start-whole s) (start-each s) u) plain) (alike s d u h))

  pub stage3-sound : (u i : ℕ) → u < L c t → i < F c → both_marked c t f u i ≡ true → (s : ℕ) → differs c t f s ≡ true
  stage3-sound u i h k e s = is_true _ (λ d. not-both (starting_state c s) (start-whole s) (start-each s) (alike s d) u i h k e)

  pub stage4-sound : (u i : ℕ) → u < L c t → i < F c → opposed_write c t f u i ≡ true → (s : ℕ) → differs c t f s ≡ true
  stage4-sound u i h k e s = is_true _ (λ d. no-opposed-write (starting_state c s) (start-whole s) (start-each s) (alike s d) u i h k e)

  pub stage5-sound : (p : List ℕ) (k : ℕ) → eqb (count_ending c t f (taken c t f p k) ends_surviving) 0 ≡ true → (s : ℕ) → differs c t f s ≡ true
  stage5-sound p k e s =
      is_true _ (λ d. some-survives (starting_state c s) (start-whole s) (start-each s) (alike s d) (taken c t f p k) (taken-named c t f p k) e)

  -- ---- stage 2: with no place open at unit 0, or no flip-flop, no starting state differs
  open_places-zero : (k u v : ℕ) → open_places c t f u k ≡ 0 → u ≤ v → v < u + k → count_open (free_outputs c t v) (plain_outputs c t f v) ≡ 0
  unfolding open_places
  open_places-zero zero u v e h l = absurd (let z : ⊥ = omega arith in z)
  open_places-zero (suc k) u v e h l = elim (dec_le (suc u) v) [
    | yes g ↦ open_places-zero k (suc u) v (omega arith) g (omega arith)
    | no g ↦ (let q : v ≡ u = omega arith in rw q (omega arith))
  ]

  pub nout-zero : (v : ℕ) → nout c t f 0 ≡ 0 → v < L c t → count_open (free_outputs c t v) (plain_outputs c t f v) ≡ 0
  unfolding nout
  nout-zero v e h = open_places-zero (L c t - 0) 0 v e (omega arith) (omega arith)

  pub nsv-start : nsv c t f 0 ≡ F c
  unfolding nsv plain_state state_at power_up
  nsv-start = count_x-unknown (F c)

  module _ (unopposed : (u n : ℕ) → u < L c t → n < N c → opposed_at c t f u n ≡ false) where
    plain-alike : (u : ℕ) → u < L c t → some_oppose (free_outputs c t u) (plain_outputs c t f u) ≡ false
    plain-alike u h = outputs-opposed c t f u ∙ any_below-none (λ n. opposed_at c t f u n) (N c) (λ n k. unopposed u n h k)

    closed : any_below (λ u. both_open c t f u) (L c t) ≡ false → 0 < F c → nout c t f 0 ≡ 0
    closed e h =
        let z : both_open c t f 0 ≡ false = any_below-false (λ u. both_open c t f u) (L c t) 0 e a.units in
        let l : nout c t f 0 ≤ 0 = ltb-false 0 (nout c t f 0) (and-fails _ _ z (lt-ltb 0 (nsv c t f 0) (omega (arith, nsv-start)))) in
        omega arith

    -- with no flip-flop there is one starting state, and its run is plain simulation
    no-flip-flop : (s u : ℕ) → F c ≡ 0 → plain_outputs c t f u ≡ outputs_at c t f (starting_state c s) u
    unfolding plain_outputs power_up starting_state bits
    no-flip-flop s u e = rw e

    pub stage2-sound : any_below (λ u. both_open c t f u) (L c t) ≡ false → (s : ℕ) → differs c t f s ≡ false
    unfolding differs
    stage2-sound e s = any_below-none (λ u. some_oppose (free_outputs c t u) (outputs_at c t f (starting_state c s) u)) (L c t) (λ u h.
        elim (dec_le 1 (F c)) [
          | yes g ↦ closed-row (free_outputs c t u) _ _ (plain_outputs_allows (starting_state c s) (start-whole s) (start-each s) u)
              (nout-zero u (closed e g) h) (plain-alike u h)
          | no g ↦ rw (← (no-flip-flop s u (let z : F c ≡ 0 = omega arith in z))) (plain-alike u h)
        ])
