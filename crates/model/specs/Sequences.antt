-- Stage 5: the plan's pairs that are taken, the 2^m sequences, and how each ends.
use Rattle.std.specs.Prelude.{ℕ, zero, suc, ◌/◌, ◌%◌, ◌^◌, Bool, true, false, cond, not, ◌&&◌, ◌||◌, List, [], ◌∷◌, ◌++◌, get_or, length, eqb, ltb}
use Rattle.lists.specs.Scan.{count_below}
use Rattle.model.specs.Inputs.{F, L, inputs_at, Fault, plan_count, plan_pair}
use Rattle.model.specs.Values.{X, is_specified, give_row, has_conflict, some_oppose}
use Rattle.model.specs.Simulation.{line_values, outputs, next_state, free_outputs}
use Rattle.model.specs.Implication.{extra, nothing}
use Rattle.model.specs.Expansion.{nout, state_row}

-- some place is specified in both rows
unfoldable pub overlaps : List ℕ → List ℕ → Bool
overlaps [] bs = false
overlaps (a ∷ row) [] = false
overlaps (a ∷ row) (b ∷ bs) = (is_specified a && is_specified b) || overlaps row bs

-- how a sequence ends
abbrev pub ends_surviving : ℕ
ends_surviving = 0

abbrev pub ends_differing : ℕ
ends_differing = 1

abbrev pub ends_clashing : ℕ
ends_clashing = 2

module _ (c t : List ℕ) (f : Fault) where
  -- u = 0, or u ≥ 1 with Nout(u - 1) > 0
  unfoldable pub outputs_left : ℕ → Bool
  outputs_left zero = true
  outputs_left (suc u) = ltb 0 (nout c t f u)

  -- any j in the extra is specified in the state list at u or was given by one of the pairs, taken earlier, at that u
  unfoldable pub touches : List (ℕ × ℕ) → ℕ → List ℕ → Bool
  touches [] u new = overlaps new (state_row c t f u)
  touches (q ∷ pairs) u new =
      (eqb q.0 u && (overlaps new (extra c t f u q.1 0) || overlaps new (extra c t f u q.1 1))) || touches pairs u new

  -- A pair is passed over if it names nothing, its bit is specified in the state list, u ≥ 1 with Nout(u - 1) = 0, or any j in its two extras
  -- is specified there or was given by an earlier taken pair at that u: (u, i) is not.
  unfoldable pub takes : List (ℕ × ℕ) → ℕ → ℕ → Bool
  takes pairs u i =
      ltb u (L c t) && ltb i (F c)
      && not (is_specified (get_or (state_row c t f u) i X))
      && outputs_left u
      && not (touches pairs u (extra c t f u i 0)) && not (touches pairs u (extra c t f u i 1))

  -- no more than k pairs taken in all
  unfoldable pub take_next : ℕ → List (ℕ × ℕ) → ℕ × ℕ → List (ℕ × ℕ)
  take_next k pairs q = cond (ltb (length pairs) k && takes pairs q.0 q.1) (pairs ++ (q ∷ [])) pairs

  -- Take plan pairs in order: those taken of the first n.
  unfoldable pub taken_of : List ℕ → ℕ → ℕ → List (ℕ × ℕ)
  taken_of p k zero = []
  taken_of p k (suc n) = take_next k (taken_of p k n) (plan_pair p n)

  unfoldable pub taken : List ℕ → ℕ → List (ℕ × ℕ)
  taken p k = taken_of p k (plan_count p)

  -- The list of sequence b at u: the state list with the extras of those values; bit t of b is the value of taken pair t.
  unfoldable pub sequence_row : List (ℕ × ℕ) → ℕ → ℕ → List ℕ
  sequence_row [] b u = state_row c t f u
  sequence_row (q ∷ pairs) b u =
      let row = sequence_row pairs (b / 2) u in
      cond (eqb q.0 u) (give_row row (extra c t f u q.1 (b % 2))) row

  -- The sequence from unit u on, in this state, with so many units left: an output against the fault-free one, it differs; else a next
  -- state against its own list (up to unit L - 1), it clashes; else the new bits are added.
  unfoldable pub ending : List (ℕ × ℕ) → ℕ → ℕ → ℕ → List ℕ → ℕ
  ending pairs b u zero state = ends_surviving
  ending pairs b u (suc left) state =
      let values = line_values c f (inputs_at c t u) state in
      let next = give_row (next_state c f values) (cond (ltb (suc u) (L c t)) (sequence_row pairs b (suc u)) (nothing c)) in
      let later = ending pairs b (suc u) left next in
      cond (some_oppose (free_outputs c t u) (outputs c f values)) ends_differing (cond (has_conflict next) ends_clashing later)

  -- Each is simulated from unit 0 to L - 1.
  unfoldable pub end_of : List (ℕ × ℕ) → ℕ → ℕ
  end_of pairs b = ending pairs b 0 (L c t) (sequence_row pairs b 0)

  -- With m taken there are 2^m sequences: how many of them end so.
  unfoldable pub count_ending : List (ℕ × ℕ) → ℕ → ℕ
  count_ending pairs end = count_below (λ b. eqb (end_of pairs b) end) (2 ^ length pairs)
