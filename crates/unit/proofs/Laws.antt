-- One line more, one pin more, one flip-flop more, in a lane.
use mathlib.Core.Path.{◌≡◌, refl, ◌∙◌}
use mathlib.Core.Bool.{Bool, true, cond}
use mathlib.Core.List.{List, [], ◌∷◌, ◌++◌, map}
use Prim.Native.Nat.{ℕ, ◌+◌, ◌*◌, ◌/◌, ◌<◌, ◌≤◌}
use native.Mathlib.Omega.{arith}
use native.Mathlib.Numerals.{add-one}
use borrow.Author.Tests.{eq-eqb, ne_eqb}
use lib.ListN.{length, get_or, take, length-map, length-take}
use lib.Seq.{take-length}
use Rattle.lists.specs.Scan.{count_below, tabulate}
use Rattle.lists.proofs.Scan.{map-take, count_below-less}
use Rattle.model.specs.Inputs.{N, kind, pin_count, pin_line, is_input, is_flip_flop, is_gate, I, F, flip_flops, flip_flop_line, Fault}
use Rattle.model.specs.Accepted.{ValidCircuit}
use Rattle.model.specs.Values.{X, even_gate, gate, invert_if, inverts}
use Rattle.model.specs.Simulation.{is_stuck, seen, pin_seen, pins_seen, behind, values_below, line_values, next_state}
use Rattle.model.proofs.Runs.{length-values_below, length-flip_flops, flip_flop_line-holds}
use Rattle.lanes.specs.declared.Lanes.{Lanes}
use Rattle.lanes.specs.Lane.{Shows, Holds, At, stored, Room, Lane}
use Rattle.lanes.proofs.Laws.{lane-add, lane-none}
use Rattle.circuit.specs.Table.{Listed, PinTable, place_of}
use Rattle.unit.specs.Unit.{StuckAt, Stuck}

-- ---- what is seen
-- the row that was read of a line
pub stuck-row : (t : ℕ) (hits masks : List ℕ) (f : Fault) (n row : ℕ) → Stuck t hits masks f → n < length hits → row ≡ get_or hits n 0 → StuckAt t masks row f n
stuck-row t hits masks f n row s h e = rw e (s.at n h)

module _ (t z o v : ℕ) (masks : List ℕ) (row : ℕ) (f : Fault) (n pin : ℕ) (s : StuckAt t masks row f n) where
  pub seen-free : row ≡ 0 → Shows t z o v → Shows t z o (seen f n pin v)
  unfolding seen
  seen-free e h = rw (s.free e pin) h

  pub seen-held : (row ≡ 0 → ⊥) → pin < 5
      → ((hit : Bool) (w : ℕ) → w < 2 → At t masks (5 * row + pin) (cond hit w X) → Shows t z o (cond hit w v))
      → Shows t z o (seen f n pin v)
  unfolding seen
  seen-held g l h = h (is_stuck f n pin) f.value s.binary (s.held g pin l)

-- ---- a gate's pins, by how many it has
module _ (c : List ℕ) (f : Fault) (vs : List ℕ) (n : ℕ) where
  pub pins_1 : pin_count c n ≡ 1 → pins_seen c f vs n ≡ pin_seen c f vs n 1 ∷ []
  unfolding pins_seen tabulate
  pins_1 e = rw e

  pub pins_2 : pin_count c n ≡ 2 → pins_seen c f vs n ≡ pin_seen c f vs n 1 ∷ pin_seen c f vs n 2 ∷ []
  unfolding pins_seen tabulate
  pins_2 e = rw e

  pub pins_3 : pin_count c n ≡ 3 → pins_seen c f vs n ≡ pin_seen c f vs n 1 ∷ pin_seen c f vs n 2 ∷ pin_seen c f vs n 3 ∷ []
  unfolding pins_seen tabulate
  pins_3 e = rw e

  pub pins_4 : pin_count c n ≡ 4 → pins_seen c f vs n ≡ pin_seen c f vs n 1 ∷ pin_seen c f vs n 2 ∷ pin_seen c f vs n 3 ∷ pin_seen c f vs n 4 ∷ []
  unfolding pins_seen tabulate
  pins_4 e = rw e

pub shows-gate : (t z o k : ℕ) (pins seen : List ℕ) → pins ≡ seen → Shows t z o (invert_if (inverts k) (even_gate (k / 2) seen)) → Shows t z o (gate k pins)
unfolding gate
shows-gate t z o k pins seen e h = rw e h

-- ---- what stands behind a line, by its kind
module _ (t z o : ℕ) (c : List ℕ) (f : Fault) (inputs st vs : List ℕ) (n : ℕ) where
  pub behind_input : (i : ℕ) → kind c n ≡ 0 → i ≡ count_below (λ m. is_input c m) n → Shows t z o (get_or inputs i X) → Shows t z o (behind c f inputs st vs n)
  unfolding behind is_input
  behind_input i e g h = rw (eq-eqb (kind c n) 0 e, ← g) h

  pub behind-state : (s : ℕ) → kind c n ≡ 1 → s ≡ count_below (λ m. is_flip_flop c m) n → Shows t z o (get_or st s X) → Shows t z o (behind c f inputs st vs n)
  unfolding behind is_input is_flip_flop
  behind-state s e g h = rw (ne_eqb (kind c n) 0 (λ q. (let z : ⊥ = omega arith in z)), eq-eqb (kind c n) 1 e, ← g) h

  pub behind-gate : (k : ℕ) → k ≡ kind c n → 2 ≤ k → Shows t z o (gate k (pins_seen c f vs n)) → Shows t z o (behind c f inputs st vs n)
  unfolding behind is_input is_flip_flop
  behind-gate k e l h =
      rw (ne_eqb (kind c n) 0 (λ q. (let z : ⊥ = omega arith in z)), ne_eqb (kind c n) 1 (λ q. (let z : ⊥ = omega arith in z)), ← e) h

-- the place of an input line, and of a flip-flop line, as the table has it
module _ (c table : List ℕ) (pins : PinTable c table) (n i : ℕ) (h : n < N c) (at : i ≡ get_or table (4 * n) 0) where
  pub input_place : kind c n ≡ 0 → (i ≡ count_below (λ m. is_input c m) n) × (i < I c)
  unfolding is_gate place_of is_input I
  input_place e =
      let here : i ≡ count_below (λ m. is_input c m) n = at ∙ pins.place n h (rw e) ∙ rw e in
      (here, rw here (count_below-less (λ m. is_input c m) n (N c) h (eq-eqb (kind c n) 0 e)))

  pub state-place : kind c n ≡ 1 → (i ≡ count_below (λ m. is_flip_flop c m) n) × (i < F c)
  unfolding is_gate place_of is_input is_flip_flop F
  state-place e =
      let here : i ≡ count_below (λ m. is_flip_flop c m) n = at ∙ pins.place n h (rw e) ∙ rw e in
      (here, rw here (count_below-less (λ m. is_flip_flop c m) n (N c) h (eq-eqb (kind c n) 1 e)))

-- ---- the loop over the lines
module _ (c : List ℕ) (f : Fault) (inputs st : List ℕ) where
  pub values-none : (t : ℕ) (ws : List ℕ) → Lane t ws (values_below c f inputs st 0)
  values-none t ws = lane-none t ws _ (length-values_below c f inputs st 0)

  pub values-more : (t : ℕ) (ws ws' : List ℕ) (n : ℕ) (x : Lanes) → ws' ≡ stored ws n x → Room (n + 1) ws
      → Lane t ws (values_below c f inputs st n) → Holds t x (seen f n 0 (behind c f inputs st (values_below c f inputs st n) n))
      → Lane t ws' (values_below c f inputs st (n + 1))
  unfolding values_below
  values-more t ws ws' n x e l h g = rw (e, add-one n) (lane-add t ws _ n x _ (length-values_below c f inputs st n) l h g)

  pub values-all : (t : ℕ) (ws : List ℕ) (n : ℕ) → n ≡ N c → Lane t ws (values_below c f inputs st n) → Lane t ws (line_values c f inputs st)
  unfolding line_values
  values-all t ws n e h = rw e at h

-- ---- the loop over the flip-flops
module _ (c : List ℕ) (f : Fault) (vs : List ℕ) where
  -- the next state of the first s flip-flops
  unfoldable pub next_of : ℕ → List ℕ
  next_of s = map (λ n. pin_seen c f vs n 1) (take s (flip_flops c))

  length-next_of : (s : ℕ) → s ≤ F c → length (next_of s) ≡ s
  unfolding next_of
  length-next_of s h = length-map (take s (flip_flops c)) (λ n. pin_seen c f vs n 1) ∙ length-take s (flip_flops c) ∙ (let e : length (flip_flops c) ≡ F c = length-flip_flops c in omega arith)

  pub next-none : (t : ℕ) (ws : List ℕ) → Lane t ws (next_of 0)
  next-none t ws = lane-none t ws _ (length-next_of 0 (omega arith))

  pub next_more : (t : ℕ) (ws ws' : List ℕ) (s : ℕ) (x : Lanes) → ws' ≡ stored ws s x → s < F c → Room (s + 1) ws → Lane t ws (next_of s)
      → Holds t x (pin_seen c f vs (flip_flop_line c s) 1) → Lane t ws' (next_of (s + 1))
  unfolding flip_flop_line
  next_more t ws ws' s x w b l h g =
      let e : next_of (s + 1) ≡ next_of s ++ (pin_seen c f vs (get_or (flip_flops c) s 0) 1 ∷ []) = step in
      rw (w, e) (lane-add t ws _ s x _ (length-next_of s (omega arith)) l h g)
    where
      step : next_of (s + 1) ≡ next_of s ++ (pin_seen c f vs (get_or (flip_flops c) s 0) 1 ∷ [])
      step = unfold next_of in map-take (λ n. pin_seen c f vs n 1) (flip_flops c) s (omega (arith, length-flip_flops c))

  pub next-all : (t : ℕ) (ws : List ℕ) (s : ℕ) → s ≡ F c → Lane t ws (next_of s) → Lane t ws (next_state c f vs)
  unfolding next_of next_state
  next-all t ws s e h = rw (e, ← length-flip_flops c, take-length) at h

-- the flip-flop at place s of the table
pub record FlopAt (c table : List ℕ) (s : ℕ) : Type 0 where
  pub place : s < length table
  pub line : get_or table s 0 ≡ flip_flop_line c s
  pub below : get_or table s 0 < N c
  pub fed : pin_line c (get_or table s 0) 1 < N c

pub flop-at : (c table : List ℕ) → ValidCircuit c → Listed (flip_flops c) table → (s : ℕ) → s < F c → FlopAt c table s
flop-at c table v l s h =
    let long : length (flip_flops c) ≡ F c = length-flip_flops c in
    let same : get_or table s 0 ≡ flip_flop_line c s = table-line (l.same s (omega arith)) in
    let holds : (flip_flop_line c s < N c) × (is_flip_flop c (flip_flop_line c s) ≡ true) = flip_flop_line-holds c s h in
    record { place = omega (arith, l.room); line = same; below = rw same holds.0; fed = rw same (v.fed _ holds.0 holds.1) }
  where
    table-line : get_or table s 0 ≡ get_or (flip_flops c) s 0 → get_or table s 0 ≡ flip_flop_line c s
    table-line e = e ∙ (unfold flip_flop_line in refl)
