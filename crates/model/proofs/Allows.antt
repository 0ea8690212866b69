-- What is known allows a value: where a state allows another, its line values, next states and outputs allow those of the other, unit by
-- unit. So a run from a starting state is allowed by plain simulation.
use mathlib.Core.Path.{◌≡◌, refl}
use Prim.Native.Nat.{ℕ, zero, suc, ◌/◌}
use mathlib.Core.Bool.{Bool, true, false, cond}
use mathlib.Core.List.{List, [], ◌∷◌, ◌++◌, map}
use lib.ListN.{get_or}
use Rattle.lists.specs.Scan.{tabulate}
use Rattle.model.specs.Inputs.{N, kind, pin_count, pin_line, is_input, is_flip_flop, flip_flops, output_lines, inputs_at, Fault}
use Rattle.model.specs.Values.{X, invert, and_pair, and_of, invert_all, or_of, xor_pair, xor_of, even_gate, invert_if, inverts, gate}
use Rattle.model.specs.Simulation.{is_stuck, seen, shown, pin_seen, pins_seen, behind, values_below, line_values, outputs, next_state, state_at, values_at, outputs_at}

-- b is a, or a is X; a conflict allows nothing
unfoldable pub Allows : ℕ → ℕ → Type 0
Allows zero b = b ≡ 0
Allows (suc zero) b = b ≡ 1
Allows (suc (suc zero)) b = Unit {0}
Allows (suc (suc (suc a))) b = ⊥

-- place by place, for rows of one length
unfoldable pub AllowsRow : List ℕ → List ℕ → Type 0
AllowsRow [] [] = Unit {0}
AllowsRow [] (b ∷ bs) = ⊥
AllowsRow (a ∷ row) [] = ⊥
AllowsRow (a ∷ row) (b ∷ bs) = Allows a b × AllowsRow row bs

-- ---- gates
pub X_allows : (b : ℕ) → Allows X b
unfolding Allows
X_allows b = tt

pub invert_allows : (a b : ℕ) → Allows a b → Allows (invert a) (invert b)
unfolding invert Allows
invert_allows zero b h = rw h
invert_allows (suc zero) b h = rw h
invert_allows (suc (suc zero)) b h = tt
invert_allows (suc (suc (suc a))) b h = absurd h

and_pair-zero : (b : ℕ) → and_pair b 0 ≡ 0
unfolding and_pair
and_pair-zero zero = refl
and_pair-zero (suc zero) = refl
and_pair-zero (suc (suc b)) = refl

and_pair_allows : (a b x y : ℕ) → Allows a b → Allows x y → Allows (and_pair a x) (and_pair b y)
unfolding and_pair Allows
and_pair_allows zero b x y h k = rw h
and_pair_allows (suc zero) b zero y h k = rw (h, k)
and_pair_allows (suc zero) b (suc zero) y h k = rw (h, k)
and_pair_allows (suc zero) b (suc (suc x)) y h k = tt
and_pair_allows (suc (suc zero)) b zero y h k = rw k (and_pair-zero b)
and_pair_allows (suc (suc zero)) b (suc zero) y h k = tt
and_pair_allows (suc (suc zero)) b (suc (suc x)) y h k = tt
and_pair_allows (suc (suc (suc a))) b x y h k = absurd h

pub xor_pair_allows : (a b x y : ℕ) → Allows a b → Allows x y → Allows (xor_pair a x) (xor_pair b y)
unfolding xor_pair Allows
xor_pair_allows zero b zero y h k = rw (h, k)
xor_pair_allows zero b (suc zero) y h k = rw (h, k)
xor_pair_allows zero b (suc (suc x)) y h k = tt
xor_pair_allows (suc zero) b zero y h k = rw (h, k)
xor_pair_allows (suc zero) b (suc zero) y h k = rw (h, k)
xor_pair_allows (suc zero) b (suc (suc x)) y h k = tt
xor_pair_allows (suc (suc a)) b x y h k = tt

pub and_of_allows : (xs ys : List ℕ) → AllowsRow xs ys → Allows (and_of xs) (and_of ys)
unfolding and_of Allows AllowsRow
and_of_allows [] [] h = refl
and_of_allows [] (y ∷ ys) h = absurd h
and_of_allows (x ∷ xs) [] h = absurd h
and_of_allows (x ∷ xs) (y ∷ ys) h = and_pair_allows x y (and_of xs) (and_of ys) h.0 (and_of_allows xs ys h.1)

pub xor_of_allows : (xs ys : List ℕ) → AllowsRow xs ys → Allows (xor_of xs) (xor_of ys)
unfolding xor_of Allows AllowsRow
xor_of_allows [] [] h = refl
xor_of_allows [] (y ∷ ys) h = absurd h
xor_of_allows (x ∷ xs) [] h = absurd h
xor_of_allows (x ∷ xs) (y ∷ ys) h = xor_pair_allows x y (xor_of xs) (xor_of ys) h.0 (xor_of_allows xs ys h.1)

pub invert_all_allows : (xs ys : List ℕ) → AllowsRow xs ys → AllowsRow (invert_all xs) (invert_all ys)
unfolding invert_all AllowsRow
invert_all_allows [] [] h = tt
invert_all_allows [] (y ∷ ys) h = absurd h
invert_all_allows (x ∷ xs) [] h = absurd h
invert_all_allows (x ∷ xs) (y ∷ ys) h = (invert_allows x y h.0, invert_all_allows xs ys h.1)

pub get_or_allows : (xs ys : List ℕ) (n : ℕ) → AllowsRow xs ys → Allows (get_or xs n X) (get_or ys n X)
unfolding Allows AllowsRow
get_or_allows [] [] n h = tt
get_or_allows [] (y ∷ ys) n h = absurd h
get_or_allows (x ∷ xs) [] n h = absurd h
get_or_allows (x ∷ xs) (y ∷ ys) zero h = h.0
get_or_allows (x ∷ xs) (y ∷ ys) (suc n) h = get_or_allows xs ys n h.1

or_of_allows : (xs ys : List ℕ) → AllowsRow xs ys → Allows (or_of xs) (or_of ys)
unfolding or_of
or_of_allows xs ys h = invert_allows _ _ (and_of_allows _ _ (invert_all_allows xs ys h))

even_gate_allows : (half : ℕ) (xs ys : List ℕ) → AllowsRow xs ys → Allows (even_gate half xs) (even_gate half ys)
unfolding even_gate
even_gate_allows zero xs ys h = X_allows _
even_gate_allows (suc zero) xs ys h = get_or_allows xs ys 0 h
even_gate_allows (suc (suc zero)) xs ys h = and_of_allows xs ys h
even_gate_allows (suc (suc (suc zero))) xs ys h = or_of_allows xs ys h
even_gate_allows (suc (suc (suc (suc zero)))) xs ys h = xor_of_allows xs ys h
even_gate_allows (suc (suc (suc (suc (suc half))))) xs ys h = X_allows _

invert_if_allows : (t : Bool) (a b : ℕ) → Allows a b → Allows (invert_if t a) (invert_if t b)
unfolding invert_if
invert_if_allows true a b h = invert_allows a b h
invert_if_allows false a b h = h

pub gate_allows : (k : ℕ) (xs ys : List ℕ) → AllowsRow xs ys → Allows (gate k xs) (gate k ys)
unfolding gate
gate_allows k xs ys h = invert_if_allows (inverts k) _ _ (even_gate_allows (k / 2) xs ys h)

-- ---- rows
nil_allows : AllowsRow [] []
unfolding AllowsRow
nil_allows = tt

one_allows : (a b : ℕ) → Allows a b → AllowsRow (a ∷ []) (b ∷ [])
unfolding AllowsRow
one_allows a b h = (h, tt)

append_allows : (xs ys vs bs : List ℕ) → AllowsRow xs ys → AllowsRow vs bs → AllowsRow (xs ++ vs) (ys ++ bs)
unfolding AllowsRow
append_allows [] [] vs bs h k = k
append_allows [] (y ∷ ys) vs bs h k = absurd h
append_allows (x ∷ xs) [] vs bs h k = absurd h
append_allows (x ∷ xs) (y ∷ ys) vs bs h k = (h.0, append_allows xs ys vs bs h.1 k)

tabulate_allows : (g h : ℕ → ℕ) (from n : ℕ) → ((j : ℕ) → Allows (g j) (h j)) → AllowsRow (tabulate g from n) (tabulate h from n)
unfolding tabulate AllowsRow
tabulate_allows g h from zero e = tt
tabulate_allows g h from (suc n) e = (e from, tabulate_allows g h (suc from) n e)

map_allows : (g h : ℕ → ℕ) (ns : List ℕ) → ((n : ℕ) → Allows (g n) (h n)) → AllowsRow (map g ns) (map h ns)
unfolding AllowsRow
map_allows g h [] e = tt
map_allows g h (n ∷ ns) e = (e n, map_allows g h ns e)

cond_allows : (t : Bool) (a b x y : ℕ) → Allows a b → Allows x y → Allows (cond t a x) (cond t b y)
cond_allows true a b x y h k = h
cond_allows false a b x y h k = k

-- ---- one unit, with a fault whose value is specified
pub outputs_allows : (c : List ℕ) (f : Fault) (xs ys : List ℕ) → AllowsRow xs ys → AllowsRow (outputs c f xs) (outputs c f ys)
unfolding outputs shown
outputs_allows c f xs ys h = map_allows _ _ (output_lines c) (λ n. get_or_allows xs ys n h)

module _ (c : List ℕ) (f : Fault) (stuck : Allows f.value f.value) where
  seen_allows : (n pin a b : ℕ) → Allows a b → Allows (seen f n pin a) (seen f n pin b)
  unfolding seen
  seen_allows n pin a b h = cond_allows (is_stuck f n pin) _ _ a b stuck h

  pin_seen_allows : (xs ys : List ℕ) (n pin : ℕ) → AllowsRow xs ys → Allows (pin_seen c f xs n pin) (pin_seen c f ys n pin)
  unfolding pin_seen
  pin_seen_allows xs ys n pin h = seen_allows n pin _ _ (get_or_allows xs ys (pin_line c n pin) h)

  pub pins_seen_allows : (xs ys : List ℕ) (n : ℕ) → AllowsRow xs ys → AllowsRow (pins_seen c f xs n) (pins_seen c f ys n)
  unfolding pins_seen
  pins_seen_allows xs ys n h = tabulate_allows _ _ 1 (pin_count c n) (λ pin. pin_seen_allows xs ys n pin h)

  pub next_state_allows : (xs ys : List ℕ) → AllowsRow xs ys → AllowsRow (next_state c f xs) (next_state c f ys)
  unfolding next_state
  next_state_allows xs ys h = map_allows _ _ (flip_flops c) (λ n. pin_seen_allows xs ys n 1 h)

  module _ (inputs : List ℕ) (given : AllowsRow inputs inputs) (s z : List ℕ) (state : AllowsRow s z) where
    behind_allows : (xs ys : List ℕ) (n : ℕ) → AllowsRow xs ys → Allows (behind c f inputs s xs n) (behind c f inputs z ys n)
    unfolding behind
    behind_allows xs ys n h =
        cond_allows (is_input c n) _ _ _ _ (get_or_allows inputs inputs _ given)
        (cond_allows (is_flip_flop c n) _ _ _ _ (get_or_allows s z _ state) (gate_allows (kind c n) _ _ (pins_seen_allows xs ys n h)))

    values_below_allows : (n : ℕ) → AllowsRow (values_below c f inputs s n) (values_below c f inputs z n)
    unfolding values_below
    values_below_allows zero = nil_allows
    values_below_allows (suc n) =
        let ih : AllowsRow (values_below c f inputs s n) (values_below c f inputs z n) = values_below_allows n in
        append_allows _ _ _ _ ih (one_allows _ _ (seen_allows n 0 _ _ (behind_allows _ _ n ih)))

    pub line_values_allows : AllowsRow (line_values c f inputs s) (line_values c f inputs z)
    unfolding line_values
    line_values_allows = values_below_allows (N c)

-- ---- over the test
module _ (c t : List ℕ) (f : Fault) (stuck : Allows f.value f.value) (given : (u : ℕ) → AllowsRow (inputs_at c t u) (inputs_at c t u))
    (s z : List ℕ) (state : AllowsRow s z) where
  pub state_at_allows : (u : ℕ) → AllowsRow (state_at c t f s u) (state_at c t f z u)
  unfolding state_at
  state_at_allows zero = state
  state_at_allows (suc u) =
      next_state_allows c f stuck _ _ (line_values_allows c f stuck (inputs_at c t u) (given u) _ _ (state_at_allows u))

  pub values_at_allows : (u : ℕ) → AllowsRow (values_at c t f s u) (values_at c t f z u)
  unfolding values_at
  values_at_allows u = line_values_allows c f stuck (inputs_at c t u) (given u) _ _ (state_at_allows u)

  pub outputs_at_allows : (u : ℕ) → AllowsRow (outputs_at c t f s u) (outputs_at c t f z u)
  unfolding outputs_at
  outputs_at_allows u = outputs_allows c f _ _ (values_at_allows u)
