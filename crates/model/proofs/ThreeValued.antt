-- Every line value and every state bit is 0, 1 or X.
use mathlib.Core.Path.{◌≡◌, refl}
use Prim.Native.Nat.{ℕ, zero, suc, ◌+◌, ◌*◌, ◌/◌, ◌≤◌, ◌<◌}
use mathlib.Core.Bool.{Bool, true, false, cond}
use mathlib.Core.List.{List, [], ◌∷◌, ◌++◌, map}
use lib.ListN.{get_or, length, take, drop, replicate}
use lib.Seq.{get_or-drop}
use native.Mathlib.Omega.{arith}
use Rattle.lists.specs.Scan.{tabulate, count_below}
use Rattle.lists.proofs.Tests.{cond_cases}
use Rattle.model.specs.Inputs.{N, I, F, kind, is_input, is_flip_flop, pin_count, flip_flops, inputs_at, Fault}
use Rattle.model.specs.Accepted.{ThreeValued}
use Rattle.model.specs.Values.{X, invert, and_pair, and_of, invert_all, or_of, xor_pair, xor_of, even_gate, invert_if, inverts, gate}
use Rattle.model.specs.Simulation.{is_stuck, seen, pin_seen, pins_seen, behind, values_below, line_values, next_state, power_up, state_at}

pub invert-three : (v : ℕ) → invert v ≤ 2
unfolding invert
invert-three zero = omega arith
invert-three (suc zero) = omega arith
invert-three (suc (suc v)) = omega arith

and-three : (a b : ℕ) → and_pair a b ≤ 2
unfolding and_pair
and-three zero b = omega arith
and-three (suc zero) zero = omega arith
and-three (suc zero) (suc zero) = omega arith
and-three (suc zero) (suc (suc b)) = omega arith
and-three (suc (suc a)) zero = omega arith
and-three (suc (suc a)) (suc zero) = omega arith
and-three (suc (suc a)) (suc (suc b)) = omega arith

pub and_of-three : (pins : List ℕ) → and_of pins ≤ 2
unfolding and_of
and_of-three [] = omega arith
and_of-three (a ∷ pins) = and-three a (and_of pins)

pub xor-three : (a b : ℕ) → xor_pair a b ≤ 2
unfolding xor_pair
xor-three zero zero = omega arith
xor-three zero (suc zero) = omega arith
xor-three zero (suc (suc b)) = omega arith
xor-three (suc zero) zero = omega arith
xor-three (suc zero) (suc zero) = omega arith
xor-three (suc zero) (suc (suc b)) = omega arith
xor-three (suc (suc a)) b = omega arith

xor_of-three : (pins : List ℕ) → xor_of pins ≤ 2
unfolding xor_of
xor_of-three [] = omega arith
xor_of-three (a ∷ pins) = xor-three a (xor_of pins)

even_three : (half : ℕ) (pins : List ℕ) → ThreeValued pins → even_gate half pins ≤ 2
unfolding even_gate or_of
even_three zero pins h = omega arith
even_three (suc zero) pins h = h.at 0
even_three (suc (suc zero)) pins h = and_of-three pins
even_three (suc (suc (suc zero))) pins h = invert-three (and_of (invert_all pins))
even_three (suc (suc (suc (suc zero)))) pins h = xor_of-three pins
even_three (suc (suc (suc (suc (suc half))))) pins h = omega arith

pub invert_if-three : (b : Bool) (v : ℕ) → v ≤ 2 → invert_if b v ≤ 2
unfolding invert_if
invert_if-three true v h = invert-three v
invert_if-three false v h = h

pub gate-three : (k : ℕ) (pins : List ℕ) → ThreeValued pins → gate k pins ≤ 2
unfolding gate
gate-three k pins h = invert_if-three (inverts k) (even_gate (k / 2) pins) (even_three (k / 2) pins h)

one_of_three : {x y z : ℕ} (b d : Bool) → x ≤ 2 → y ≤ 2 → z ≤ 2 → cond b x (cond d y z) ≤ 2
one_of_three true d h k l = h
one_of_three false true h k l = k
one_of_three false false h k l = l

append-three : (xs : List ℕ) (v m : ℕ) → ((i : ℕ) → get_or xs i X ≤ 2) → v ≤ 2 → get_or (xs ++ (v ∷ [])) m X ≤ 2
append-three [] v zero h k = k
append-three [] v (suc m) h k = omega arith
append-three (x ∷ xs) v zero h k = h 0
append-three (x ∷ xs) v (suc m) h k = append-three xs v m (λ i. h (suc i)) k

map-three : (g : ℕ → ℕ) (xs : List ℕ) (m : ℕ) → ((n : ℕ) → g n ≤ 2) → get_or (map g xs) m X ≤ 2
map-three g [] m h = omega arith
map-three g (x ∷ xs) zero h = h x
map-three g (x ∷ xs) (suc m) h = map-three g xs m h

tabulate-three : (g : ℕ → ℕ) (from n m : ℕ) → ((i : ℕ) → g i ≤ 2) → get_or (tabulate g from n) m X ≤ 2
unfolding tabulate
tabulate-three g from zero m h = omega arith
tabulate-three g from (suc n) zero h = h from
tabulate-three g from (suc n) (suc m) h = tabulate-three g (suc from) n m h

take-three : (n : ℕ) (xs : List ℕ) (m : ℕ) → ((i : ℕ) → get_or xs i X ≤ 2) → get_or (take n xs) m X ≤ 2
take-three zero xs m h = omega arith
take-three (suc n) [] m h = omega arith
take-three (suc n) (x ∷ xs) zero h = h 0
take-three (suc n) (x ∷ xs) (suc m) h = take-three n xs m (λ i. h (suc i))

bytes-three : (t : List ℕ) (m : ℕ) → ((b : ℕ) → b < length t → get_or t b 0 ≤ 1) → get_or t m X ≤ 2
bytes-three [] m h = omega arith
bytes-three (x ∷ xs) zero h = (let z : x ≤ 1 = h 0 (omega arith) in omega arith)
bytes-three (x ∷ xs) (suc m) h = bytes-three xs m (λ b k. h (suc b) (omega arith))

pub unknown-at : (n m : ℕ) → get_or (replicate n X) m X ≡ X
unknown-at zero m = refl
unknown-at (suc n) zero = refl
unknown-at (suc n) (suc m) = unknown-at n m

pub inputs-three : (c t : List ℕ) (u : ℕ) → ((b : ℕ) → b < length t → get_or t b 0 ≤ 1) → ThreeValued (inputs_at c t u)
unfolding inputs_at
inputs-three c t u h = record { at = λ m. take-three (I c) (drop (I c * u) t) m (λ i. rw (get_or-drop (I c * u) t i X) (bytes-three t (I c * u + i) h)) }

pub power_up-three : (c : List ℕ) → ThreeValued (power_up c)
unfolding power_up
power_up-three c = record { at = λ m. rw (unknown-at (F c) m) (omega arith) }

module _ (c : List ℕ) (f : Fault) (b : f.value < 2) where
  seen-three : (n pin v : ℕ) → v ≤ 2 → seen f n pin v ≤ 2
  unfolding seen
  seen-three n pin v h = cond_cases (λ (w : ℕ). w ≤ 2) (is_stuck f n pin) f.value v (λ _. omega arith) (λ _. h)

  pin-three : (vs : List ℕ) (n pin : ℕ) → ThreeValued vs → pin_seen c f vs n pin ≤ 2
  unfolding pin_seen
  pin-three vs n pin h = seen-three n pin _ (h.at _)

  pub pins-three : (vs : List ℕ) (n : ℕ) → ThreeValued vs → ThreeValued (pins_seen c f vs n)
  unfolding pins_seen
  pins-three vs n h = record { at = λ m. tabulate-three (λ pin. pin_seen c f vs n pin) 1 (pin_count c n) m (λ pin. pin-three vs n pin h) }

  behind-three : (inputs state below : List ℕ) (n : ℕ) → ThreeValued inputs → ThreeValued state → ThreeValued below → behind c f inputs state below n ≤ 2
  unfolding behind
  behind-three inputs state below n hi hs hb =
      one_of_three (is_input c n) (is_flip_flop c n) (hi.at (count_below (λ m. is_input c m) n)) (hs.at (count_below (λ m. is_flip_flop c m) n))
      (gate-three (kind c n) (pins_seen c f below n) (pins-three below n hb))

  below-three : (inputs state : List ℕ) (n : ℕ) → ThreeValued inputs → ThreeValued state → ThreeValued (values_below c f inputs state n)
  unfolding values_below
  below-three inputs state zero hi hs = record { at = λ m. omega arith }
  below-three inputs state (suc n) hi hs =
      let ih = below-three inputs state n hi hs in
      record { at = λ m. append-three (values_below c f inputs state n) _ m ih.at (seen-three n 0 _ (behind-three inputs state _ n hi hs ih)) }

  pub line_values-three : (inputs state : List ℕ) → ThreeValued inputs → ThreeValued state → ThreeValued (line_values c f inputs state)
  unfolding line_values
  line_values-three inputs state hi hs = below-three inputs state (N c) hi hs

  pub next_state-three : (vs : List ℕ) → ThreeValued vs → ThreeValued (next_state c f vs)
  unfolding next_state
  next_state-three vs h = record { at = λ m. map-three (λ n. pin_seen c f vs n 1) (flip_flops c) m (λ n. pin-three vs n 1 h) }

  pub state_at-three : (t start : List ℕ) (u : ℕ) → ((b : ℕ) → b < length t → get_or t b 0 ≤ 1) → ThreeValued start → ThreeValued (state_at c t f start u)
  unfolding state_at
  state_at-three t start zero h k = k
  state_at-three t start (suc u) h k = next_state-three _ (line_values-three _ _ (inputs-three c t u h) (state_at-three t start u h k))
