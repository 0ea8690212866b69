-- Implication is sound: what the two passes add holds in every total assignment that what they start from allows. So where such an
-- assignment exists there is no conflict.
use mathlib.Core.Path.{◌≡◌, refl, sym, ap, ◌∙◌}
use Prim.Native.Nat.{ℕ, zero, suc, ◌+◌, ◌≤◌, ◌<◌}
use mathlib.Core.Bool.{true, false, not, ◌&&◌, false≢true, or-true}
use mathlib.Core.List.{List, [], ◌∷◌}
use lib.ListN.{get_or, length}
use lib.Dec.{leb}
use native.Mathlib.Omega.{arith}
use borrow.Author.Tests.{leb-true, not-true}
use Rattle.lists.proofs.Tests.{and_left, and_right, or_cases, cond_cases}
use Rattle.lists.proofs.Scan.{length-tabulate, get_or_tabulate}
use Rattle.model.specs.Inputs.{N, kind, pin_count, pin_line, is_gate, Fault}
use Rattle.model.specs.Values.{X, gate, give, has_conflict, opposes, some_oppose}
use Rattle.model.specs.Simulation.{is_stuck, seen, pin_seen, pins_seen}
use Rattle.model.specs.Implication.{implies, give_line, give_pins, down_line, down, up_line, up, implied}
use Rattle.model.proofs.Allows.{Allows, AllowsRow, gate_allows, pins_seen_allows, get_or_allows}
use Rattle.model.proofs.Total.{TotalRow, implies_allows, specified_allows}

pub give_allows : (a x y : ℕ) → Allows a y → Allows x y → Allows (give a x) y
unfolding give Allows
give_allows zero zero y h k = h
give_allows zero (suc zero) y h k = omega arith
give_allows zero (suc (suc zero)) y h k = h
give_allows zero (suc (suc (suc x))) y h k = k
give_allows (suc zero) zero y h k = omega arith
give_allows (suc zero) (suc zero) y h k = h
give_allows (suc zero) (suc (suc zero)) y h k = h
give_allows (suc zero) (suc (suc (suc x))) y h k = k
give_allows (suc (suc zero)) x y h k = k
give_allows (suc (suc (suc a))) x y h k = h

give_line_allows : (vs w : List ℕ) (l x : ℕ) → AllowsRow vs w → Allows x (get_or w l X) → AllowsRow (give_line vs l x) w
unfolding give_line AllowsRow
give_line_allows [] [] l x h k = tt
give_line_allows [] (y ∷ w) l x h k = absurd h
give_line_allows (v ∷ vs) [] l x h k = absurd h
give_line_allows (v ∷ vs) (y ∷ w) zero x h k = (give_allows v x y h.0 k, h.1)
give_line_allows (v ∷ vs) (y ∷ w) (suc l) x h k = (h.0, give_line_allows vs w l x h.1 k)

-- ---- pins
pub length-pins_seen : (c : List ℕ) (f : Fault) (w : List ℕ) (n : ℕ) → length (pins_seen c f w n) ≡ pin_count c n
unfolding pins_seen
length-pins_seen c f w n = length-tabulate (λ pin. pin_seen c f w n pin) 1 (pin_count c n)

pub unstuck : (f : Fault) (n pin v : ℕ) → is_stuck f n pin ≡ false → seen f n pin v ≡ v
unfolding seen
unstuck f n pin v e = rw e

-- a pin that is not stuck sees its line
get_or-pins_seen : (c : List ℕ) (f : Fault) (w : List ℕ) (n j : ℕ) → j < pin_count c n → is_stuck f n (suc j) ≡ false
    → get_or (pins_seen c f w n) j X ≡ get_or w (pin_line c n (suc j)) X
unfolding pins_seen pin_seen
get_or-pins_seen c f w n j h e =
    let one : 1 + j ≡ suc j = omega arith in
    get_or_tabulate (λ pin. pin_seen c f w n pin) 1 (pin_count c n) j X h
    ∙ ap (λ (pin : ℕ). pin_seen c f w n pin) one
    ∙ unstuck f n (suc j) _ e

pub gate-kind : (c : List ℕ) (n : ℕ) → is_gate c n ≡ true → 2 ≤ kind c n
unfolding is_gate
gate-kind c n e = leb-true 2 (kind c n) e

-- ---- the passes
-- w gives each gate's pins total values, and each gate that is not stuck shows its function of them
pub record Settled (c : List ℕ) (f : Fault) (w : List ℕ) : Type 0 where
  pub kinds : (n : ℕ) → n < N c → kind c n ≤ 9
  pub total : (n : ℕ) → n < N c → is_gate c n ≡ true → TotalRow (pins_seen c f w n)
  pub shows : (n : ℕ) → n < N c → is_gate c n ≡ true → is_stuck f n 0 ≡ false → get_or w n X ≡ gate (kind c n) (pins_seen c f w n)

module _ (c : List ℕ) (f : Fault) (stuck : Allows f.value f.value) (w : List ℕ) (settled : Settled c f w) where
  give_pins_allows : (n v : ℕ) (ps : List ℕ) (i left : ℕ) (vs : List ℕ) → AllowsRow vs w
      → ((j : ℕ) → j < i + left → is_stuck f n (suc j) ≡ false → Allows (implies (kind c n) v ps j) (get_or w (pin_line c n (suc j)) X))
      → AllowsRow (give_pins c f n v ps i left vs) w
  unfolding give_pins
  give_pins_allows n v ps i zero vs h g = h
  give_pins_allows n v ps i (suc left) vs h g =
      give_pins_allows n v ps (suc i) left _
      (cond_cases (λ (z : List ℕ). AllowsRow z w) _ vs _
      (λ _. h) (λ e. give_line_allows vs w (pin_line c n (suc i)) _ h (g i (omega arith) e)))
      (λ j q. g j (omega arith))

  down_line_allows : (vs : List ℕ) (n : ℕ) → n < N c → AllowsRow vs w → AllowsRow (down_line c f vs n) w
  unfolding down_line
  down_line_allows vs n b h =
      cond_cases (λ (z : List ℕ). AllowsRow z w) _ _ vs
      (λ e.
      let both : is_gate c n && not (is_stuck f n 0) ≡ true = and_left _ _ e in
      let g : is_gate c n ≡ true = and_left _ _ both in
      let free : is_stuck f n 0 ≡ false = not-true _ (and_right (is_gate c n) _ both) in
      let v : get_or w n X ≡ get_or vs n X = specified_allows _ _ (get_or_allows vs w n h) (and_right (is_gate c n && not (is_stuck f n 0)) _ e) in
      give_pins_allows n (get_or vs n X) (pins_seen c f vs n) 0 (pin_count c n) vs h
      (λ j q t.
      let q' : j < pin_count c n = omega arith in
      rw (get_or-pins_seen c f w n j q' t) at
      (implies_allows (pins_seen c f vs n) (pins_seen c f w n) (pins_seen_allows c f stuck vs w n h) (settled.total n b g)
      (kind c n) (get_or vs n X) j (gate-kind c n g) (settled.kinds n b) (omega (arith, length-pins_seen c f w n))
      (sym (settled.shows n b g free) ∙ v))))
      (λ _. h)

  down_allows : (n : ℕ) (vs : List ℕ) → n ≤ N c → AllowsRow vs w → AllowsRow (down c f n vs) w
  unfolding down
  down_allows zero vs b h = h
  down_allows (suc n) vs b h = down_allows n _ (omega arith) (down_line_allows vs n b h)

  up_line_allows : (vs : List ℕ) (n : ℕ) → n < N c → AllowsRow vs w → AllowsRow (up_line c f vs n) w
  unfolding up_line
  up_line_allows vs n b h =
      cond_cases (λ (z : List ℕ). AllowsRow z w) _ _ vs
      (λ e.
      let g : is_gate c n ≡ true = and_left _ _ e in
      let free : is_stuck f n 0 ≡ false = not-true _ (and_right (is_gate c n) _ e) in
      give_line_allows vs w n _ h (rw (settled.shows n b g free) (gate_allows (kind c n) _ _ (pins_seen_allows c f stuck vs w n h))))
      (λ _. h)

  up_allows : (n : ℕ) (vs : List ℕ) → n ≤ N c → AllowsRow vs w → AllowsRow (up c f n vs) w
  unfolding up
  up_allows zero vs b h = h
  up_allows (suc n) vs b h = up_line_allows _ n b (up_allows n vs (omega arith) h)

  -- the soundness of the implication of one value
  pub implied_allows : (vs : List ℕ) (l x : ℕ) → AllowsRow vs w → Allows x (get_or w l X) → AllowsRow (implied c f vs l x) w
  unfolding implied
  implied_allows vs l x h k = up_allows (N c) _ (omega arith) (down_allows (N c) _ (omega arith) (give_line_allows vs w l x h k))

-- ---- what allows a row has no conflict, and opposes nothing that the row does not
allows_no-conflict : (a b : ℕ) → Allows a b → leb 3 a ≡ false
unfolding Allows
allows_no-conflict zero b h = refl
allows_no-conflict (suc zero) b h = refl
allows_no-conflict (suc (suc zero)) b h = refl
allows_no-conflict (suc (suc (suc a))) b h = absurd h

pub no-conflict : (vs w : List ℕ) → AllowsRow vs w → has_conflict vs ≡ false
unfolding has_conflict AllowsRow
no-conflict [] [] h = refl
no-conflict [] (y ∷ w) h = absurd h
no-conflict (v ∷ vs) [] h = absurd h
no-conflict (v ∷ vs) (y ∷ w) h = rw (allows_no-conflict v y h.0) (no-conflict vs w h.1)

opposes_allows : (o a b : ℕ) → Allows a b → opposes o a ≡ true → opposes o b ≡ true
unfolding opposes Allows
opposes_allows zero zero b h e = absurd (false≢true e)
opposes_allows zero (suc zero) b h e = rw h
opposes_allows zero (suc (suc a)) b h e = absurd (false≢true e)
opposes_allows (suc zero) zero b h e = rw h
opposes_allows (suc zero) (suc a) b h e = absurd (false≢true e)
opposes_allows (suc (suc o)) a b h e = absurd (false≢true e)

pub some_oppose_allows : (os xs ys : List ℕ) → AllowsRow xs ys → some_oppose os xs ≡ true → some_oppose os ys ≡ true
unfolding some_oppose AllowsRow
some_oppose_allows [] xs ys h e = absurd (false≢true e)
some_oppose_allows (o ∷ os) [] ys h e = absurd (false≢true e)
some_oppose_allows (o ∷ os) (x ∷ xs) [] h e = absurd h
some_oppose_allows (o ∷ os) (x ∷ xs) (y ∷ ys) h e =
    or_cases _ (some_oppose os xs) e
    (λ p. rw (opposes_allows o x y h.0 p))
    (λ p. rw (some_oppose_allows os xs ys h.1 p) (or-true (opposes o y)))
