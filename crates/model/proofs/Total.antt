-- Total values, 0 and 1: gates make total values of them, and what a gate's value tells of its pins holds.
use mathlib.Core.Path.{◌≡◌, refl, sym, ap, ◌∙◌}
use Prim.Native.Nat.{ℕ, zero, suc, ◌+◌, ◌/◌, ◌≤◌, ◌<◌}
use mathlib.Core.Bool.{Bool, true, false, not}
use mathlib.Core.List.{List, [], ◌∷◌, ◌++◌}
use lib.ListN.{get_or, length, take, drop}
use native.Mathlib.Omega.{arith}
use borrow.Author.Tests.{eqb-true, leb-true}
use Rattle.lists.specs.Scan.{tabulate}
use Rattle.model.specs.Values.{X, is_specified, invert, and_pair, and_of, invert_all, or_of, xor_pair, xor_of, even_gate, invert_if, inverts, gate}
use Rattle.model.specs.Implication.{others, and_implies, xor_implies, even_implies, implies}
use Rattle.lists.proofs.Tests.{and_right, cond_cases}
use Rattle.model.proofs.Allows.{Allows, AllowsRow, X_allows, invert_allows, and_of_allows, xor_of_allows, xor_pair_allows, invert_all_allows}

unfoldable pub Total : ℕ → Type 0
Total zero = Unit {0}
Total (suc zero) = Unit {0}
Total (suc (suc a)) = ⊥

unfoldable pub TotalRow : List ℕ → Type 0
TotalRow [] = Unit {0}
TotalRow (a ∷ row) = Total a × TotalRow row

pub bit-total : (a : ℕ) → a < 2 → Total a
unfolding Total
bit-total zero h = tt
bit-total (suc zero) h = tt
bit-total (suc (suc a)) h = omega arith

pub total-bit : (a : ℕ) → Total a → a < 2
unfolding Total
total-bit zero h = omega arith
total-bit (suc zero) h = omega arith
total-bit (suc (suc a)) h = absurd h

pub total-cases {ℓ} : {A : Type ℓ} (a : ℕ) → Total a → (a ≡ 0 → A) → (a ≡ 1 → A) → A
unfolding Total
total-cases zero h f g = f refl
total-cases (suc zero) h f g = g refl
total-cases (suc (suc a)) h f g = absurd h

pub total_allows : (a : ℕ) → Total a → Allows a a
unfolding Total Allows
total_allows zero h = refl
total_allows (suc zero) h = refl
total_allows (suc (suc a)) h = absurd h

pub total_row_allows : (row : List ℕ) → TotalRow row → AllowsRow row row
unfolding TotalRow AllowsRow
total_row_allows [] h = tt
total_row_allows (a ∷ row) h = (total_allows a h.0, total_row_allows row h.1)

-- ---- rows
pub nil-total : TotalRow []
unfolding TotalRow
nil-total = tt

pub cons-total : (a : ℕ) (row : List ℕ) → Total a → TotalRow row → TotalRow (a ∷ row)
unfolding TotalRow
cons-total a row h k = (h, k)

pub append-total : (xs ys : List ℕ) → TotalRow xs → TotalRow ys → TotalRow (xs ++ ys)
unfolding TotalRow
append-total [] ys h k = k
append-total (x ∷ xs) ys h k = (h.0, append-total xs ys h.1 k)

pub take-total : (n : ℕ) (xs : List ℕ) → TotalRow xs → TotalRow (take n xs)
unfolding TotalRow
take-total zero xs h = tt
take-total (suc n) [] h = tt
take-total (suc n) (x ∷ xs) h = (h.0, take-total n xs h.1)

pub drop-total : (n : ℕ) (xs : List ℕ) → TotalRow xs → TotalRow (drop n xs)
unfolding TotalRow
drop-total zero xs h = h
drop-total (suc n) [] h = tt
drop-total (suc n) (x ∷ xs) h = drop-total n xs h.1

pub tabulate-total : (g : ℕ → ℕ) (from n : ℕ) → ((j : ℕ) → from ≤ j → j < from + n → Total (g j)) → TotalRow (tabulate g from n)
unfolding tabulate TotalRow
tabulate-total g from zero h = tt
tabulate-total g from (suc n) h = (h from (omega arith) (omega arith), tabulate-total g (suc from) n (λ j p q. h j (omega arith) (omega arith)))

pub get_or_total : (xs : List ℕ) (i : ℕ) → TotalRow xs → i < length xs → Total (get_or xs i X)
unfolding TotalRow
get_or_total [] i h k = absurd (let z : ⊥ = omega arith in z)
get_or_total (x ∷ xs) zero h k = h.0
get_or_total (x ∷ xs) (suc i) h k = get_or_total xs i h.1 (omega arith)

-- ---- gates
invert-total : (a : ℕ) → Total a → Total (invert a)
unfolding Total invert
invert-total zero h = tt
invert-total (suc zero) h = tt
invert-total (suc (suc a)) h = h

and_pair-total : (a b : ℕ) → Total a → Total b → Total (and_pair a b)
unfolding Total and_pair
and_pair-total zero b h k = tt
and_pair-total (suc zero) zero h k = tt
and_pair-total (suc zero) (suc zero) h k = tt
and_pair-total (suc zero) (suc (suc b)) h k = k
and_pair-total (suc (suc a)) b h k = absurd h

xor_pair-total : (a b : ℕ) → Total a → Total b → Total (xor_pair a b)
unfolding Total xor_pair
xor_pair-total zero zero h k = tt
xor_pair-total zero (suc zero) h k = tt
xor_pair-total zero (suc (suc b)) h k = k
xor_pair-total (suc zero) zero h k = tt
xor_pair-total (suc zero) (suc zero) h k = tt
xor_pair-total (suc zero) (suc (suc b)) h k = k
xor_pair-total (suc (suc a)) b h k = absurd h

and_of-total : (xs : List ℕ) → TotalRow xs → Total (and_of xs)
unfolding TotalRow and_of Total
and_of-total [] h = tt
and_of-total (x ∷ xs) h = and_pair-total x (and_of xs) h.0 (and_of-total xs h.1)

xor_of-total : (xs : List ℕ) → TotalRow xs → Total (xor_of xs)
unfolding TotalRow xor_of Total
xor_of-total [] h = tt
xor_of-total (x ∷ xs) h = xor_pair-total x (xor_of xs) h.0 (xor_of-total xs h.1)

invert_all-total : (xs : List ℕ) → TotalRow xs → TotalRow (invert_all xs)
unfolding TotalRow invert_all
invert_all-total [] h = tt
invert_all-total (x ∷ xs) h = (invert-total x h.0, invert_all-total xs h.1)

or_of-total : (xs : List ℕ) → TotalRow xs → Total (or_of xs)
unfolding or_of
or_of-total xs h = invert-total _ (and_of-total _ (invert_all-total xs h))

even_gate-total : (half : ℕ) (xs : List ℕ) → 0 < half → half < 5 → 0 < length xs → TotalRow xs → Total (even_gate half xs)
unfolding even_gate
even_gate-total zero xs a b p h = absurd (let z : ⊥ = omega arith in z)
even_gate-total (suc zero) xs a b p h = get_or_total xs 0 h p
even_gate-total (suc (suc zero)) xs a b p h = and_of-total xs h
even_gate-total (suc (suc (suc zero))) xs a b p h = or_of-total xs h
even_gate-total (suc (suc (suc (suc zero)))) xs a b p h = xor_of-total xs h
even_gate-total (suc (suc (suc (suc (suc half))))) xs a b p h = absurd (let z : ⊥ = omega arith in z)

invert_if-total : (t : Bool) (a : ℕ) → Total a → Total (invert_if t a)
unfolding invert_if
invert_if-total true a h = invert-total a h
invert_if-total false a h = h

-- a gate of kind 2 to 9 with a pin
pub gate-total : (k : ℕ) (xs : List ℕ) → 2 ≤ k → k ≤ 9 → 0 < length xs → TotalRow xs → Total (gate k xs)
unfolding gate
gate-total k xs a b p h = invert_if-total (inverts k) (even_gate (k / 2) xs) (even_gate-total (k / 2) xs (omega arith) (omega arith) p h)

-- ---- what a gate's value tells of its pins
others-total : (xs : List ℕ) (i : ℕ) → TotalRow xs → TotalRow (others xs i)
unfolding TotalRow others
others-total [] i h = tt
others-total (x ∷ xs) zero h = h.1
others-total (x ∷ xs) (suc i) h = (h.0, others-total xs i h.1)

others_allows : (xs ys : List ℕ) (i : ℕ) → AllowsRow xs ys → AllowsRow (others xs i) (others ys i)
unfolding AllowsRow others
others_allows [] [] i h = tt
others_allows [] (y ∷ ys) i h = absurd h
others_allows (x ∷ xs) [] i h = absurd h
others_allows (x ∷ xs) (y ∷ ys) zero h = h.1
others_allows (x ∷ xs) (y ∷ ys) (suc i) h = (h.0, others_allows xs ys i h.1)

invert-back : (a : ℕ) → Total a → invert (invert a) ≡ a
unfolding Total invert
invert-back zero h = refl
invert-back (suc zero) h = refl
invert-back (suc (suc a)) h = absurd h

get_or_inverted : (xs : List ℕ) (i : ℕ) → TotalRow xs → invert (get_or (invert_all xs) i X) ≡ get_or xs i X
unfolding TotalRow invert_all invert
get_or_inverted [] i h = refl
get_or_inverted (x ∷ xs) zero h = invert-back x h.0
get_or_inverted (x ∷ xs) (suc i) h = get_or_inverted xs i h.1

length-invert_all : (xs : List ℕ) → length (invert_all xs) ≡ length xs
unfolding invert_all
length-invert_all [] = refl
length-invert_all (x ∷ xs) = ap suc (length-invert_all xs)

and_pair-one : (a b : ℕ) → and_pair a b ≡ 1 → (a ≡ 1) × (b ≡ 1)
unfolding and_pair
and_pair-one zero b e = absurd (let z : ⊥ = omega arith in z)
and_pair-one (suc zero) zero e = absurd (let z : ⊥ = omega arith in z)
and_pair-one (suc zero) (suc zero) e = (refl, refl)
and_pair-one (suc zero) (suc (suc b)) e = absurd (let z : ⊥ = omega arith in z)
and_pair-one (suc (suc a)) zero e = absurd (let z : ⊥ = omega arith in z)
and_pair-one (suc (suc a)) (suc zero) e = absurd (let z : ⊥ = omega arith in z)
and_pair-one (suc (suc a)) (suc (suc b)) e = absurd (let z : ⊥ = omega arith in z)

one-and_pair : (b : ℕ) → Total b → and_pair 1 b ≡ b
unfolding Total and_pair
one-and_pair zero h = refl
one-and_pair (suc zero) h = refl
one-and_pair (suc (suc b)) h = absurd h

and_pair_with_one : (b : ℕ) → Total b → and_pair b 1 ≡ b
unfolding Total and_pair
and_pair_with_one zero h = refl
and_pair_with_one (suc zero) h = refl
and_pair_with_one (suc (suc b)) h = absurd h

-- AND at 1: every pin is 1
and-at-one : (xs : List ℕ) (i : ℕ) → i < length xs → and_of xs ≡ 1 → get_or xs i X ≡ 1
unfolding and_of
and-at-one [] i p e = absurd (let z : ⊥ = omega arith in z)
and-at-one (x ∷ xs) zero p e = (and_pair-one x (and_of xs) e).0
and-at-one (x ∷ xs) (suc i) p e = and-at-one xs i (omega arith) (and_pair-one x (and_of xs) e).1

-- where the others are 1, the pin is the gate's value
and-last-pin : (xs : List ℕ) (i : ℕ) → TotalRow xs → i < length xs → and_of (others xs i) ≡ 1 → and_of xs ≡ get_or xs i X
unfolding and_of others TotalRow
and-last-pin [] i h p e = absurd (let z : ⊥ = omega arith in z)
and-last-pin (x ∷ xs) zero h p e = ap (and_pair x) e ∙ and_pair_with_one x h.0
and-last-pin (x ∷ xs) (suc i) h p e =
    let d : (x ≡ 1) × (and_of (others xs i) ≡ 1) = and_pair-one x (and_of (others xs i)) e in
    ap (λ (z : ℕ). and_pair z (and_of xs)) d.0 ∙ one-and_pair (and_of xs) (and_of-total xs h.1) ∙ and-last-pin xs i h.1 (omega arith) d.1

xor_pair-back : (a b : ℕ) → Total a → Total b → xor_pair (xor_pair a b) b ≡ a
unfolding xor_pair
xor_pair-back a b h k = total-cases a h (λ e. total-cases b k (λ g. rw (e, g)) (λ g. rw (e, g))) (λ e. total-cases b k (λ g. rw (e, g)) (λ g. rw (e, g)))

xor_pair-cancel : (a b d : ℕ) → Total a → Total b → Total d → xor_pair (xor_pair a b) (xor_pair a d) ≡ xor_pair b d
unfolding xor_pair
xor_pair-cancel a b d h k l =
    total-cases a h
    (λ e. total-cases b k (λ g. total-cases d l (λ j. rw (e, g, j)) (λ j. rw (e, g, j))) (λ g. total-cases d l (λ j. rw (e, g, j)) (λ j. rw (e, g, j))))
    (λ e. total-cases b k (λ g. total-cases d l (λ j. rw (e, g, j)) (λ j. rw (e, g, j))) (λ g. total-cases d l (λ j. rw (e, g, j)) (λ j. rw (e, g, j))))

-- a pin is the parity of the gate's value and the others
xor-last-pin : (xs : List ℕ) (i : ℕ) → TotalRow xs → i < length xs → xor_pair (xor_of xs) (xor_of (others xs i)) ≡ get_or xs i X
unfolding xor_of others TotalRow
xor-last-pin [] i h p = absurd (let z : ⊥ = omega arith in z)
xor-last-pin (x ∷ xs) zero h p = xor_pair-back x (xor_of xs) h.0 (xor_of-total xs h.1)
xor-last-pin (x ∷ xs) (suc i) h p =
    xor_pair-cancel x (xor_of xs) (xor_of (others xs i)) h.0 (xor_of-total xs h.1) (xor_of-total (others xs i) (others-total xs i h.1))
    ∙ xor-last-pin xs i h.1 (omega arith)

-- ---- what is implied for a pin allows the pin's value
zero_allows : (y : ℕ) → y ≡ 0 → Allows 0 y
unfolding Allows
zero_allows y h = h

one_allows : (y : ℕ) → y ≡ 1 → Allows 1 y
unfolding Allows
one_allows y h = h

allows_one : (y : ℕ) → Allows 1 y → y ≡ 1
unfolding Allows
allows_one y h = h

-- a specified value is the only one that it allows
pub specified_allows : (a y : ℕ) → Allows a y → is_specified a ≡ true → y ≡ a
unfolding Allows
specified_allows zero y h e = h
specified_allows (suc zero) y h e = h
specified_allows (suc (suc a)) y h e = absurd (let z : suc (suc a) ≤ 1 = leb-true (suc (suc a)) 1 e in let q : ⊥ = omega arith in q)

-- the value of a total number, as what is known of it
pub allows_equal : (a y : ℕ) → Total y → y ≡ a → Allows a y
unfolding Allows
allows_equal zero y h e = e
allows_equal (suc zero) y h e = e
allows_equal (suc (suc a)) y h e = absurd (let z : y < 2 = total-bit y h in let q : ⊥ = omega arith in q)

-- the pins as known, and as they are
module _ (ps pw : List ℕ) (known : AllowsRow ps pw) (total : TotalRow pw) (i : ℕ) (p : i < length pw) where
  and_implies_allows : (v : ℕ) → and_of pw ≡ v → Allows (and_implies v ps i) (get_or pw i X)
  unfolding and_implies
  and_implies_allows zero e =
      cond_cases (λ (z : ℕ). Allows z (get_or pw i X)) _ 0 X
      (λ q.
      let rest : and_of (others ps i) ≡ 1 = eqb-true _ _ (and_right (not (is_specified (get_or ps i X))) _ q) in
      let ones : and_of (others pw i) ≡ 1 = allows_one _ (rw rest at (and_of_allows _ _ (others_allows ps pw i known))) in
      zero_allows _ (sym (and-last-pin pw i total p ones) ∙ e))
      (λ _. X_allows _)
  and_implies_allows (suc zero) e = one_allows _ (and-at-one pw i p e)
  and_implies_allows (suc (suc v)) e = X_allows _

  xor_implies_allows : (v : ℕ) → xor_of pw ≡ v → Allows (xor_implies v ps i) (get_or pw i X)
  unfolding xor_implies
  xor_implies_allows v e =
      let value : Allows v v = rw e at (total_allows _ (xor_of-total pw total)) in
      let back : xor_pair v (xor_of (others pw i)) ≡ get_or pw i X = rw e at (xor-last-pin pw i total p) in
      cond_cases (λ (z : ℕ). Allows z (get_or pw i X)) (not (is_specified (get_or ps i X))) _ X
      (λ _. rw back at (xor_pair_allows v v _ _ value (xor_of_allows _ _ (others_allows ps pw i known))))
      (λ _. X_allows _)

module _ (ps pw : List ℕ) (known : AllowsRow ps pw) (total : TotalRow pw) where
  even_implies_allows : (half v i : ℕ) → i < length pw → even_gate half pw ≡ v → Allows (even_implies half v ps i) (get_or pw i X)
  unfolding even_implies even_gate or_of
  even_implies_allows zero v i p e = X_allows _
  even_implies_allows (suc zero) v zero p e = rw (← e) (total_allows _ (get_or_total pw 0 total p))
  even_implies_allows (suc zero) v (suc i) p e = X_allows _
  even_implies_allows (suc (suc zero)) v i p e = and_implies_allows ps pw known total i p v e
  even_implies_allows (suc (suc (suc zero))) v i p e =
      let dual : and_of (invert_all pw) ≡ invert v = sym (invert-back _ (and_of-total _ (invert_all-total pw total))) ∙ ap invert e in
      let q : i < length (invert_all pw) = omega (arith, length-invert_all pw) in
      rw (get_or_inverted pw i total) at
      (invert_allows _ _
      (and_implies_allows (invert_all ps) (invert_all pw) (invert_all_allows ps pw known) (invert_all-total pw total) i q (invert v) dual))
  even_implies_allows (suc (suc (suc (suc zero)))) v i p e = xor_implies_allows ps pw known total i p v e
  even_implies_allows (suc (suc (suc (suc (suc half))))) v i p e = X_allows _

  invert_if-back : (t : Bool) (b v : ℕ) → Total b → invert_if t b ≡ v → b ≡ invert_if t v
  unfolding invert_if
  invert_if-back true b v h e = sym (invert-back b h) ∙ ap invert e
  invert_if-back false b v h e = e

  pub implies_allows : (k v i : ℕ) → 2 ≤ k → k ≤ 9 → i < length pw → gate k pw ≡ v → Allows (implies k v ps i) (get_or pw i X)
  unfolding implies gate
  implies_allows k v i a b p e =
      even_implies_allows (k / 2) (invert_if (inverts k) v) i p
      (invert_if-back (inverts k) (even_gate (k / 2) pw) v (even_gate-total (k / 2) pw (omega arith) (omega arith) (omega arith) total) e)
