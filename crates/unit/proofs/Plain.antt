-- A gate with no fault, of a kind up to 7, as one AND of four pins. A pin that it does not have is read as pin 1 again, and OR reads its pins
-- inverted.
use mathlib.Core.Path.{◌≡◌, refl, sym, ◌∙◌}
use mathlib.Core.Bool.{Bool, true, false, ◌&&◌, ◌||◌, or-false, and-true}
use mathlib.Core.List.{List, [], ◌∷◌}
use Prim.Native.Nat.{ℕ, zero, suc, ◌+◌, ◌/◌, ◌≤◌}
use native.Mathlib.Omega.{arith}
use native.Mathlib.Decide.{dec_le}
use Rattle.lists.specs.Scan.{tabulate}
use Rattle.model.specs.Values.{invert, and_pair, and_of, invert_all, or_of, even_gate, invert_if, inverts}
use Rattle.lanes.specs.Lane.{is0, is1, Shows}
use Rattle.lanes.proofs.Laws.{is-and, is0-inv, is1-inv}
use Rattle.circuit.specs.Table.{pin_read}

-- the AND of pins is 0 if one is, 1 if all are
unfoldable any_zero : List ℕ → Bool
any_zero [] = false
any_zero (v ∷ vs) = is0 v || any_zero vs

unfoldable all_one : List ℕ → Bool
all_one [] = true
all_one (v ∷ vs) = is1 v && all_one vs

and_tests : (vs : List ℕ) → (is0 (and_of vs) ≡ any_zero vs) × (is1 (and_of vs) ≡ all_one vs)
unfolding and_of any_zero all_one is0 is1
and_tests [] = (refl, refl)
and_tests (v ∷ vs) = let rest = and_tests vs in (sym (is-and v (and_of vs)).0 ∙ rw rest.0, sym (is-and v (and_of vs)).1 ∙ rw rest.1)

four_tests : (a b c d : ℕ) → (is0 (and_pair (and_pair a b) (and_pair c d)) ≡ ((is0 a || is0 b) || (is0 c || is0 d))) × (is1 (and_pair (and_pair a b) (and_pair c d)) ≡ ((is1 a && is1 b) && (is1 c && is1 d)))
four_tests a b c d = (
  sym (is-and (and_pair a b) (and_pair c d)).0 ∙ rw ((is-and a b).0, (is-and c d).0),
  sym (is-and (and_pair a b) (and_pair c d)).1 ∙ rw ((is-and a b).1, (is-and c d).1),
)

or_1 : (a : Bool) → ((a || a) || (a || a)) ≡ (a || false)
or_1 true = refl
or_1 false = refl

or_2 : (a b : Bool) → ((a || b) || (a || a)) ≡ (a || (b || false))
or_2 true b = refl
or_2 false b = refl

or_3 : (a b c : Bool) → ((a || b) || (c || a)) ≡ (a || (b || (c || false)))
or_3 true b c = refl
or_3 false b c = refl

or_4 : (a b c d : Bool) → ((a || b) || (c || d)) ≡ (a || (b || (c || (d || false))))
or_4 true b c d = refl
or_4 false b c d = rw (or-false d)

and_1 : (a : Bool) → ((a && a) && (a && a)) ≡ (a && true)
and_1 true = refl
and_1 false = refl

and_2 : (a b : Bool) → ((a && b) && (a && a)) ≡ (a && (b && true))
and_2 true b = refl
and_2 false b = refl

and_3 : (a b c : Bool) → ((a && b) && (c && a)) ≡ (a && (b && (c && true)))
and_3 true b c = refl
and_3 false b c = refl

and_4 : (a b c d : Bool) → ((a && b) && (c && d)) ≡ (a && (b && (c && (d && true))))
and_4 true b c d = rw (and-true d)
and_4 false b c d = refl

module _ (t z o : ℕ) (w : ℕ → ℕ) where
  and-of : (a b c d : ℕ) (vs : List ℕ) → Shows t z o (and_pair (and_pair a b) (and_pair c d)) → ((is0 a || is0 b) || (is0 c || is0 d)) ≡ any_zero vs
      → ((is1 a && is1 b) && (is1 c && is1 d)) ≡ all_one vs → Shows t z o (and_of vs)
  and-of a b c d vs h e g = record {
    zero? = h.zero? ∙ (four_tests a b c d).0 ∙ e ∙ sym (and_tests vs).0;
    one? = h.one? ∙ (four_tests a b c d).1 ∙ g ∙ sym (and_tests vs).1;
  }

  pub shows-four : (m : ℕ) → 1 ≤ m → m ≤ 4
      → Shows t z o (and_pair (and_pair (w (pin_read m 1)) (w (pin_read m 2))) (and_pair (w (pin_read m 3)) (w (pin_read m 4)))) → Shows t z o (and_of (tabulate w 1 m))
  unfolding pin_read tabulate any_zero all_one
  shows-four zero a b h = absurd (let z : ⊥ = omega arith in z)
  shows-four (suc zero) a b h = and-of (w 1) (w 1) (w 1) (w 1) (w 1 ∷ []) h (or_1 (is0 (w 1))) (and_1 (is1 (w 1)))
  shows-four (suc (suc zero)) a b h = and-of (w 1) (w 2) (w 1) (w 1) (w 1 ∷ w 2 ∷ []) h (or_2 (is0 (w 1)) (is0 (w 2))) (and_2 (is1 (w 1)) (is1 (w 2)))
  shows-four (suc (suc (suc zero))) a b h = and-of (w 1) (w 2) (w 3) (w 1) (w 1 ∷ w 2 ∷ w 3 ∷ []) h (or_3 (is0 (w 1)) (is0 (w 2)) (is0 (w 3))) (and_3 (is1 (w 1)) (is1 (w 2)) (is1 (w 3)))
  shows-four (suc (suc (suc (suc zero)))) a b h = and-of (w 1) (w 2) (w 3) (w 4) (w 1 ∷ w 2 ∷ w 3 ∷ w 4 ∷ []) h (or_4 (is0 (w 1)) (is0 (w 2)) (is0 (w 3)) (is0 (w 4))) (and_4 (is1 (w 1)) (is1 (w 2)) (is1 (w 3)) (is1 (w 4)))
  shows-four (suc (suc (suc (suc (suc m))))) a b h = absurd (let z : ⊥ = omega arith in z)

-- ---- from the AND to the gate
-- a buffer and NOT have one pin
buffered : (t z o v : ℕ) → Shows t z o (and_of (v ∷ [])) → Shows t z o v
unfolding any_zero all_one
buffered t z o v h = record { zero? = h.zero? ∙ (and_tests (v ∷ [])).0 ∙ or-false (is0 v); one? = h.one? ∙ (and_tests (v ∷ [])).1 ∙ and-true (is1 v) }

pub shows_low : (t z o k m : ℕ) (w : ℕ → ℕ) → 2 ≤ k → k ≤ 5 → (k ≤ 3 → m ≡ 1) → Shows t z o (and_of (tabulate w 1 m)) → Shows t z o (even_gate (k / 2) (tabulate w 1 m))
shows_low t z o k m w a b one h = elim (dec_le k 3) [
  | yes l ↦ (let half : k / 2 ≡ 1 = omega arith in rw (half, one l) (single (rw (one l) at h)))
  | no l ↦ (let half : k / 2 ≡ 2 = omega arith in rw half (unfold even_gate in h))
]
  where
    single : Shows t z o (and_of (tabulate w 1 1)) → Shows t z o (even_gate 1 (tabulate w 1 1))
    single g = unfold even_gate tabulate in buffered t z o (w 1) (unfold tabulate in g)

pub invert-pins : (g : ℕ → ℕ) (from m : ℕ) → tabulate (λ p. invert (g p)) from m ≡ invert_all (tabulate g from m)
unfolding tabulate invert_all
invert-pins g from zero = refl
invert-pins g from (suc m) = rw (invert-pins g (suc from) m)

pub shows-or-gate : (t z o k : ℕ) (pins : List ℕ) → 6 ≤ k → k ≤ 7 → Shows t z o (invert_if (inverts (k + 1)) (and_of (invert_all pins))) → Shows t z o (invert_if (inverts k) (even_gate (k / 2) pins))
unfolding invert_if even_gate or_of
shows-or-gate t z o k pins a b h = elim (dec_le k 6) [
  | yes l ↦ (let e : k ≡ 6 = omega arith in rw e (rw e at h))
  | no l ↦ (let e : k ≡ 7 = omega arith in rw e (twice (and_of (invert_all pins)) (rw e at h)))
]
  where
    twice : (v : ℕ) → Shows t z o v → Shows t z o (invert (invert v))
    twice v g = record { zero? = g.zero? ∙ sym (is1-inv v) ∙ sym (is0-inv (invert v)); one? = g.one? ∙ sym (is0-inv v) ∙ sym (is1-inv (invert v)) }
