-- A bit that stage 3 tries or stage 5 takes is X in the plain state. So its flip-flop's pin, which would show its value if it were stuck,
-- sees a line at X.
use mathlib.Core.Path.{◌≡◌, refl, ◌∙◌}
use Prim.Native.Nat.{ℕ, zero, suc, ◌≤◌, ◌<◌}
use mathlib.Core.Bool.{Bool, true, false, cond}
use mathlib.Core.List.{List, [], ◌∷◌}
use lib.ListN.{get_or, length, get_or-map}
use lib.Dec.{eqb}
use native.Mathlib.Omega.{arith}
use borrow.Author.Tests.{eqb-true, leb-true, leb-false, le-leb}
use Rattle.lists.proofs.Tests.{and_left, cond_cases, clash, is_false}
use Rattle.lists.proofs.Scan.{get_or_any}
use Rattle.model.specs.Inputs.{pin_line, flip_flops, flip_flop_line, F, Fault}
use Rattle.model.specs.Accepted.{ValidTest, ValidFault}
use Rattle.model.specs.Values.{X, is_specified, give, give_row}
use Rattle.model.specs.Simulation.{is_stuck, seen, pin_seen, next_state, power_up, state_at, values_at, plain_state, plain_values}
use Rattle.model.specs.Implication.{nothing, where_x, marked, extra}
use Rattle.model.specs.Expansion.{tried, alone, written, row_after, state_row}
use Rattle.model.specs.Promises.{PinsOpen}
use Rattle.model.proofs.Runs.{length-next_state}
use Rattle.model.proofs.Pairs.{Takeable, takeable}
use Rattle.model.proofs.ThreeValued.{unknown-at, inputs-three, power_up-three, line_values-three, state_at-three}

-- ---- what is added to a row keeps what is specified there
open_silent : (a b : ℕ) → a ≤ 1 → cond (eqb a X) b X ≡ X
open_silent zero b e = refl
open_silent (suc zero) b e = refl
open_silent (suc (suc a)) b e = absurd (let z : ⊥ = omega arith in z)

where_x-silent : (row new : List ℕ) (m : ℕ) → get_or row m X ≤ 1 → get_or (where_x row new) m X ≡ X
unfolding where_x
where_x-silent [] new m e = refl
where_x-silent (a ∷ row) [] m e = refl
where_x-silent (a ∷ row) (b ∷ new) zero e = open_silent a b e
where_x-silent (a ∷ row) (b ∷ new) (suc m) e = where_x-silent row new m e

give-X : (a b : ℕ) → a ≤ 1 → b ≡ X → give a b ≡ a
unfolding give
give-X zero b e h = rw h
give-X (suc zero) b e h = rw h
give-X (suc (suc a)) b e h = absurd (let z : ⊥ = omega arith in z)

give_row-keeps : (row new : List ℕ) (m : ℕ) → get_or row m X ≤ 1 → get_or new m X ≡ X → get_or (give_row row new) m X ≡ get_or row m X
unfolding give_row
give_row-keeps [] new m e h = refl
give_row-keeps (a ∷ row) [] m e h = refl
give_row-keeps (a ∷ row) (b ∷ new) zero e h = give-X a b e h
give_row-keeps (a ∷ row) (b ∷ new) (suc m) e h = give_row-keeps row new m e h

-- what stage 4 writes for a pair is one of its extras, or nothing
pub written-cases : (c t : List ℕ) (f : Fault) (P : List ℕ → Type 0) (u i : ℕ) → P (extra c t f u i 0) → P (extra c t f u i 1) → P (nothing c)
    → P (written c t f u i)
unfolding written
written-cases c t f P u i h k l = cond_cases P (alone c t f u i 0) _ _ (λ _. k) (λ _. cond_cases P (alone c t f u i 1) _ _ (λ _. h) (λ _. l))

-- an extra says nothing of a bit that the plain state has
extra-silent : (c t : List ℕ) (f : Fault) (u m i α : ℕ) → get_or (plain_state c t f u) m X ≤ 1 → get_or (extra c t f u i α) m X ≡ X
unfolding extra nothing plain_state state_at power_up
extra-silent c t f zero m i α e = absurd (let z : ⊥ = omega (arith, unknown-at (F c) m) in z)
extra-silent c t f (suc u) m i α e =
    cond_cases (λ (row : List ℕ). get_or row m X ≡ X) (marked c t f (suc u) i α) _ _
    (λ _. unknown-at (F c) m) (λ _. where_x-silent (plain_state c t f (suc u)) _ m e)

-- so the state list keeps it
module _ (c t : List ℕ) (f : Fault) (u m : ℕ) (e : get_or (plain_state c t f u) m X ≤ 1) where
  written-silent : (i : ℕ) → get_or (written c t f u i) m X ≡ X
  unfolding nothing
  written-silent i =
      written-cases c t f (λ (row : List ℕ). get_or row m X ≡ X) u i
      (extra-silent c t f u m i 0 e) (extra-silent c t f u m i 1 e) (unknown-at (F c) m)

  row_after-keeps : (i : ℕ) → get_or (row_after c t f u i) m X ≡ get_or (plain_state c t f u) m X
  unfolding row_after
  row_after-keeps zero = refl
  row_after-keeps (suc i) = give_row-keeps _ _ m (rw (row_after-keeps i) e) (written-silent i) ∙ row_after-keeps i

  state_row-keeps : get_or (state_row c t f u) m X ≡ get_or (plain_state c t f u) m X
  unfolding state_row
  state_row-keeps = row_after-keeps (F c)

-- ---- the pin's line
seen-through : (stuck : Bool) (a v : ℕ) → a ≤ 1 → is_specified (cond stuck a v) ≡ false → is_specified v ≡ false
seen-through true a v h e = clash _ (le-leb a 1 h) e
seen-through false a v h e = e

module _ (c t : List ℕ) (f : Fault) (test : ValidTest c t) (fault : ValidFault c f) where
  length-later : (u : ℕ) → length (plain_state c t f (suc u)) ≡ F c
  unfolding plain_state state_at
  length-later u = length-next_state c f _

  line_open : (u i : ℕ) → i < F c → is_specified (get_or (plain_state c t f (suc u)) i X) ≡ false
      → get_or (plain_values c t f u) (pin_line c (flip_flop_line c i) 1) X ≡ X
  unfolding plain_state state_at next_state plain_values values_at pin_seen seen flip_flop_line
  line_open u i h e =
      let vs = plain_values c t f u in
      let n = get_or (flip_flops c) i 0 in
      let bit : f.value < 2 = omega (arith, fault.value) in
      let state = state_at-three c f bit t (power_up c) u test.bytes (power_up-three c) in
      let three = line_values-three c f bit _ _ (inputs-three c t u test.bytes) state in
      let pin : get_or (plain_state c t f (suc u)) i X ≡ pin_seen c f vs n 1 =
      get_or_any (plain_state c t f (suc u)) i X _ (omega (arith, length-later u)) ∙ get_or-map (λ n. pin_seen c f vs n 1) (flip_flops c) i 0 in
      let low : is_specified (get_or vs (pin_line c n 1) X) ≡ false = seen-through (is_stuck f n 1) f.value (get_or vs (pin_line c n 1) X) fault.value (rw pin at e) in
      omega (arith, three.at (pin_line c n 1), leb-false (get_or vs (pin_line c n 1) X) 1 low)

  pub pins_open : PinsOpen c t f
  unfolding tried
  pins_open = record {
    when_tried = λ u i h e.
        let unknown : get_or (plain_state c t f (suc u)) i 0 ≡ X = eqb-true _ _ (and_left _ _ e) in
        line_open u i h (rw (get_or_any (plain_state c t f (suc u)) i X 0 (omega (arith, length-later u)) ∙ unknown));
    when_taken = λ pairs u i e.
        let q : Takeable c t f pairs (suc u) i = takeable c t f pairs (suc u) i e in
        line_open u i q.bit (is_false _ (λ s. clash (is_specified (get_or (state_row c t f (suc u)) i X)) (rw (state_row-keeps c t f (suc u) i (leb-true _ 1 s)) s) q.unspecified));
  }
