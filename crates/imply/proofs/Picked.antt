-- The pins of a gate but one: those that a loop from the last to the first takes, and what they give together.
use mathlib.Core.Path.{◌≡◌, refl}
use mathlib.Core.List.{List, [], ◌∷◌}
use Prim.Native.Nat.{ℕ, zero, suc, ◌+◌, ◌-◌, ◌<◌, ◌≤◌}
use native.Mathlib.Omega.{arith}
use borrow.Author.Tests.{eq-eqb, ne_eqb}
use lib.ListN.{length, get_or}
use Rattle.model.specs.Values.{X, even_gate}
use Rattle.model.specs.Implication.{others}
use Rattle.imply.specs.Implied.{picked}

-- one place further to the front
module _ (vs : List ℕ) (i n at : ℕ) (tail : List ℕ) (some : 0 < at) (most : at ≤ n) where
  pub picked-past : at - 1 ≡ i → picked vs i (n - (at - 1)) (at - 1) tail ≡ picked vs i (n - at) at tail
  unfolding picked
  picked-past e =
      let more : n - (at - 1) ≡ suc (n - at) = omega arith in
      let up : suc (at - 1) ≡ at = omega arith in
      rw (more, eq-eqb (at - 1) i e, up)

  pub picked_more : (at - 1 ≡ i → ⊥) → picked vs i (n - (at - 1)) (at - 1) tail ≡ get_or vs (at - 1) X ∷ picked vs i (n - at) at tail
  unfolding picked
  picked_more e =
      let more : n - (at - 1) ≡ suc (n - at) = omega arith in
      let up : suc (at - 1) ≡ at = omega arith in
      rw (more, ne_eqb (at - 1) i e, up)

pub picked_none : (vs : List ℕ) (i n : ℕ) (tail : List ℕ) → picked vs i (n - n) n tail ≡ tail
unfolding picked
picked_none vs i n tail = let none : n - n ≡ 0 = omega arith in rw none

-- all of a gate's pins but one, of which the last is another
pub picked-behind : (vs : List ℕ) (i : ℕ) → length vs ≤ 4 → i + 1 < length vs → picked vs i (length vs - 1) 0 (get_or vs (length vs - 1) X ∷ []) ≡ others vs i
unfolding picked others
picked-behind [] i l h = absurd (let z : ⊥ = omega arith in z)
picked-behind (a ∷ []) i l h = absurd (let z : ⊥ = omega arith in z)
picked-behind (a ∷ b ∷ []) zero l h = refl
picked-behind (a ∷ b ∷ []) (suc i) l h = absurd (let z : ⊥ = omega arith in z)
picked-behind (a ∷ b ∷ d ∷ []) zero l h = refl
picked-behind (a ∷ b ∷ d ∷ []) (suc zero) l h = refl
picked-behind (a ∷ b ∷ d ∷ []) (suc (suc i)) l h = absurd (let z : ⊥ = omega arith in z)
picked-behind (a ∷ b ∷ d ∷ e ∷ []) zero l h = refl
picked-behind (a ∷ b ∷ d ∷ e ∷ []) (suc zero) l h = refl
picked-behind (a ∷ b ∷ d ∷ e ∷ []) (suc (suc zero)) l h = refl
picked-behind (a ∷ b ∷ d ∷ e ∷ []) (suc (suc (suc i))) l h = absurd (let z : ⊥ = omega arith in z)
picked-behind (a ∷ b ∷ d ∷ e ∷ f ∷ vs) i l h = absurd (let z : ⊥ = omega arith in z)

-- all but the last
pub picked_before : (vs : List ℕ) (i : ℕ) → 2 ≤ length vs → length vs ≤ 4 → i + 1 ≡ length vs → picked vs i (length vs - 2) 0 (get_or vs (length vs - 2) X ∷ []) ≡ others vs i
unfolding picked others
picked_before [] i m l h = absurd (let z : ⊥ = omega arith in z)
picked_before (a ∷ []) i m l h = absurd (let z : ⊥ = omega arith in z)
picked_before (a ∷ b ∷ vs) zero m l h = absurd (let z : ⊥ = omega arith in z)
picked_before (a ∷ b ∷ []) (suc zero) m l h = refl
picked_before (a ∷ b ∷ []) (suc (suc i)) m l h = absurd (let z : ⊥ = omega arith in z)
picked_before (a ∷ b ∷ d ∷ vs) (suc zero) m l h = absurd (let z : ⊥ = omega arith in z)
picked_before (a ∷ b ∷ d ∷ []) (suc (suc zero)) m l h = refl
picked_before (a ∷ b ∷ d ∷ []) (suc (suc (suc i))) m l h = absurd (let z : ⊥ = omega arith in z)
picked_before (a ∷ b ∷ d ∷ e ∷ vs) (suc (suc zero)) m l h = absurd (let z : ⊥ = omega arith in z)
picked_before (a ∷ b ∷ d ∷ e ∷ []) (suc (suc (suc zero))) m l h = refl
picked_before (a ∷ b ∷ d ∷ e ∷ []) (suc (suc (suc (suc i)))) m l h = absurd (let z : ⊥ = omega arith in z)
picked_before (a ∷ b ∷ d ∷ e ∷ f ∷ vs) (suc (suc (suc i))) m l h = absurd (let z : ⊥ = omega arith in z)

-- a buffer has no other pin
pub none-other : (vs : List ℕ) (i half : ℕ) → length vs ≡ 1 → i < 1 → half ≡ 1 → even_gate half (others vs i) ≡ X
unfolding even_gate others
none-other [] i half e l h = absurd (let z : ⊥ = omega arith in z)
none-other (a ∷ []) zero half e l h = rw h
none-other (a ∷ []) (suc i) half e l h = absurd (let z : ⊥ = omega arith in z)
none-other (a ∷ b ∷ vs) i half e l h = absurd (let z : ⊥ = omega arith in z)
