-- What the walk says of stages 3 and 4, once it stands behind the last pair.
use Rattle.std.specs.Prelude.{Some, None}
use mathlib.Core.Path.{◌≡◌, refl, ◌∙◌}
use mathlib.Core.Bool.{Bool, true, false}
use mathlib.Core.List.{List}
use mathlib.Core.Option.{none, some, or_else}
use Prim.Native.Nat.{ℕ, zero, suc, ◌+◌, ◌*◌, ◌/◌, ◌%◌, ◌<◌, ◌≤◌}
use native.Mathlib.Omega.{arith}
use native.Mathlib.Decide.{dec_le}
use native.Mathlib.Nat.{mul-suc, mul_comm, mul-le-mul_left}
use borrow.Author.Tests.{le-leb}
use Rattle.lists.specs.Scan.{pair_with, first_pair}
use Rattle.lists.specs.Field.{Rows}
use Rattle.lists.proofs.Field.{row_fits}
use Rattle.lists.proofs.Scan.{first-fails, first-lowest}
use Rattle.model.specs.Inputs.{flip_flop_line, F, L, Fault}
use Rattle.model.specs.Expansion.{both_marked, opposed_write, state_row}
use Rattle.model.specs.Grade.{placed, at_pair, stage3, stage4}
use Rattle.expand.specs.declared.Walk.{Walk}
use Rattle.expand.specs.Expand.{Before, both_at, writes_at, row_to, Walked}
use Rattle.expand.proofs.Place.{unit-of, place_of, unit-inside, position, place-below}

-- ---- the first pair, by positions
module _ (P : ℕ → ℕ → Bool) (b : ℕ) where
  pub pairs-none : (a : ℕ) → ((u i : ℕ) → u < a → i < b → P u i ≡ false) → first_pair P a b ≡ none
  unfolding first_pair pair_with or_else
  pairs-none zero h = refl
  pairs-none (suc a) h = rw (pairs-none a (λ u i l k. h u i (omega arith) k), first-fails (P a) b (λ i k. h a i (omega arith) k))

  pub pairs_first : (a u i : ℕ) → u < a → i < b → P u i ≡ true → ((v j : ℕ) → v < u → j < b → P v j ≡ false) → ((j : ℕ) → j < i → P u j ≡ false) → first_pair P a b ≡ some (u, i)
  unfolding first_pair pair_with or_else
  pairs_first zero u i l k p rows row = absurd (let z : ⊥ = omega arith in z)
  pairs_first (suc a) u i l k p rows row = elim (dec_le (suc u) a) [
    | yes h ↦ rw (pairs_first a u i h k p rows row)
    | no h ↦ (
        let last : a ≡ u = omega arith in
        rw (last, pairs-none u rows, first-lowest (P u) b i record { below = k; passes = p; fails = row }))
  ]

  module _ (a : ℕ) (some-place : 0 < b) where
    -- a pair's position comes before another's
    place : (u i : ℕ) → u < a → i < b → b * u + i < a * b
    place u i h k = let fits : b * u + b ≤ a * b = row_fits b u a h in omega arith

    at : (u i : ℕ) (Q : Bool) → i < b → P ((b * u + i) / b) ((b * u + i) % b) ≡ Q → P u i ≡ Q
    at u i Q k e = rw (unit-of b u i k, place_of b u i k) at e

    pub positions-none : ((e : ℕ) → e < a * b → P (e / b) (e % b) ≡ false) → first_pair P a b ≡ none
    positions-none h = pairs-none a (λ u i l k. at u i false k (h (b * u + i) (place u i l k)))

    pub positions-first : (e : ℕ) → e < a * b → P (e / b) (e % b) ≡ true → ((j : ℕ) → j < e → P (j / b) (j % b) ≡ false) → first_pair P a b ≡ some (e / b, e % b)
    positions-first e h p before =
        pairs_first a (e / b) (e % b) (unit-inside b a e some-place h) (place-below b e some-place) p
        (λ v j l k. at v j false k (before (b * v + j) (let rows : b * suc v ≤ b * (e / b) = mul-le-mul_left b l in omega (arith, mul-suc b v, position b e))))
        (λ j l. at (e / b) j false (omega (arith, place-below b e some-place)) (before (b * (e / b) + j) (omega (arith, position b e))))

-- ---- stages 3 and 4
module _ (c t : List ℕ) (f : Fault) (list : List ℕ) (w : Walk) (walked : Walked c t f (L c t * F c) list w) (inside : Before (L c t * F c) w) where
  -- none of all positions
  none_of : (P : ℕ → ℕ → Bool) → ((e : ℕ) → e < L c t * F c → P (e / F c) (e % F c) ≡ false) → first_pair P (L c t) (F c) ≡ none
  none_of P h = elim (dec_le 1 (F c)) [
    | yes some-flop ↦ positions-none P (F c) (L c t) some-flop h
    | no none-flop ↦ pairs-none P (F c) (L c t) (λ u i l k. absurd (let z : ⊥ = omega arith in z))
  ]

  some-flop : (e : ℕ) → e < L c t * F c → 0 < F c
  some-flop e h = elim (dec_le 1 (F c)) [
    | yes g ↦ g
    | no g ↦ (let zero : F c ≡ 0 = omega arith in let low : e < L c t * 0 = (rw zero at h) in absurd (let z : ⊥ = omega (arith, mul_comm (L c t) 0) in z))
  ]

  pub stage3-met : (p : ℕ) → w.both ≡ Some p → stage3 c t f ≡ some (placed 2 (p / F c) (flip_flop_line c (p % F c)))
  unfolding stage3 at_pair both_at
  stage3-met p h =
      let met = walked.met p h in
      let low = inside.both p h in
      rw (positions-first (λ u i. both_marked c t f u i) (F c) (L c t) (some-flop p low) p low met.0 met.1)

  pub stage3-none : w.both ≡ None → stage3 c t f ≡ none
  unfolding stage3 at_pair both_at
  stage3-none h = rw (none_of (λ u i. both_marked c t f u i) (walked.unmet h))

  pub stage4-met : w.both ≡ None → (p : ℕ) → w.opposed ≡ Some p → stage4 c t f ≡ some (placed 2 (p / F c) (flip_flop_line c (p % F c)))
  unfolding stage4 at_pair writes_at
  stage4-met h p k =
      let met = walked.opposed h p k in
      let low = inside.opposed p k in
      rw (positions-first (λ u i. opposed_write c t f u i) (F c) (L c t) (some-flop p low) p low met.0 met.1)

  pub stage4-none : w.both ≡ None → w.opposed ≡ None → stage4 c t f ≡ none
  unfolding stage4 at_pair writes_at
  stage4-none h k = rw (none_of (λ u i. opposed_write c t f u i) (walked.unopposed h k))

  pub list-rows : w.both ≡ None → w.opposed ≡ None → Rows (F c) (L c t) list (λ u. state_row c t f u)
  unfolding row_to state_row
  list-rows h k = record { at = λ u l. (walked.rows h k).at u l ∙ rw (le-leb (F c * u + F c) (L c t * F c) (row_fits (F c) u (L c t) l)) }
