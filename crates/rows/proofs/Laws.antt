-- Rows that are given, and rows that say nothing. That a row given without opposition, and what is left of one, have no value but 0, 1 and X
-- is give_row-three and where_x-three of the model.
use mathlib.Core.Path.{◌≡◌, refl, ap}
use Prim.Native.Nat.{ℕ, zero, suc, ◌≤◌}
use mathlib.Core.Bool.{false}
use mathlib.Core.List.{List, [], ◌∷◌}
use lib.ListN.{length, replicate}
use native.Mathlib.Omega.{arith}
use Rattle.model.specs.Inputs.{F}
use Rattle.model.specs.Accepted.{ThreeValued}
use Rattle.model.specs.Values.{X, opposes, some_oppose, give, give_row}
use Rattle.model.specs.Implication.{nothing, where_x}

pub length-where_x : (row new : List ℕ) → length row ≡ length new → length (where_x row new) ≡ length row
unfolding where_x
length-where_x [] new e = refl
length-where_x (a ∷ row) [] e = absurd (let z : ⊥ = omega arith in z)
length-where_x (a ∷ row) (b ∷ new) e = ap suc (length-where_x row new (omega arith))

pub length-give_row : (row new : List ℕ) → length (give_row row new) ≡ length row
unfolding give_row
length-give_row [] new = refl
length-give_row (a ∷ row) [] = refl
length-give_row (a ∷ row) (b ∷ new) = ap suc (length-give_row row new)

-- ---- a row given nothing
give-X : (a : ℕ) → a ≤ 2 → give a X ≡ a
unfolding give
give-X zero h = refl
give-X (suc zero) h = refl
give-X (suc (suc zero)) h = refl
give-X (suc (suc (suc a))) h = absurd (let z : ⊥ = omega arith in z)

give_row-unknown : (row : List ℕ) (n : ℕ) → ThreeValued row → give_row row (replicate n X) ≡ row
unfolding give_row
give_row-unknown [] n h = refl
give_row-unknown (a ∷ row) zero h = refl
give_row-unknown (a ∷ row) (suc n) h = rw (give-X a (h.at 0), give_row-unknown row n (record { at = λ m. h.at (suc m) }))

opposes-X : (a : ℕ) → opposes a X ≡ false
unfolding opposes
opposes-X zero = refl
opposes-X (suc zero) = refl
opposes-X (suc (suc a)) = refl

some_oppose-unknown : (row : List ℕ) (n : ℕ) → some_oppose row (replicate n X) ≡ false
unfolding some_oppose
some_oppose-unknown [] n = refl
some_oppose-unknown (a ∷ row) zero = refl
some_oppose-unknown (a ∷ row) (suc n) = rw (opposes-X a) (some_oppose-unknown row n)

pub give_row-nothing : (c row : List ℕ) → ThreeValued row → give_row row (nothing c) ≡ row
unfolding nothing
give_row-nothing c row h = give_row-unknown row (F c) h

pub some_oppose-nothing : (c row : List ℕ) → some_oppose row (nothing c) ≡ false
unfolding nothing
some_oppose-nothing c row = some_oppose-unknown row (F c)
