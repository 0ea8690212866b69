-- What one turn of each loop adds.
use mathlib.Core.Path.{◌≡◌, refl, sym, ap, ◌∙◌}
use Prim.Native.Nat.{ℕ, zero, suc, ◌+◌, ◌≤◌, ◌<◌}
use mathlib.Core.Bool.{Bool, true, false, cond, ◌&&◌, ◌||◌, or-false, or_assoc, true≢false}
use mathlib.Core.List.{List, [], ◌∷◌}
use lib.Dec.{eqb}
use lib.ListN.{get_or, length, take}
use lib.Seq.{get_or-take, length-take-le}
use mir.Val.{bool_byte}
use native.Mathlib.Omega.{arith}
use borrow.Author.Tests.{ne_eqb}
use Rattle.lists.proofs.Tests.{or_left_false, or_right_false}
use Rattle.lists.proofs.Scan.{get_or_any}
use Rattle.model.specs.Accepted.{ThreeValued}
use Rattle.model.specs.Values.{X, is_specified, opposes, some_oppose, give, give_row}
use Rattle.model.specs.Implication.{where_x}
use Rattle.model.specs.Sequences.{overlaps}
use Rattle.model.specs.Choose.{size}
use Rattle.rows.proofs.Laws.{length-where_x}

-- ---- opposite values, by the tests that are made
pub opposes_0 : (a b : ℕ) → a ≡ 0 → eqb b 1 ≡ opposes a b
unfolding opposes
opposes_0 zero zero e = refl
opposes_0 zero (suc zero) e = refl
opposes_0 zero (suc (suc b)) e = ne_eqb (suc (suc b)) 1 (λ z. omega arith)
opposes_0 (suc a) b e = absurd (let z : ⊥ = omega arith in z)

pub opposes_1 : (a b : ℕ) → a ≡ 1 → eqb b 0 ≡ opposes a b
unfolding opposes
opposes_1 zero b e = absurd (let z : ⊥ = omega arith in z)
opposes_1 (suc zero) zero e = refl
opposes_1 (suc zero) (suc b) e = ne_eqb (suc b) 0 (λ z. omega arith)
opposes_1 (suc (suc a)) b e = absurd (let z : ⊥ = omega arith in z)

pub opposes-X : (a b : ℕ) → 1 < a → false ≡ opposes a b
unfolding opposes
opposes-X zero b h = absurd (let z : ⊥ = omega arith in z)
opposes-X (suc zero) b h = absurd (let z : ⊥ = omega arith in z)
opposes-X (suc (suc a)) b h = refl

-- ---- a test of two rows, passed if some place passes
module _ (P : ℕ → ℕ → Bool) (Some : List ℕ → List ℕ → Bool) (none : Some [] [] ≡ false) (more : (a b : ℕ) (xs ys : List ℕ) → Some (a ∷ xs) (b ∷ ys) ≡ (P a b || Some xs ys)) where
  some_more : (xs ys : List ℕ) (s : ℕ) (found here : Bool) → s < length xs → s < length ys → here ≡ P (get_or xs s 0) (get_or ys s 0) → found ≡ Some (take s xs) (take s ys)
      → (found || here) ≡ Some (take (s + 1) xs) (take (s + 1) ys)
  some_more [] ys s found here h k e f = absurd (let z : ⊥ = omega arith in z)
  some_more (a ∷ xs) [] s found here h k e f = absurd (let z : ⊥ = omega arith in z)
  some_more (a ∷ xs) (b ∷ ys) zero found here h k e f = rw (e, f, none, more a b [] [], none) (sym (or-false (P a b)))
  some_more (a ∷ xs) (b ∷ ys) (suc s) found here h k e f =
      let next : suc s + 1 ≡ suc (s + 1) = omega arith in
      rw (next, more a b (take (s + 1) xs) (take (s + 1) ys), ← (some_more xs ys s _ here (omega arith) (omega arith) e refl), f, more a b (take s xs) (take s ys))
      (or_assoc (P a b) (Some (take s xs) (take s ys)) here)

pub opposing_more : (xs ys : List ℕ) (s : ℕ) (found here : Bool) → s < length xs → s < length ys → here ≡ opposes (get_or xs s 0) (get_or ys s 0) → found ≡ some_oppose (take s xs) (take s ys)
    → (found || here) ≡ some_oppose (take (s + 1) xs) (take (s + 1) ys)
opposing_more = some_more opposes some_oppose (unfold some_oppose in refl) (λ a b xs ys. unfold some_oppose in refl)

pub overlap_more : (xs ys : List ℕ) (s : ℕ) (found here : Bool) → s < length xs → s < length ys → here ≡ (is_specified (get_or xs s 0) && is_specified (get_or ys s 0))
    → found ≡ overlaps (take s xs) (take s ys) → (found || here) ≡ overlaps (take (s + 1) xs) (take (s + 1) ys)
overlap_more = some_more (λ a b. is_specified a && is_specified b) overlaps (unfold overlaps in refl) (λ a b xs ys. unfold overlaps in refl)

-- ---- how many places are specified
-- a test's number
pub test-number : (b : Bool) → bool_byte b ≡ cond b 1 0
test-number true = refl
test-number false = refl

pub number-most : (b : Bool) → bool_byte b ≤ 1
number-most true = omega arith
number-most false = omega arith

pub size-more : (xs : List ℕ) (s found here : ℕ) → s < length xs → here ≡ cond (is_specified (get_or xs s 0)) 1 0 → found ≡ size (take s xs) → found + here ≡ size (take (s + 1) xs)
unfolding size
size-more [] s found here h e p = absurd (let z : ⊥ = omega arith in z)
size-more (a ∷ xs) zero found here h e p = rw (e, p) (omega arith)
size-more (a ∷ xs) (suc s) found here h e p =
    let next : suc s + 1 ≡ suc (s + 1) = omega arith in
    let tail : size (take s xs) + here ≡ size (take (s + 1) xs) = size-more xs s _ here (omega arith) e refl in
    rw next (omega (arith, p, tail))

-- ---- a row made of two, place by place
module _ (g : ℕ → ℕ → ℕ) (Row : List ℕ → List ℕ → List ℕ) (more : (a b : ℕ) (xs ys : List ℕ) → Row (a ∷ xs) (b ∷ ys) ≡ g a b ∷ Row xs ys) where
  place_at_lem : (xs ys : List ℕ) (m d : ℕ) → m < length xs → m < length ys → g (get_or xs m d) (get_or ys m d) ≡ get_or (Row xs ys) m d
  place_at_lem [] ys m d h k = absurd (let z : ⊥ = omega arith in z)
  place_at_lem (a ∷ xs) [] m d h k = absurd (let z : ⊥ = omega arith in z)
  place_at_lem (a ∷ xs) (b ∷ ys) zero d h k = rw (more a b xs ys)
  place_at_lem (a ∷ xs) (b ∷ ys) (suc m) d h k = rw (more a b xs ys) (place_at_lem xs ys m d (omega arith) (omega arith))

pub length-extra : (plain st : List ℕ) (count : ℕ) → count ≤ length plain → length st ≡ count → length (where_x (take count plain) st) ≡ count
length-extra plain st count l e = let long : length (take count plain) ≡ count = length-take-le count plain l in length-where_x (take count plain) st (omega arith) ∙ long

-- what is written of a lane that holds st
pub extra-at : (plain st : List ℕ) (count s v w : ℕ) → s < count → count ≤ length plain → length st ≡ count → v ≡ get_or st s X → w ≡ cond (eqb (get_or plain s 0) X) v X
    → w ≡ get_or (where_x (take count plain) st) s X
extra-at plain st count s v w h l e is written =
    let at : get_or (take count plain) s X ≡ get_or plain s 0 = get_or-take count plain s X h ∙ get_or_any plain s X 0 (omega arith) in
    written ∙ rw (is, ← at) (place_at_lem (λ a b. cond (eqb a X) b X) where_x (λ a b xs ys. unfold where_x in refl) (take count plain) st s X (rw (length-take-le count plain l) h) (omega arith))

-- a row whose places at X are filled from another
unfoldable pub filled : List ℕ → List ℕ → List ℕ
filled [] ys = []
filled (a ∷ xs) [] = a ∷ xs
filled (a ∷ xs) (b ∷ ys) = cond (eqb a X) b a ∷ filled xs ys

length-filled : (xs ys : List ℕ) → length (filled xs ys) ≡ length xs
unfolding filled
length-filled [] ys = refl
length-filled (a ∷ xs) [] = refl
length-filled (a ∷ xs) (b ∷ ys) = ap suc (length-filled xs ys)

pub filled-long : (xs ys : List ℕ) (count : ℕ) → count ≤ length xs → length (filled (take count xs) (take count ys)) ≡ count
filled-long xs ys count l = length-filled (take count xs) (take count ys) ∙ length-take-le count xs l

-- that is how it is given where nothing opposes
fill_gives : (a b : ℕ) → a ≤ 2 → b ≤ 2 → opposes a b ≡ false → cond (eqb a X) b a ≡ give a b
unfolding give opposes
fill_gives zero zero h k e = refl
fill_gives zero (suc zero) h k e = absurd (true≢false e)
fill_gives zero (suc (suc zero)) h k e = refl
fill_gives zero (suc (suc (suc b))) h k e = absurd (let z : ⊥ = omega arith in z)
fill_gives (suc zero) zero h k e = absurd (true≢false e)
fill_gives (suc zero) (suc zero) h k e = refl
fill_gives (suc zero) (suc (suc zero)) h k e = refl
fill_gives (suc zero) (suc (suc (suc b))) h k e = absurd (let z : ⊥ = omega arith in z)
fill_gives (suc (suc zero)) b h k e = refl
fill_gives (suc (suc (suc a))) b h k e = absurd (let z : ⊥ = omega arith in z)

pub filled-given : (xs ys : List ℕ) → ThreeValued xs → ThreeValued ys → some_oppose xs ys ≡ false → filled xs ys ≡ give_row xs ys
unfolding filled give_row some_oppose
filled-given [] ys h k e = refl
filled-given (a ∷ xs) [] h k e = refl
filled-given (a ∷ xs) (b ∷ ys) h k e =
    rw (
      fill_gives a b (h.at 0) (k.at 0) (or_left_false (opposes a b) _ e),
      filled-given xs ys (record { at = λ m. h.at (suc m) }) (record { at = λ m. k.at (suc m) }) (or_right_false (opposes a b) _ e),
    )

-- what is written of the row's place s, which is as it was
pub filled_at : (row extra : List ℕ) (count s a b w : ℕ) → s < count → count ≤ length row → count ≤ length extra → a ≡ get_or row s 0 → b ≡ get_or extra s 0 → w ≡ cond (eqb a X) b a
    → w ≡ get_or (filled (take count row) (take count extra)) s 0
filled_at row extra count s a b w h l k e f written =
    written ∙ rw (e, f, ← (get_or-take count row s 0 h), ← (get_or-take count extra s 0 h))
    (place_at_lem (λ a b. cond (eqb a X) b a) filled (λ a b xs ys. unfold filled in refl) (take count row) (take count extra) s 0 (rw (length-take-le count row l) h) (rw (length-take-le count extra k) h))
