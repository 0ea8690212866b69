-- Rows of state bits that allow the state of a run, starting states, and what outputs show of lines.
use mathlib.Core.Path.{◌≡◌, refl, sym, ap, ◌∙◌}
use Prim.Native.Nat.{ℕ, zero, suc, ◌/◌, ◌%◌}
use mathlib.Core.Bool.{Bool, true, false, cond, ◌&&◌, ◌||◌, or-false, or_assoc}
use mathlib.Core.List.{List, [], ◌∷◌, ◌++◌, map, map-append}
use lib.ListN.{get_or, length, set, replicate}
use lib.Dec.{eqb}
use native.Mathlib.Omega.{arith}
use Rattle.lists.specs.Scan.{any_below, select}
use Rattle.model.specs.Values.{X, is_specified, give_row, opposes, some_oppose}
use Rattle.model.specs.Starts.{bits}
use Rattle.model.specs.Implication.{where_x}
use Rattle.model.specs.Expansion.{count_x, count_open}
use Rattle.lists.proofs.Tests.{or_left_false, or_right_false}
use Rattle.model.proofs.Allows.{Allows, AllowsRow}
use Rattle.model.proofs.Total.{TotalRow, bit-total, nil-total, cons-total}
use Rattle.model.proofs.Implication.{give_allows}

-- ---- rows that allow one and the same row
pub give_row_allows : (xs ys rs : List ℕ) → AllowsRow xs rs → AllowsRow ys rs → AllowsRow (give_row xs ys) rs
unfolding give_row AllowsRow
give_row_allows [] [] [] h k = tt
give_row_allows [] [] (r ∷ rs) h k = absurd h
give_row_allows [] (y ∷ ys) [] h k = absurd k
give_row_allows [] (y ∷ ys) (r ∷ rs) h k = absurd h
give_row_allows (x ∷ xs) [] [] h k = absurd h
give_row_allows (x ∷ xs) [] (r ∷ rs) h k = absurd k
give_row_allows (x ∷ xs) (y ∷ ys) [] h k = absurd h
give_row_allows (x ∷ xs) (y ∷ ys) (r ∷ rs) h k = (give_allows x y r h.0 k.0, give_row_allows xs ys rs h.1 k.1)

agree : (x y r : ℕ) → Allows x r → Allows y r → opposes x y ≡ false
unfolding opposes Allows
agree zero zero r h k = refl
agree zero (suc zero) r h k = absurd (let z : ⊥ = omega arith in z)
agree zero (suc (suc y)) r h k = refl
agree (suc zero) zero r h k = absurd (let z : ⊥ = omega arith in z)
agree (suc zero) (suc y) r h k = refl
agree (suc (suc x)) y r h k = refl

pub rows_agree : (xs ys rs : List ℕ) → AllowsRow xs rs → AllowsRow ys rs → some_oppose xs ys ≡ false
unfolding some_oppose AllowsRow
rows_agree [] ys rs h k = refl
rows_agree (x ∷ xs) [] rs h k = refl
rows_agree (x ∷ xs) (y ∷ ys) [] h k = absurd h
rows_agree (x ∷ xs) (y ∷ ys) (r ∷ rs) h k = rw (agree x y r h.0 k.0) (rows_agree xs ys rs h.1 k.1)

cond_x_allows : (t : Bool) (b r : ℕ) → Allows b r → Allows (cond t b X) r
unfolding Allows
cond_x_allows true b r h = h
cond_x_allows false b r h = tt

pub where_x_allows : (xs ys rs : List ℕ) → AllowsRow xs rs → AllowsRow ys rs → AllowsRow (where_x xs ys) rs
unfolding where_x AllowsRow
where_x_allows [] [] [] h k = tt
where_x_allows [] [] (r ∷ rs) h k = absurd h
where_x_allows [] (y ∷ ys) [] h k = absurd k
where_x_allows [] (y ∷ ys) (r ∷ rs) h k = absurd h
where_x_allows (x ∷ xs) [] [] h k = absurd h
where_x_allows (x ∷ xs) [] (r ∷ rs) h k = absurd k
where_x_allows (x ∷ xs) (y ∷ ys) [] h k = absurd h
where_x_allows (x ∷ xs) (y ∷ ys) (r ∷ rs) h k = (cond_x_allows (eqb x X) y r k.0, where_x_allows xs ys rs h.1 k.1)

pub unknown_allows : (n : ℕ) (rs : List ℕ) → length rs ≡ n → AllowsRow (replicate n X) rs
unfolding AllowsRow Allows
unknown_allows zero [] e = tt
unknown_allows zero (r ∷ rs) e = absurd (let z : ⊥ = omega arith in z)
unknown_allows (suc n) [] e = absurd (let z : ⊥ = omega arith in z)
unknown_allows (suc n) (r ∷ rs) e = (tt, unknown_allows n rs (omega arith))

pub set_allows : (xs ys : List ℕ) (i a : ℕ) → AllowsRow xs ys → Allows a (get_or ys i X) → AllowsRow (set xs i a) ys
unfolding AllowsRow
set_allows [] [] i a h k = tt
set_allows [] (y ∷ ys) i a h k = absurd h
set_allows (x ∷ xs) [] i a h k = absurd h
set_allows (x ∷ xs) (y ∷ ys) zero a h k = (k, h.1)
set_allows (x ∷ xs) (y ∷ ys) (suc i) a h k = (h.0, set_allows xs ys i a h.1 k)

-- ---- starting states
pub length-bits : (n s : ℕ) → length (bits n s) ≡ n
unfolding bits
length-bits zero s = refl
length-bits (suc n) s = ap suc (length-bits n (s / 2))

pub bits-total : (n s : ℕ) → TotalRow (bits n s)
unfolding bits
bits-total zero s = nil-total
bits-total (suc n) s = cons-total _ _ (bit-total (s % 2) (omega arith)) (bits-total n (s / 2))

-- ---- outputs oppose exactly where some output line does
some_oppose-append : (xs ys vs bs : List ℕ) → length xs ≡ length ys → some_oppose (xs ++ vs) (ys ++ bs) ≡ some_oppose xs ys || some_oppose vs bs
unfolding some_oppose
some_oppose-append [] [] vs bs l = refl
some_oppose-append [] (y ∷ ys) vs bs l = absurd (let z : ⊥ = omega arith in z)
some_oppose-append (x ∷ xs) [] vs bs l = absurd (let z : ⊥ = omega arith in z)
some_oppose-append (x ∷ xs) (y ∷ ys) vs bs l =
    rw (some_oppose-append xs ys vs bs (omega arith)) (sym (or_assoc (opposes x y) (some_oppose xs ys) (some_oppose vs bs)))

length-mapped : (g h : ℕ → ℕ) (xs : List ℕ) → length (map g xs) ≡ length (map h xs)
length-mapped g h [] = refl
length-mapped g h (x ∷ xs) = ap suc (length-mapped g h xs)

pub some_oppose-select : (P : ℕ → Bool) (g h : ℕ → ℕ) (n : ℕ)
    → some_oppose (map g (select P n)) (map h (select P n)) ≡ any_below (λ m. P m && opposes (g m) (h m)) n
unfolding select any_below some_oppose
some_oppose-select P g h zero = refl
some_oppose-select P g h (suc n) =
    rw (map-append g (select P n) _, map-append h (select P n) _)
    (some_oppose-append (map g (select P n)) (map h (select P n)) _ _ (length-mapped g h (select P n))
    ∙ rw (some_oppose-select P g h n) (ap (λ (t : Bool). any_below (λ m. P m && opposes (g m) (h m)) n || t) (last (P n))))
  where
    last : (t : Bool) → some_oppose (map g (cond t (n ∷ []) [])) (map h (cond t (n ∷ []) [])) ≡ t && opposes (g n) (h n)
    last true = or-false (opposes (g n) (h n))
    last false = refl

-- ---- where no place is open and none opposes, no row that is allowed opposes
closed-place : (o x y : ℕ) → Allows x y → ◌≡◌ {A = ℕ} (cond (is_specified o && eqb x X) 1 0) 0 → opposes o x ≡ false → opposes o y ≡ false
unfolding opposes Allows
closed-place zero zero y h k e = rw h
closed-place zero (suc zero) y h k e = rw h e
closed-place zero (suc (suc zero)) y h k e = absurd (let z : ⊥ = omega arith in z)
closed-place zero (suc (suc (suc x))) y h k e = absurd h
closed-place (suc zero) zero y h k e = rw h e
closed-place (suc zero) (suc zero) y h k e = rw h
closed-place (suc zero) (suc (suc zero)) y h k e = absurd (let z : ⊥ = omega arith in z)
closed-place (suc zero) (suc (suc (suc x))) y h k e = absurd h
closed-place (suc (suc o)) x y h k e = refl

pub closed-row : (os xs ys : List ℕ) → AllowsRow xs ys → count_open os xs ≡ 0 → some_oppose os xs ≡ false → some_oppose os ys ≡ false
unfolding count_open some_oppose AllowsRow
closed-row [] xs ys h k e = refl
closed-row (o ∷ os) xs [] h k e = refl
closed-row (o ∷ os) [] (y ∷ ys) h k e = absurd h
closed-row (o ∷ os) (x ∷ xs) (y ∷ ys) h k e =
    rw (closed-place o x y h.0 (omega arith) (or_left_false (opposes o x) _ e))
    (closed-row os xs ys h.1 (omega arith) (or_right_false (opposes o x) _ e))

pub count_x-unknown : (n : ℕ) → count_x (replicate n X) ≡ n
unfolding count_x
count_x-unknown zero = refl
count_x-unknown (suc n) = omega (arith, count_x-unknown n)
