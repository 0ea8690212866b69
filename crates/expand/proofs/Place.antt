-- Positions of a walk: position e is place e % size of unit e / size.
use mathlib.Core.Path.{◌≡◌, sym, ap, ◌∙◌}
use mathlib.Core.List.{List, ◌++◌}
use Prim.Native.Nat.{ℕ, suc, ◌+◌, ◌*◌, ◌/◌, ◌%◌, ◌<◌, ◌≤◌}
use native.Mathlib.Omega.{arith}
use native.Mathlib.Nat.{div-add-mod', mod-lt, le-div_iff_mul-le, mul_comm, mul-le-mul_left}
use native.Mathlib.Decide.{dec_le}
use lib.Arith.{digits_div, digits_mod}
use lib.ListN.{get_or, length, take, drop, length-append, length-drop, get_or-append}
use lib.Seq.{get_or-take, get_or-drop, length-take-le, ext_get_or}
use Rattle.lists.specs.Field.{overwritten, row_of}

pub first-unit : (size e : ℕ) → 0 < size → size ≤ e → 1 ≤ e / size
first-unit size e some h = (le-div_iff_mul-le some).1 (let z : 1 * size ≤ e = omega arith in z)

-- a position and its pair
pub position : (size e : ℕ) → e ≡ size * (e / size) + e % size
position size e = sym (div-add-mod' e size) ∙ ap (λ m. m + e % size) (mul_comm (e / size) size)

pub place-below : (size e : ℕ) → 0 < size → e % size < size
place-below size e some = mod-lt e some

pub unit-of : (size u i : ℕ) → i < size → (size * u + i) / size ≡ u
unit-of size u i h = ap (λ m. (m + i) / size) (mul_comm size u) ∙ digits_div u h

pub place_of : (size u i : ℕ) → i < size → (size * u + i) % size ≡ i
place_of size u i h = ap (λ m. (m + i) % size) (mul_comm size u) ∙ digits_mod u h

-- a position of n units is in one of them
pub unit-inside : (size n e : ℕ) → 0 < size → e < n * size → e / size < n
unit-inside size n e some h = elim (dec_le (suc (e / size)) n) [
  | yes g ↦ g
  | no g ↦ (let many : size * n ≤ size * (e / size) = mul-le-mul_left size (let z : n ≤ e / size = omega arith in z) in absurd (let z : ⊥ = omega (arith, position size e, mul_comm size n) in z))
]

-- a byte of a table, by its row
pub table_at : (size n e : ℕ) (table : List ℕ) → 0 < size → n * size ≤ length table → e < n * size → get_or table e 0 ≡ get_or (row_of size table (e / size)) (e % size) 0
unfolding row_of
table_at size n e table some room h =
    sym (get_or-take size (drop (size * (e / size)) table) (e % size) 0 (place-below size e some) ∙ get_or-drop (size * (e / size)) table (e % size) 0 ∙ ap (λ k. get_or table k 0) (sym (position size e)))

-- the rows of a table that was copied
pub row_copied : (size n u : ℕ) (from old : List ℕ) → n ≤ length from → size * u + size ≤ n → row_of size (overwritten (take n from) old) u ≡ row_of size from u
unfolding row_of overwritten
row_copied size n u from old l h =
    let long : length (take n from) ≡ n = length-take-le n from l in
    let tail = drop (length (take n from)) old in
    let left : length (take size (drop (size * u) (take n from ++ tail))) ≡ size = length-take-le size (drop (size * u) (take n from ++ tail)) (rw (length-drop, length-append) (omega arith)) in
    let right : length (take size (drop (size * u) from)) ≡ size = length-take-le size (drop (size * u) from) (rw length-drop (omega arith)) in
    ext_get_or 0 (take size (drop (size * u) (take n from ++ tail))) (take size (drop (size * u) from)) (left ∙ sym right) (λ i k.
    let low : i < size = omega arith in
    get_or-take size (drop (size * u) (take n from ++ tail)) i 0 low ∙ get_or-drop (size * u) (take n from ++ tail) i 0 ∙ get_or-append (take n from) tail 0 (size * u + i) (omega arith)
    ∙ get_or-take n from (size * u + i) 0 (omega arith) ∙ sym (get_or-take size (drop (size * u) from) i 0 low ∙ get_or-drop (size * u) from i 0))
