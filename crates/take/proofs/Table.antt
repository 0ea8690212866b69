-- A table whose rows are written over, one at a time or the two of a pair.
use mathlib.Core.Path.{◌≡◌, refl, ap, ◌∙◌}
use mathlib.Core.Bool.{cond}
use mathlib.Core.List.{List, ◌++◌, append-nil}
use Prim.Native.Nat.{ℕ, ◌+◌, ◌*◌, ◌-◌, ◌<◌, ◌≤◌}
use native.Mathlib.Omega.{arith}
use native.Mathlib.Nat.{mul-le-mul_left}
use lib.Dec.{eqb}
use lib.ListN.{length, take, drop, length-drop, drop_of_length-le}
use borrow.Author.Tests.{eq-eqb, ne_eqb}
use Rattle.lists.specs.Field.{overwritten, row_of}
use Rattle.lists.proofs.Field.{lent, row_fits}
use Rattle.lists.proofs.Table.{length_over, row_written}
use Rattle.take.specs.Take.{with_row, with_pair}

-- row v of a table whose row u is written over
module _ (size u : ℕ) (table new : List ℕ) (fits : size * u + size ≤ length table) (long : length new ≡ size) where
  pub length_with : length (with_row size u new table) ≡ length table
  unfolding with_row
  length_with = length_over size u table new fits long

  pub row_with : (v : ℕ) → size * v + size ≤ length table → row_of size (with_row size u new table) v ≡ cond (eqb v u) new (row_of size table v)
  unfolding with_row
  row_with v lv = row_written size u table new fits long v lv

-- ---- room for rows
-- a row before one that has room
pub row_before : (size v r l : ℕ) → v ≤ r → size * r + size ≤ l → size * v + size ≤ l
row_before size v r l h fits = let up : size * v ≤ size * r = mul-le-mul_left size h in omega arith

-- by another name of the size
pub row_as : (size columns r l : ℕ) → size ≡ columns → columns * r + columns ≤ l → size * r + size ≤ l
row_as size columns r l e h = rw e h

pub row_room : (size columns u n l : ℕ) → size ≡ columns → u < n → n * columns ≤ l → size * u + size ≤ l
row_room size columns u n l e h room = rw e (omega (arith, row_fits columns u n h))

pub long_as : (n l l' : ℕ) → l' ≡ l → n ≤ l → n ≤ l'
long_as n l l' e h = omega arith

-- room for 12 pairs
pub pair-room : (size m l : ℕ) → m < 12 → 24 * size ≤ l → size * (2 * m + 1) + size ≤ l
pair-room size m l h room = omega (arith, row_fits size (2 * m + 1) 24 (omega arith))

-- ---- a row that is lent
-- what code makes of a table whose end, from row r on, is lent
pub lent_row : (size r : ℕ) (table end new : List ℕ) → size * r ≤ length table → end ≡ overwritten new (take (length table - size * r) (drop (size * r) table))
    → take (size * r) table ++ (end ++ drop (length table - size * r) (drop (size * r) table)) ≡ with_row size r new table
unfolding with_row
lent_row size r table end new fits e =
    rw (drop_of_length-le (drop (size * r) table) {i = length table - size * r} (rw length-drop (omega arith)), append-nil end, e, lent table (size * r))

-- ---- the two rows of a pair
module _ (size m : ℕ) (table low high : List ℕ) (fits : size * (2 * m + 1) + size ≤ length table) (el : length low ≡ size) (eh : length high ≡ size) where
  low_fits : size * (2 * m) + size ≤ length table
  low_fits = let up : size * (2 * m) ≤ size * (2 * m + 1) = mul-le-mul_left size (omega arith) in omega arith

  pair_row : (v : ℕ) → size * v + size ≤ length table
      → row_of size (with_pair size m low high table) v ≡ cond (eqb v (2 * m + 1)) high (cond (eqb v (2 * m)) low (row_of size table v))
  unfolding with_pair
  pair_row v l =
      let same : length (with_row size (2 * m) low table) ≡ length table = length_with size (2 * m) table low low_fits el in
      row_with size (2 * m + 1) (with_row size (2 * m) low table) high (rw same fits) eh v (rw same l)
      ∙ ap (cond (eqb v (2 * m + 1)) high) (row_with size (2 * m) table low low_fits el v l)

  pub pair-low : row_of size (with_pair size m low high table) (2 * m) ≡ low
  pair-low = pair_row (2 * m) low_fits ∙ rw (ne_eqb (2 * m) (2 * m + 1) (λ e. (let z : ⊥ = omega arith in z)), eq-eqb (2 * m) (2 * m) refl)

  pub pair-high : row_of size (with_pair size m low high table) (2 * m + 1) ≡ high
  pair-high = pair_row (2 * m + 1) fits ∙ rw (eq-eqb (2 * m + 1) (2 * m + 1) refl)

  -- the rows before them
  pub pair-below : (v : ℕ) → v < 2 * m → row_of size (with_pair size m low high table) v ≡ row_of size table v
  pair-below v h =
      let up : size * v ≤ size * (2 * m) = mul-le-mul_left size (omega arith) in
      pair_row v (omega (arith, low_fits)) ∙ rw (ne_eqb v (2 * m + 1) (λ e. (let z : ⊥ = omega arith in z)), ne_eqb v (2 * m) (λ e. (let z : ⊥ = omega arith in z)))

-- what code makes of a table whose end is lent for the first row of pair m, and then for the second
pub pair-lent : (size m : ℕ) (table low high end end' : List ℕ) → size * (2 * m + 1) + size ≤ length table → length low ≡ size
    → end ≡ overwritten low (take (length table - size * (2 * m)) (drop (size * (2 * m)) table))
    → let table' = take (size * (2 * m)) table ++ (end ++ drop (length table - size * (2 * m)) (drop (size * (2 * m)) table)) in
    end' ≡ overwritten high (take (length table' - size * (2 * m + 1)) (drop (size * (2 * m + 1)) table'))
    → take (size * (2 * m + 1)) table' ++ (end' ++ drop (length table' - size * (2 * m + 1)) (drop (size * (2 * m + 1)) table')) ≡ with_pair size m low high table
unfolding with_pair
pair-lent size m table low high end end' fits el e e' =
    let up : size * (2 * m) ≤ size * (2 * m + 1) = mul-le-mul_left size (omega arith) in
    let first = lent_row size (2 * m) table end low (omega arith) e in
    let same = ap length first ∙ length_with size (2 * m) table low (omega arith) el in
    lent_row size (2 * m + 1) _ end' high (rw same (omega arith)) e' ∙ ap (with_row size (2 * m + 1) high) first
