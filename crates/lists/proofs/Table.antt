-- A table with one row written over.
use mathlib.Core.Path.{◌≡◌, sym, ap, ◌∙◌}
use mathlib.Core.Bool.{cond}
use mathlib.Core.List.{List, ◌++◌}
use Prim.Native.Nat.{ℕ, suc, ◌+◌, ◌*◌, ◌-◌, ◌<◌, ◌≤◌}
use native.Mathlib.Omega.{arith}
use native.Mathlib.Decide.{dec_le}
use native.Mathlib.Nat.{mul-suc, mul-le-mul_left}
use lib.Dec.{eqb}
use lib.ListN.{get_or, length, take, drop, length-append, length-drop, get_or-append}
use lib.Seq.{get_or-take, get_or-drop, get_or-append-add, length-take-le, ext_get_or}
use borrow.Author.Tests.{eq-eqb, ne_eqb}
use Rattle.lists.specs.Field.{overwritten, row_of}
use Rattle.lists.proofs.Tests.{by-eq}

-- what stands at place k, where `new` is written from place a on
over-at : (table new : List ℕ) (a k d : ℕ) → a + length new ≤ length table
    → (k < a → get_or (take a table ++ overwritten new (drop a table)) k d ≡ get_or table k d)
    × ((i : ℕ) → i < length new → get_or (take a table ++ overwritten new (drop a table)) (a + i) d ≡ get_or new i d)
    × ((i : ℕ) → get_or (take a table ++ overwritten new (drop a table)) (a + (length new + i)) d ≡ get_or table (a + (length new + i)) d)
unfolding overwritten
over-at table new a k d l = (
  (λ h. get_or-append (take a table) _ d k (rw long h) ∙ get_or-take a table k d h),
  (λ i h. behind i ∙ get_or-append new _ d i h),
  (λ i. behind (length new + i) ∙ get_or-append-add new _ i d ∙ get_or-drop (length new) (drop a table) i d ∙ get_or-drop a table (length new + i) d),
)
  where
    long : length (take a table) ≡ a
    long = length-take-le a table (omega arith)

    behind : (i : ℕ) → get_or (take a table ++ overwritten new (drop a table)) (a + i) d ≡ get_or (overwritten new (drop a table)) i d
    behind i = ap (λ n. get_or (take a table ++ overwritten new (drop a table)) (n + i) d) (sym long) ∙ get_or-append-add (take a table) (overwritten new (drop a table)) i d

-- row v of a table whose row u is written over
module _ (size u : ℕ) (table new : List ℕ) (fits : size * u + size ≤ length table) (long : length new ≡ size) where
  abbrev pub over : List ℕ
  over = take (size * u) table ++ overwritten new (drop (size * u) table)

  pub length_over : length over ≡ length table
  unfolding overwritten
  length_over =
      let front : length (take (size * u) table) ≡ size * u = length-take-le (size * u) table (omega arith) in
      length-append (take (size * u) table) _ ∙ rw (length-append new (drop (length new) (drop (size * u) table)), length-drop, length-drop) (omega (arith, front, long))

  pub row_written : (v : ℕ) → size * v + size ≤ length table → row_of size over v ≡ cond (eqb v u) new (row_of size table v)
  unfolding row_of
  row_written v lv = by-eq v u
      (λ e. rw (eq-eqb v u e, e) (ext_get_or 0 (take size (drop (size * u) over)) new (row-length u fits ∙ sym long) (λ i h.
      let low : i < size = omega (arith, row-length u fits) in
      get_or-take size (drop (size * u) over) i 0 low ∙ get_or-drop (size * u) over i 0 ∙ (over-at table new (size * u) 0 0 (omega arith)).1 i (omega arith))))
      (λ n. rw (ne_eqb v u n) (ext_get_or 0 (take size (drop (size * v) over)) (take size (drop (size * v) table)) (row-length v lv ∙ sym (length-take-le size (drop (size * v) table) (rw length-drop (omega arith)))) (λ i h.
      let low : i < size = omega (arith, row-length v lv) in
      get_or-take size (drop (size * v) over) i 0 low ∙ get_or-drop (size * v) over i 0 ∙ other v i n low ∙ sym (get_or-take size (drop (size * v) table) i 0 low ∙ get_or-drop (size * v) table i 0))))
    where
      row-length : (v : ℕ) → size * v + size ≤ length table → length (take size (drop (size * v) over)) ≡ size
      row-length v l = length-take-le size (drop (size * v) over) (rw length-drop (omega (arith, length_over)))

      other : (v i : ℕ) → (v ≡ u → ⊥) → i < size → get_or over (size * v + i) 0 ≡ get_or table (size * v + i) 0
      other v i n low = elim (dec_le (suc v) u) [
        | yes h ↦ (let early : size * suc v ≤ size * u = mul-le-mul_left size h in (over-at table new (size * u) (size * v + i) 0 (omega arith)).0 (omega (arith, mul-suc size v)))
        | no h ↦ (
            let late : size * suc u ≤ size * v = mul-le-mul_left size (let z : suc u ≤ v = elim (dec_le (suc u) v) [ yes g ↦ g | no g ↦ absurd (n (omega arith)) ] in z) in
            let far : size * u + (length new + (size * v + i - (size * u + size))) ≡ size * v + i = omega (arith, mul-suc size u) in
            (rw far at ((over-at table new (size * u) 0 0 (omega arith)).2 (size * v + i - (size * u + size)))))
      ]
