-- 16-bit fields read back, fields of a part of an area, an area written from its beginning on, and rows of a table.
use mathlib.Core.Path.{◌≡◌, refl, sym, ap, ◌∙◌}
use Prim.Native.Nat.{ℕ, suc, ◌+◌, ◌*◌, ◌-◌, ◌/◌, ◌%◌, ◌<◌, ◌≤◌}
use mathlib.Core.List.{List, [], ◌∷◌, ◌++◌, append-nil, append_assoc}
use lib.ListN.{get_or, length, set, take, drop, length-append, length-set, length-drop, drop_of_length-le}
use lib.Seq.{get_or-take, get_or-drop, get_or-append-add, set-append_left, take-suc, take-length, take_all, length-take-le, take_at, drop_at, drop-drop, take-append-le, drop-append-le, sets, sets-eq}
use native.Mathlib.Numerals.{add-one}
use native.Mathlib.Omega.{arith}
use native.Mathlib.Nat.{mul-le-mul_left, mul-suc, mul_comm}
use Rattle.lists.specs.Scan.{gather}
use Rattle.lists.specs.Field.{word16, overwritten, row_of, Rows}
use Rattle.lists.proofs.Scan.{length-gather, gather-part, gather-turn}

pub word_back : (n : ℕ) → n < 65536 → n % 256 + 256 * (n / 256 % 256) ≡ n
word_back n h = omega arith

-- a byte, and a field, of the `size` bytes from a place on
module _ (area : List ℕ) (place size i : ℕ) where
  pub byte-of-part : i < size → get_or area (place + i) 0 ≡ get_or (take size (drop place area)) i 0
  byte-of-part h = sym (get_or-take size (drop place area) i 0 h ∙ get_or-drop place area i 0)

pub word_of_part : (area : List ℕ) (place size i : ℕ) → i + 1 < size → word16 area (place + i) ≡ word16 (take size (drop place area)) i
unfolding word16
word_of_part area place size i h =
    let next : place + i + 1 ≡ place + (i + 1) = omega arith in
    rw (byte-of-part area place size i (omega arith), next, byte-of-part area place size (i + 1) h)

-- ---- an area written from its beginning on
pub overwritten-none : (old : List ℕ) → overwritten [] old ≡ old
unfolding overwritten
overwritten-none old = refl

-- byte by byte
pub overwritten-sets : (new old : List ℕ) → length new ≤ length old → sets old 0 new ≡ overwritten new old
unfolding overwritten
overwritten-sets new old h = let start : 0 + length new ≡ length new = omega arith in rw start at (sets-eq new old 0 (omega arith))

-- one byte more
pub overwritten-more : (done old : List ℕ) (v : ℕ) → length done < length old → set (overwritten done old) (length done) v ≡ overwritten (done ++ (v ∷ [])) old
unfolding overwritten
overwritten-more done [] v h = absurd (let z : ⊥ = omega arith in z)
overwritten-more [] (x ∷ old) v h = refl
overwritten-more (a ∷ done) (x ∷ old) v h = ap (◌∷◌ a) (overwritten-more done old v (omega arith))

-- a byte behind what is written
pub overwritten-behind : (done old area : List ℕ) (o d : ℕ) → length done ≡ o → area ≡ overwritten done old → get_or area o d ≡ get_or old o d
unfolding overwritten
overwritten-behind done old area o d e a =
    let start : length done + 0 ≡ o = omega arith in
    ap (λ x. get_or x o d) a ∙ ap (λ i. get_or (done ++ drop (length done) old) i d) (sym start) ∙ get_or-append-add done (drop (length done) old) 0 d ∙ get_or-drop (length done) old 0 d
    ∙ ap (λ i. get_or old i d) start

-- a byte of what is written, written anew
pub overwritten-set : (new old : List ℕ) (i v : ℕ) → i < length new → set (overwritten new old) i v ≡ overwritten (set new i v) old
unfolding overwritten
overwritten-set new old i v h = set-append_left new (drop (length new) old) i v h ∙ ap (λ n. set new i v ++ drop n old) (sym (length-set new i v))

-- a row written byte by byte
module _ (row old : List ℕ) where
  pub row_more : (area area' : List ℕ) (o v d : ℕ) → area' ≡ set area o v → v ≡ get_or row o d → o < length row → o < length old
      → area ≡ overwritten (take o row) old → area' ≡ overwritten (take (o + 1) row) old
  row_more area area' o v d e w h room a =
      let long : length (take o row) ≡ o = length-take-le o row (omega arith) in
      let more : take (o + 1) row ≡ take o row ++ (v ∷ []) = rw (add-one o, w) (take-suc row o d h) in
      e ∙ ap (λ x. set x o v) a ∙ ap (λ x. set (overwritten (take o row) old) x v) (sym long) ∙ overwritten-more (take o row) old v (rw long room) ∙ ap (λ x. overwritten x old) (sym more)

  pub row-all : (area : List ℕ) (o : ℕ) → o ≡ length row → area ≡ overwritten (take o row) old → area ≡ overwritten row old
  row-all area o e a = let all : take o row ≡ row = rw e (take-length row) in rw (← all) a

-- ---- an area whose end, from `place` on, is lent
-- what is lent
pub lent : (area : List ℕ) (place : ℕ) → take (length area - place) (drop place area) ≡ drop place area
lent area place = take_all (length area - place) (drop place area) (rw length-drop (omega arith))

pub length-lent : (area : List ℕ) (place : ℕ) → length (take (length area - place) (drop place area)) ≡ length area - place
length-lent area place = ap length (lent area place) ∙ length-drop place area

-- `new` is written there, behind what is written already
pub written_behind : (done new old area end : List ℕ) (place : ℕ) → area ≡ overwritten done old → length done ≡ place → end ≡ overwritten new (take (length area - place) (drop place area))
    → take place area ++ (end ++ drop (length area - place) (drop place area)) ≡ overwritten (done ++ new) old
unfolding overwritten
written_behind done new old area end place a p e =
    rw (drop_of_length-le (drop place area) {i = length area - place} (rw length-drop (omega arith)), append-nil end, e, lent area place, a)
    (rw (take_at done _ place p, drop_at done _ place p, drop-drop, append_assoc done new, length-append, p))

-- the next of the lists g 0, g 1, .. , each as long as the others, is written behind those below n
pub gathered-behind : (g : ℕ → List ℕ) (size : ℕ) → ((j : ℕ) → length (g j) ≡ size) → (n : ℕ) (old area end : List ℕ) → area ≡ overwritten (gather g n) old
    → end ≡ overwritten (g n) (take (length area - size * n) (drop (size * n) area))
    → take (size * n) area ++ (end ++ drop (length area - size * n) (drop (size * n) area)) ≡ overwritten (gather g (n + 1)) old
gathered-behind g size each n old area end a e =
    rw (gather-turn g n) (written_behind (gather g n) (g n) old area end (size * n) a (length-gather g size each n) e)

-- ---- row u of a table of n rows of one size
pub row_fits : (size u n : ℕ) → u < n → size * u + size ≤ n * size
row_fits size u n h =
    let up : size * suc u ≤ size * n = mul-le-mul_left size h in
    let turned : size * n ≡ n * size = mul_comm size n in
    omega (arith, up, turned, mul-suc size u)

-- the part of the table that code lends for it
pub part-row : (table : List ℕ) (o size u : ℕ) → o ≡ size → take (o * u + o - o * u) (drop (o * u) table) ≡ row_of size table u
unfolding row_of
part-row table o size u e = let whole : o * u + o - o * u ≡ o = omega arith in rw (whole, e)

pub part-long : (size u : ℕ) (table : List ℕ) → size * u + size ≤ length table → size ≤ length (take (size * u + size - size * u) (drop (size * u) table))
part-long size u table l = rw (length-take-le (size * u + size - size * u) (drop (size * u) table) (rw length-drop (omega arith))) (omega arith)

pub row-long : (table : List ℕ) (size u n : ℕ) → u < n → n * size ≤ length table → size ≤ length (take (size * u + size - size * u) (drop (size * u) table))
row-long table size u n h l = part-long size u table (omega (arith, l, row_fits size u n h))

pub part-taken : (table : List ℕ) (size u v : ℕ) → u ≡ v → size * v + size ≤ length table → row_of size table u ≡ take size (take (size * v + size - size * v) (drop (size * v) table))
part-taken table size u v e l =
    let long : length (take (size * v + size - size * v) (drop (size * v) table)) ≡ size * v + size - size * v = length-take-le (size * v + size - size * v) (drop (size * v) table) (rw length-drop (omega arith)) in
    ap (row_of size table) e ∙ sym (take_all size (take (size * v + size - size * v) (drop (size * v) table)) (omega arith) ∙ part-row table size size v refl)

-- a table whose rows are written end to end
pub rows_written : (row : ℕ → List ℕ) (size count : ℕ) (table old : List ℕ) → ((u : ℕ) → length (row u) ≡ size) → table ≡ overwritten (gather row count) old
    → Rows size count table row
unfolding row_of overwritten
rows_written row size count table old each e = record {
  at = λ u h.
      let all : length (gather row count) ≡ size * count = length-gather row size each count in
      let fits : size * u + size ≤ count * size = row_fits size u count h in
      let room : size * u + size ≤ length (gather row count) = omega (arith, mul_comm size count) in
      let left : size ≤ length (drop (size * u) (gather row count)) = rw length-drop (omega arith) in
      ap (λ x. take size (drop (size * u) x)) e
      ∙ ap (take size) (drop-append-le (size * u) (gather row count) _ (omega arith))
      ∙ take-append-le size (drop (size * u) (gather row count)) _ left
      ∙ gather-part row size each count u h;
}

pub length-row : (size u : ℕ) (table : List ℕ) → size * u + size ≤ length table → length (row_of size table u) ≡ size
unfolding row_of
length-row size u table h = length-take-le size (drop (size * u) table) (rw length-drop (omega arith))
