-- The records in the making: rows of 12 bytes, one of which is marked or written; and what a text line makes of what is noted.
use mathlib.Core.Path.{◌≡◌, refl, sym, ap, ◌∙◌}
use mathlib.Core.Bool.{true, false, cond, or-false, or-true}
use mathlib.Core.List.{List, ◌++◌, append-nil}
use Prim.Native.Nat.{ℕ, zero, suc, ◌+◌, ◌*◌, ◌-◌, ◌≤◌, ◌<◌}
use native.Mathlib.Omega.{arith}
use native.Mathlib.Decide.{dec_le}
use native.Mathlib.Nat.{mul-suc, mul-le-mul_left}
use lib.Dec.{eqb, ltb}
use lib.ListN.{get_or, length, set, take, drop, replicate, length-drop, length-replicate, get_or-replicate, drop_of_length-le}
use lib.Seq.{take-set-le, take-set-lt, drop-set-lt, drop-set-add, take-add, set-set, ext_get_or}
use borrow.Author.Tests.{ltb-true, lt-ltb, le-ltb, eq-eqb, ne_eqb}
use Rattle.lists.specs.Scan.{any_below, gather}
use Rattle.lists.specs.Field.{bytes16, overwritten, row_of}
use Rattle.lists.proofs.Tests.{by-test, by-eq}
use Rattle.lists.proofs.Field.{lent, length-row, byte-of-part}
use Rattle.lists.proofs.Table.{length_over, row_written}
use Rattle.bench_text.specs.Text.{text_lines}
use Rattle.bench_text.specs.Sentence.{OUTPUT, sentence_at}
use Rattle.bench_text.specs.Bench.{line_count, definition_of, pin_names, marks, mark_of, pin_field, line_record, bench_records}
use Rattle.bench_line.specs.Pins.{record_of}
use Rattle.read_bench.specs.Noted.{noted, Noted, marked, defined}

-- ---- tables
-- row v of a table with byte i of row u set
row-set : (size u i b : ℕ) (table : List ℕ) (v : ℕ) → i < size
    → row_of size (set table (size * u + i) b) v ≡ cond (eqb v u) (set (row_of size table u) i b) (row_of size table v)
unfolding row_of
row-set size u i b table v h = by-eq v u
    (λ e. rw (eq-eqb v u e, e, drop-set-add (size * u) table i b) (take-set-lt size (drop (size * u) table) i b h))
    (λ n. rw (ne_eqb v u n) (elim (dec_le (suc v) u) [
      | yes g ↦ (
          let early : size * suc v ≤ size * u = mul-le-mul_left size g in
          let place : size * v + (size * u + i - size * v) ≡ size * u + i = omega (arith, mul-suc size v) in
          rw (← place, drop-set-add (size * v) table) (take-set-le size (drop (size * v) table) _ b (omega (arith, mul-suc size v))))
      | no g ↦ (
          let late : size * suc u ≤ size * v = mul-le-mul_left size (omega arith) in
          rw (drop-set-lt (size * v) table (size * u + i) b (omega (arith, mul-suc size u))))
    ]))

-- a row of a table that has one number everywhere
row-replicate : (size u n b : ℕ) → size * u + size ≤ n → row_of size (replicate n b) u ≡ replicate size b
unfolding row_of
row-replicate size u n b h =
    let long : length (take size (drop (size * u) (replicate n b))) ≡ size = length-row size u (replicate n b) (rw length-replicate h) in
    ext_get_or 0 (take size (drop (size * u) (replicate n b))) (replicate size b) (long ∙ sym (length-replicate size b)) (λ i l.
    let low : i < size = omega arith in
    sym (byte-of-part (replicate n b) (size * u) size i low) ∙ get_or-replicate n (size * u + i) b 0 (omega arith) ∙ sym (get_or-replicate size i b 0 low))

-- the first rows of a table, end to end
rows-gathered : (size n : ℕ) (table : List ℕ) (row : ℕ → List ℕ) → ((u : ℕ) → u < n → row_of size table u ≡ row u) → take (size * n) table ≡ gather row n
unfolding gather row_of
rows-gathered size zero table row e = let none : size * 0 ≡ 0 = omega arith in rw none
rows-gathered size (suc n) table row e = rw (mul-suc size n, take-add (size * n) size table, rows-gathered size n table row (λ u h. e u (omega arith)), e n (omega arith))

-- the end of a table that code lends, from a place on, and the table with what has come back
abbrev pub lent_part : List ℕ → ℕ → List ℕ
lent_part table place = take (length table - place) (drop place table)

abbrev pub with_end : List ℕ → ℕ → List ℕ → List ℕ
with_end table place end = take place table ++ (end ++ drop (length table - place) (drop place table))

end-written : (table new end : List ℕ) (place : ℕ) → end ≡ overwritten new (lent_part table place) → with_end table place end ≡ take place table ++ overwritten new (drop place table)
end-written table new end place e =
    rw (drop_of_length-le (drop place table) {i = length table - place} (rw length-drop (omega arith)), append-nil end, e, lent table place)

-- ---- one row marked or written
-- line n, marked in place
pub row-marked : (records : List ℕ) (n m : ℕ) → length records ≡ 49152 → n < 4096 → m < 4096 → row_of 12 (set records (12 * n + 2) 1) m ≡ marked records n m
unfolding marked
row-marked records n m size low h = row-set 12 n 2 1 records m (omega arith)

-- line n's record, written in the end that is lent from there on
module _ (records lines end : List ℕ) (n kind pins : ℕ) (size : length records ≡ 49152) (low : n < 4096)
    (e : end ≡ overwritten (record_of kind pins (get_or (lent_part records (12 * n)) 2 0) lines) (lent_part records (12 * n))) where
  -- its 12 bytes, with the mark that it has
  abbrev row : List ℕ
  row = record_of kind pins (get_or (row_of 12 records n) 2 0) lines

  long : length row ≡ 12
  unfolding record_of gather bytes16
  long = refl

  mark : get_or (lent_part records (12 * n)) 2 0 ≡ get_or (row_of 12 records n) 2 0
  unfolding row_of
  mark = sym (byte-of-part records (12 * n) (length records - 12 * n) 2 (omega arith)) ∙ byte-of-part records (12 * n) 12 2 (omega arith)

  written : with_end records (12 * n) end ≡ take (12 * n) records ++ overwritten row (drop (12 * n) records)
  written = end-written records row end (12 * n) (rw mark at e)

  pub length-defined : length (with_end records (12 * n) end) ≡ 49152
  length-defined = ap length written ∙ length_over 12 n records row (omega arith) long ∙ size

  pub row-defined : (m : ℕ) → m < 4096 → row_of 12 (with_end records (12 * n) end) m ≡ defined records n kind pins lines m
  unfolding defined
  row-defined m h = ap (λ x. row_of 12 x m) written ∙ row_written 12 n records row (omega arith) long m (omega arith)

-- ---- line n's record, one text line further
module _ (text : List ℕ) (j n : ℕ) where
  -- whether this text line marks it
  marks-not : ((sentence_at text j).sort ≡ OUTPUT → ⊥) → marks text n j ≡ false
  unfolding marks
  marks-not h = rw (ne_eqb (sentence_at text j).sort OUTPUT h)

  marks-output : (sentence_at text j).sort ≡ OUTPUT → marks text n j ≡ eqb (pin_names text (sentence_at text j) 0) n
  unfolding marks
  marks-output e = rw (eq-eqb (sentence_at text j).sort OUTPUT e)

  -- where it does not, the record stays, and where it does, its mark is set
  noted-unmarked : (above : ℕ) → marks text n j ≡ false → noted text j above n ≡ noted text (suc j) above n
  unfolding noted any_below
  noted-unmarked above e = rw (e, or-false)

  noted-marked : (above : ℕ) → marks text n j ≡ true → set (noted text j above n) 2 1 ≡ noted text (suc j) above n
  unfolding noted any_below
  noted-marked above e = rw (e, or-true, set-set)

  -- the definition of another line
  noted_other : (above : ℕ) → (n ≡ above → ⊥) → noted text j above n ≡ noted text j (above + 1) n
  unfolding noted
  noted_other above other = elim (dec_le (suc n) above) [
    | yes g ↦ rw (lt-ltb n above g, lt-ltb n (above + 1) (omega arith))
    | no g ↦ rw (le-ltb n above (omega arith), le-ltb n (above + 1) (omega arith))
  ]

-- the definition of the line itself, which keeps its mark
module _ (text lines : List ℕ) (j above : ℕ) (here : definition_of text above ≡ sentence_at text j)
    (pins : (i : ℕ) → i < length (sentence_at text j).pins → get_or lines i 0 ≡ pin_names text (sentence_at text j) i) where
  pin-noted : (i : ℕ) → bytes16 (cond (ltb i (length (sentence_at text j).pins)) (get_or lines i 0) 0) ≡ pin_field text (sentence_at text j) i
  unfolding pin_field
  pin-noted i = by-test (ltb i (length (sentence_at text j).pins)) (λ e. rw (e, pins i (ltb-true _ _ e))) (λ e. rw e)

  record-noted : record_of (sentence_at text j).sort (length (sentence_at text j).pins) (get_or (noted text j above above) 2 0) lines ≡ noted text j (above + 1) above
  unfolding noted record_of line_record gather
  record-noted =
      rw (le-ltb above above (omega arith), lt-ltb above (above + 1) (omega arith), here) (rw (pin-noted 0, pin-noted 1, pin-noted 2, pin-noted 3))

-- behind the last text line it is the line's record
noted-last : (text : List ℕ) (n : ℕ) → n < line_count text → noted text (text_lines text) (line_count text) n ≡ line_record text n
unfolding noted line_record mark_of
noted-last text n h = rw (lt-ltb n (line_count text) h)

-- ---- what is noted
-- nothing yet
pub noted-none : (text : List ℕ) → Noted text (replicate 49152 0) 0 0
unfolding noted any_below
noted-none text = record { size = length-replicate {A = ℕ} 49152 0; row = λ m h. row-replicate 12 m 49152 0 (omega arith) ∙ rw (le-ltb m 0 (omega arith)) }

-- a text line that is neither OUTPUT nor a definition
pub noted-passed : (text records : List ℕ) (j above : ℕ) → Noted text records j above → 11 ≤ (sentence_at text j).sort → Noted text records (suc j) above
noted-passed text records j above before other = record {
  size = before.size;
  row = λ m h. before.row m h ∙ noted-unmarked text j m above (marks-not text j m (λ e. omega arith));
}

-- OUTPUT of a line, which is marked
pub noted-output : (text old new : List ℕ) (j above : ℕ) → Noted text old j above → (sentence_at text j).sort ≡ OUTPUT → length new ≡ 49152
    → ((m : ℕ) → m < 4096 → row_of 12 new m ≡ marked old (pin_names text (sentence_at text j) 0) m) → Noted text new (suc j) above
unfolding marked
noted-output text old new j above before output size rows =
    let n = pin_names text (sentence_at text j) 0 in record {
      size = size;
      row = λ m h. rows m h ∙ by-eq m n
          (λ e. rw (eq-eqb m n e, ← e, before.row m h) (noted-marked text j m above (marks-output text j m output ∙ eq-eqb n m (sym e))))
          (λ other. rw (ne_eqb m n other) (before.row m h ∙ noted-unmarked text j m above (marks-output text j m output ∙ ne_eqb n m (λ e. other (sym e)))));
    }

-- the definition of line `above`, which is written
pub noted-defined : (text old new lines : List ℕ) (j above : ℕ) → Noted text old j above → (sentence_at text j).sort ≤ 9 → definition_of text above ≡ sentence_at text j → length new ≡ 49152 → above < 4096
    → ((m : ℕ) → m < 4096 → row_of 12 new m ≡ defined old above (sentence_at text j).sort (length (sentence_at text j).pins) lines m)
    → ((i : ℕ) → i < length (sentence_at text j).pins → get_or lines i 0 ≡ pin_names text (sentence_at text j) i) → Noted text new (suc j) (above + 1)
unfolding defined
noted-defined text old new lines j above before line here size low rows pins =
    let further : (n : ℕ) → noted text j (above + 1) n ≡ noted text (suc j) (above + 1) n = λ n. noted-unmarked text j n (above + 1) (marks-not text j n (λ e. omega arith)) in record {
      size = size;
      row = λ m h. rows m h ∙ by-eq m above
          (λ e. rw (eq-eqb m above e, e, before.row above low) (record-noted text lines j above here pins ∙ further above))
          (λ other. rw (ne_eqb m above other) (before.row m h ∙ noted_other text j m above other ∙ further m));
    }

-- all text lines
pub noted-all : (text records : List ℕ) → Noted text records (text_lines text) (line_count text) → line_count text ≤ 4096
    → (12 * line_count text ≤ length records) × (take (12 * line_count text) records ≡ bench_records text)
unfolding bench_records
noted-all text records all few =
    (omega (arith, all.size), rows-gathered 12 (line_count text) records (λ n. line_record text n) (λ n h. all.row n (omega arith) ∙ noted-last text n h))
