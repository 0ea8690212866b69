-- The records that Grade writes read back as the verdicts, each from its own 16 bytes.
use mathlib.Core.Path.{◌≡◌, refl, ap, ◌∙◌}
use Prim.Native.Nat.{ℕ, suc, ◌+◌, ◌*◌, ◌/◌, ◌%◌, ◌≤◌, ◌<◌}
use mathlib.Core.Bool.{true, false}
use mathlib.Core.List.{List}
use mathlib.Core.Option.{none, or_else}
use lib.ListN.{get_or, length, take, drop, length-drop}
use lib.Seq.{drop-append-le, take-append-le}
use lib.Dec.{eqb, ltb}
use borrow.Author.Tests.{eq-eqb, le-ltb}
use native.Mathlib.Omega.{arith}
use native.Mathlib.Nat.{mul-le-mul_left}
use Rattle.lists.specs.Field.{word16, bytes16, overwritten}
use Rattle.model.specs.Inputs.{fault_count, fault_at}
use Rattle.model.specs.Refusals.{refuse, row15, row14, grade_refusal, group_refusal, unless_refused}
use Rattle.model.specs.Grade.{Verdict, grade, record_bytes, record_at, grade_bytes, grade_area}
use Rattle.model.specs.Promises.{InBounds, record_part}
use Rattle.lists.proofs.Scan.{length-gather, gather-part}
use Rattle.lists.proofs.Field.{word_back, byte-of-part, word_of_part}

pub length-record : (v : Verdict) → length (record_bytes v) ≡ 16
unfolding record_bytes bytes16
length-record v = refl

-- a record of 16 bytes, read back
record-back : (k : ℕ) (v : Verdict) → InBounds k v → record_at (record_bytes v) 0 ≡ v
unfolding record_at record_bytes bytes16 word16
record-back k v b =
    rw (
      word_back v.time b.time,
      word_back v.line b.line,
      word_back v.differing b.differing,
      word_back v.clashing b.clashing,
      word_back v.surviving b.surviving,
      word_back v.start b.start,
    )

-- a record is read from its own 16 bytes
record_at-part : (area : List ℕ) (j : ℕ) → record_at area j ≡ record_at (record_part area j) 0
unfolding record_at
record_at-part area j =
    let here : 16 * j ≡ 16 * j + 0 = omega arith in
    let first : get_or area (16 * j) 0 ≡ get_or (record_part area j) 0 0 = ap (λ (a : ℕ). get_or area a 0) here ∙ byte-of-part area (16 * j) 16 0 (omega arith) in
    rw (
      first,
      byte-of-part area (16 * j) 16 1 (omega arith),
      word_of_part area (16 * j) 16 2 (omega arith),
      word_of_part area (16 * j) 16 4 (omega arith),
      word_of_part area (16 * j) 16 6 (omega arith),
      word_of_part area (16 * j) 16 8 (omega arith),
      word_of_part area (16 * j) 16 10 (omega arith),
      word_of_part area (16 * j) 16 12 (omega arith),
    )

pub length-grade_bytes : (c t fs p : List ℕ) (k : ℕ) → length (grade_bytes c t fs p k) ≡ 16 * fault_count fs
unfolding grade_bytes
length-grade_bytes c t fs p k = length-gather (λ j. record_bytes (grade c t (fault_at fs j) p k)) 16 (λ j. length-record _) (fault_count fs)

module _ (c t fs p : List ℕ) (k j : ℕ) (h : j < fault_count fs) where
  bytes-part : record_part (grade_bytes c t fs p k) j ≡ record_bytes (grade c t (fault_at fs j) p k)
  unfolding grade_bytes
  bytes-part = gather-part (λ j. record_bytes (grade c t (fault_at fs j) p k)) 16 (λ j. length-record _) (fault_count fs) j h

  -- record j of the bytes is the record of fault j
  pub bytes-record : InBounds k (grade c t (fault_at fs j) p k) → record_at (grade_bytes c t fs p k) j ≡ grade c t (fault_at fs j) p k
  bytes-record b = record_at-part (grade_bytes c t fs p k) j ∙ ap (λ (part : List ℕ). record_at part 0) bytes-part ∙ record-back k _ b

-- Group takes any records that fit the program's area
pub group_accepts : (vs : List ℕ) (n : ℕ) → length vs ≡ 16 * n → 16 * n ≤ 65536 → group_refusal vs 65536 ≡ none
unfolding group_refusal row15 row14 refuse or_else
group_accepts vs n e h =
    let whole : eqb (length vs % 16) 0 ≡ true = eq-eqb (length vs % 16) 0 (omega arith) in
    let short : ltb 524288 (length vs) ≡ false = le-ltb 524288 (length vs) (omega arith) in
    let room : ltb 65536 (2 * (length vs / 16)) ≡ false = le-ltb 65536 (2 * (length vs / 16)) (omega arith) in
    rw (whole, short, room)

module _ (c t fs p : List ℕ) (k work : ℕ) (old : List ℕ) (e : grade_refusal c t fs p k work (length old) ≡ none) where
  -- record j of the area is the record of fault j
  pub area-part : (j : ℕ) → j < fault_count fs → record_part (grade_area c t fs p k work old) j ≡ record_bytes (grade c t (fault_at fs j) p k)
  unfolding grade_area unless_refused overwritten
  area-part j h =
      let up : 16 * suc j ≤ 16 * fault_count fs = mul-le-mul_left 16 h in
      let l : length (grade_bytes c t fs p k) ≡ 16 * fault_count fs = length-grade_bytes c t fs p k in
      let left : 16 ≤ length (drop (16 * j) (grade_bytes c t fs p k)) = rw length-drop (omega arith) in
      rw e
      (ap (take 16) (drop-append-le (16 * j) (grade_bytes c t fs p k) _ (omega arith))
      ∙ take-append-le 16 (drop (16 * j) (grade_bytes c t fs p k)) _ left
      ∙ bytes-part c t fs p k j h)

  pub area-record : (j : ℕ) → j < fault_count fs → InBounds k (grade c t (fault_at fs j) p k)
      → record_at (grade_area c t fs p k work old) j ≡ grade c t (fault_at fs j) p k
  area-record j h b =
      record_at-part (grade_area c t fs p k work old) j
      ∙ ap (λ (part : List ℕ). record_at part 0) (area-part j h)
      ∙ record-back k _ b
