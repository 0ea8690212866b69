-- The records read back: the fields of line n's 12 bytes.
use mathlib.Core.Path.{◌≡◌, refl, ap, ◌∙◌}
use Prim.Native.Nat.{ℕ, suc, ◌+◌, ◌*◌, ◌≤◌, ◌<◌}
use mathlib.Core.Bool.{true, false}
use mathlib.Core.List.{List, [], ◌∷◌, ◌++◌}
use lib.ListN.{get_or, length, take, drop}
use lib.Seq.{get_or-append-add}
use borrow.Author.Tests.{lt-ltb, le-ltb}
use native.Mathlib.Omega.{arith}
use Rattle.lists.specs.Scan.{any_below, gather}
use Rattle.lists.specs.Field.{word16, bytes16}
use Rattle.lists.proofs.Tests.{by-test}
use Rattle.lists.proofs.Scan.{length-gather, gather-part}
use Rattle.lists.proofs.Field.{word_back, byte-of-part, word_of_part}
use Rattle.model.specs.Inputs.{N, kind, pin_count, output_mark, spare_byte, pin_line}
use Rattle.bench_text.specs.Text.{text_lines}
use Rattle.bench_text.specs.Sentence.{Sentence}
use Rattle.bench_text.specs.Bench.{line_count, definition_of, pin_names, marks, mark_of, pin_field, line_record, bench_records}
use Rattle.bench_text.proofs.Laws.{line-named-most}
use Rattle.bench_text.proofs.Sentences.{line-pins-few}

-- a field behind other bytes
word-behind : (front rest : List ℕ) (i : ℕ) → word16 (front ++ rest) (length front + i) ≡ word16 rest i
unfolding word16
word-behind front rest i =
    let next : length front + i + 1 ≡ length front + (i + 1) = omega arith in
    rw (next, get_or-append-add front rest i 0, get_or-append-add front rest (i + 1) 0)

-- field i of fields end to end
word-of-fields : (g : ℕ → List ℕ) (n i : ℕ) → ((j : ℕ) → length (g j) ≡ 2) → i < n → word16 (gather g n) (2 * i) ≡ word16 (g i) 0
word-of-fields g n i each h =
    let here : 2 * i + 0 ≡ 2 * i = omega arith in
    rw (here, gather-part g 2 each n i h) at (word_of_part (gather g n) (2 * i) 2 0 (omega arith))

field_back : (v : ℕ) → v < 65536 → word16 (bytes16 v) 0 ≡ v
unfolding word16 bytes16
field_back v h = word_back v h

-- ---- the records
module _ (text : List ℕ) where
  length-field : (s : Sentence) (i : ℕ) → length (pin_field text s i) ≡ 2
  unfolding pin_field bytes16
  length-field s i = refl

  pub length-record : (n : ℕ) → length (line_record text n) ≡ 12
  unfolding line_record
  length-record n = let s : Sentence = definition_of text n in omega (arith, length-gather (λ i. pin_field text s i) 2 (length-field s) 4)

  pub length-records : length (bench_records text) ≡ 12 * line_count text
  unfolding bench_records
  length-records = length-gather (λ n. line_record text n) 12 length-record (line_count text)

  pub records-count : N (bench_records text) ≡ line_count text
  unfolding N
  records-count = omega (arith, length-records)

  -- a pin names a line or none
  pub pin-most : (s : Sentence) (i : ℕ) → pin_names text s i ≤ line_count text
  unfolding pin_names
  pin-most s i = line-named-most text _

  -- byte 2 is 1 where a text line marks the line
  pub mark_true : (n : ℕ) → any_below (λ j. marks text n j) (text_lines text) ≡ true → mark_of text n ≡ 1
  unfolding mark_of
  mark_true n e = rw e

  pub mark-false : (n : ℕ) → any_below (λ j. marks text n j) (text_lines text) ≡ false → mark_of text n ≡ 0
  unfolding mark_of
  mark-false n e = rw e

  pub mark-low : (n : ℕ) → mark_of text n ≤ 1
  mark-low n = by-test (any_below (λ j. marks text n j) (text_lines text)) (λ e. omega (arith, mark_true n e)) (λ e. omega (arith, mark-false n e))

-- ---- line n's fields
module _ (text : List ℕ) (n : ℕ) (h : n < line_count text) where
  record-part : take 12 (drop (12 * n) (bench_records text)) ≡ line_record text n
  unfolding bench_records
  record-part = gather-part (λ n. line_record text n) 12 (length-record text) (line_count text) n h

  record-byte : (i : ℕ) → i < 12 → get_or (bench_records text) (12 * n + i) 0 ≡ get_or (line_record text n) i 0
  record-byte i l = byte-of-part (bench_records text) (12 * n) 12 i l ∙ ap (λ (part : List ℕ). get_or part i 0) record-part

  pub record-kind : kind (bench_records text) n ≡ (definition_of text n).sort
  unfolding kind line_record
  record-kind = let here : 12 * n + 0 ≡ 12 * n = omega arith in rw here at (record-byte 0 (omega arith))

  pub record-pin_count : pin_count (bench_records text) n ≡ length (definition_of text n).pins
  unfolding pin_count line_record
  record-pin_count = record-byte 1 (omega arith)

  pub record-mark : output_mark (bench_records text) n ≡ mark_of text n
  unfolding output_mark line_record
  record-mark = record-byte 2 (omega arith)

  pub record-spare : spare_byte (bench_records text) n ≡ 0
  unfolding spare_byte line_record
  record-spare = record-byte 3 (omega arith)

  -- the four pins stand behind the four bytes above
  pin-word : (i : ℕ) → i < 4 → pin_line (bench_records text) n (suc i) ≡ word16 (pin_field text (definition_of text n) i) 0
  unfolding pin_line line_record
  pin-word i l =
      let s : Sentence = definition_of text n in
      let place : 12 * n + 2 + 2 * suc i ≡ 12 * n + (4 + 2 * i) = omega arith in
      ap (word16 (bench_records text)) place
      ∙ word_of_part (bench_records text) (12 * n) 12 (4 + 2 * i) (omega arith)
      ∙ ap (λ (part : List ℕ). word16 part (4 + 2 * i)) record-part
      ∙ word-behind (s.sort ∷ length s.pins ∷ mark_of text n ∷ 0 ∷ []) (gather (λ i. pin_field text s i) 4) (2 * i)
      ∙ word-of-fields (λ i. pin_field text s i) 4 i (length-field text s) l

  -- pin i + 1, where it is used and where it is not
  module _ (few : line_count text < 65536) where
    pub used-pin : (i : ℕ) → i < length (definition_of text n).pins → pin_line (bench_records text) n (suc i) ≡ pin_names text (definition_of text n) i
    unfolding pin_field
    used-pin i l =
        pin-word i (omega (arith, line-pins-few text n))
        ∙ rw (lt-ltb i (length (definition_of text n).pins) l) (field_back _ (omega (arith, pin-most text (definition_of text n) i)))

    pub unused_pin : (i : ℕ) → i < 4 → length (definition_of text n).pins ≤ i → pin_line (bench_records text) n (suc i) ≡ 0
    unfolding pin_field
    unused_pin i l u = pin-word i l ∙ rw (le-ltb i (length (definition_of text n).pins) u) (field_back 0 (omega arith))
