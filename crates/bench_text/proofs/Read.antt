-- The records of a text that is not refused say what the text says.
use mathlib.Core.Path.{◌≡◌, refl, sym, ap, ◌∙◌}
use Prim.Native.Nat.{ℕ, suc, ◌≤◌, ◌<◌}
use mathlib.Core.Bool.{true}
use mathlib.Core.List.{List}
use mathlib.Core.Option.{none}
use mathlib.Mathlib.Data.Option.Basic.{or_else-eq-none}
use lib.ListN.{length}
use lib.Dec.{eqb}
use borrow.Author.Tests.{eqb-true, eq-eqb, lt-ltb}
use native.Mathlib.Omega.{arith}
use Rattle.lists.proofs.Tests.{and_left, and_right, is_true}
use Rattle.lists.proofs.Scan.{any_below-stop}
use Rattle.model.specs.Inputs.{output_mark, pin_count, pin_line, is_output}
use Rattle.model.specs.Refusals.{row1, circuit_rows}
use Rattle.bench_text.specs.Text.{bytes_of, text_lines}
use Rattle.bench_text.specs.Sentence.{OUTPUT, sentence_at}
use Rattle.bench_text.specs.Bench.{line_count, definition_of, name_at, named, line_named, pin_names, text_rows, marks, mark_of, bench_records, text_refusal, part_unless, name_part, name_of}
use Rattle.bench_text.specs.Promises.{pin_name, ProperName, WellRead}
use Rattle.bench_text.proofs.Scans.{any_some}
use Rattle.bench_text.proofs.Laws.{same-eq, line-named}
use Rattle.bench_text.proofs.Sentences.{line-name-proper}
use Rattle.bench_text.proofs.Records.{records-count, mark_true, mark-false, record-kind, record-pin_count, record-mark, used-pin}
use Rattle.bench_text.proofs.Passed.{own_name, pin-within, few-lines}

module _ (text : List ℕ) (e : text_refusal text ≡ none) where
  rows_pass : (text_rows text ≡ none) × (circuit_rows (bench_records text) ≡ none)
  unfolding text_refusal
  rows_pass = (or_else-eq-none (text_rows text) _).0 e

  few : line_count text ≤ 4096
  unfolding circuit_rows
  few = few-lines text ((or_else-eq-none (row1 (bench_records text)) _).0 rows_pass.1).0

  -- ---- names
  name-of : (n : ℕ) → n < line_count text → name_of text n ≡ bytes_of text (name_at text n)
  unfolding name_of name_part part_unless
  name-of n h = rw (e, lt-ltb n (line_count text) h)

  given-name : (n : ℕ) → n < line_count text → name_of text n ≡ bytes_of text (definition_of text n).name
  unfolding name_at
  given-name n h = name-of n h

  -- the line of a name has that name
  name-of-line : (name : List ℕ) → line_named text name < line_count text → name_of text (line_named text name) ≡ name
  unfolding named
  name-of-line name h = name-of (line_named text name) h ∙ same-eq _ name (line-named text name h)

  -- and the line of line n's name is line n
  line-of-name : (n : ℕ) → n < line_count text → line_named text (name_of text n) ≡ n
  line-of-name n h = ap (line_named text) (name-of n h) ∙ own_name text rows_pass.0 n h

  proper : (n : ℕ) → n < line_count text → ProperName (name_of text n)
  proper n h = rw (name-of n h) (line-name-proper text n h)

  -- ---- pins
  pin-name : (n i : ℕ) → n < line_count text → i < pin_count (bench_records text) n
      → name_of text (pin_line (bench_records text) n (suc i)) ≡ pin_name text (definition_of text n) i
  unfolding pin_names
  pin-name n i h l =
      let used : i < length (definition_of text n).pins = omega (arith, record-pin_count text n h) in
      let within : pin_names text (definition_of text n) i < line_count text = pin-within text rows_pass.0 n h i used in
      rw (used-pin text n h (omega (arith, few)) i used) (name-of-line (pin_name text (definition_of text n) i) within)

  -- ---- outputs
  module _ (n : ℕ) (h : n < line_count text) where
    -- a text line with OUTPUT of its name
    abbrev Output : Type 0
    Output = (j : ℕ) × (j < text_lines text) × ((sentence_at text j).sort ≡ OUTPUT) × (pin_name text (sentence_at text j) 0 ≡ name_of text n)

    marked-output : (j : ℕ) → j < text_lines text → marks text n j ≡ true → Output
    unfolding marks pin_names
    marked-output j l e =
        let line : pin_names text (sentence_at text j) 0 ≡ n = eqb-true _ n (and_right (eqb (sentence_at text j).sort OUTPUT) _ e) in
        (j, l, eqb-true _ OUTPUT (and_left _ _ e), sym (name-of-line (pin_name text (sentence_at text j) 0) (rw line h)) ∙ ap (name_of text) line)

    output-marked : (o : Output) → marks text n o.0 ≡ true
    unfolding marks pin_names
    output-marked o = rw (eq-eqb (sentence_at text o.0).sort OUTPUT o.2) (eq-eqb _ n (ap (line_named text) o.3 ∙ line-of-name n h))

    output-told : is_output (bench_records text) n ≡ true → Output
    unfolding is_output
    output-told e =
        let marked : mark_of text n ≡ 1 = sym (record-mark text n h) ∙ eqb-true (output_mark (bench_records text) n) 1 e in
        let found = any_some (λ j. marks text n j) (text_lines text) (is_true _ (λ f. (let z : ⊥ = omega (arith, mark-false text n f) in z))) in
        marked-output found.0 found.1 found.2

    told-output : Output → is_output (bench_records text) n ≡ true
    unfolding is_output
    told-output o =
        let some = any_below-stop (λ j. marks text n j) o.0 (text_lines text) (output-marked o) o.1 in
        eq-eqb (output_mark (bench_records text) n) 1 (record-mark text n h ∙ mark_true text n some)

  -- ---- all of it
  pub well_read-records : WellRead text (line_count text) (bench_records text)
  well_read-records = record {
    accepted = rows_pass.1;
    size = records-count text;
    all = refl;
    kinds = λ m h. record-kind text m h;
    pin_counts = λ m h. record-pin_count text m h;
    given = given-name;
    pins = pin-name;
    outputs = λ m h. (output-told m h, told-output m h);
    names = proper;
    distinct = λ a b k l same. sym (line-of-name a k) ∙ ap (line_named text) same ∙ line-of-name b l;
  }
