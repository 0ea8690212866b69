-- A text that 18 to 20 pass: each line is the first of its name, and each pin names a line that it may name. So its records break none of
-- rows 2 to 5.
use mathlib.Core.Path.{◌≡◌, refl}
use Prim.Native.Nat.{ℕ, suc, ◌%◌, ◌≤◌, ◌<◌}
use mathlib.Core.Bool.{Bool, true, false, cond, not, ◌&&◌, ◌||◌}
use mathlib.Core.List.{List}
use mathlib.Core.Option.{none, or_else}
use mathlib.Mathlib.Data.Option.Basic.{or_else-eq-none}
use lib.ListN.{get_or, length}
use lib.Dec.{eqb, leb, ltb}
use borrow.Author.Tests.{leb-false, ltb-false, le-ltb, le-leb, lt-leb}
use native.Mathlib.Omega.{arith}
use native.Mathlib.Decide.{dec_le}
use native.Mathlib.Numerals.{add-one}
use Rattle.lists.proofs.Tests.{and-fails, or-is-false, or_right_false, cond_cases, clash}
use Rattle.lists.proofs.Scan.{first_answer-none, any_below-false, any_below-none}
use Rattle.model.specs.Inputs.{N, kind, pin_count, output_mark, spare_byte, pin_line, is_gate}
use Rattle.model.specs.Refusals.{refuse, row1, pins_fit, unused_named, stray_bytes, misnamed, misnames, rows2to5}
use Rattle.model.proofs.Accepted.{refuse-none}
use Rattle.bench_text.specs.Text.{bytes_of, text_lines}
use Rattle.bench_text.specs.Sentence.{MALFORMED}
use Rattle.bench_text.specs.Bench.{definitions, line_count, definition_of, name_at, named, line_named, pin_names, reach, defined_again, undefined_pin, sentence_refusal, line_refusal, text_rows, bench_records}
use Rattle.bench_text.proofs.Laws.{definition_within, above_definition, same_self, line-named-lowest}
use Rattle.bench_text.proofs.Sentences.{line-kind, line-pins-fit}
use Rattle.bench_text.proofs.Records.{length-records, records-count, mark-low, record-kind, record-pin_count, record-mark, record-spare, used-pin, unused_pin}

-- ---- what 18 to 20 tell of line n
module _ (text : List ℕ) (pass : text_rows text ≡ none) (n : ℕ) (h : n < line_count text) where
  -- its text line passes, with n definitions above it
  line-passes : sentence_refusal text (definition_of text n) n (get_or (definitions text) n 0) ≡ none
  unfolding text_rows line_refusal definition_of
  line-passes =
      rw (above_definition text n h) at
      (first_answer-none (λ j. line_refusal text j) (text_lines text) (get_or (definitions text) n 0) pass (definition_within text n h))

  not_19_nor_20 : (defined_again text (definition_of text n) n ≡ false) × (undefined_pin text (definition_of text n) n ≡ false)
  unfolding sentence_refusal
  not_19_nor_20 =
      let j : ℕ = get_or (definitions text) n 0 in
      let not-18 = (or_else-eq-none (refuse (eqb (definition_of text n).sort MALFORMED) 18 j) _).0 line-passes in
      let not-19 = (or_else-eq-none (refuse (defined_again text (definition_of text n) n) 19 j) _).0 not-18.1 in
      (refuse-none _ 19 j not-19.0, refuse-none _ 20 j not-19.1)

  -- no earlier line has its name
  first-of-name : n ≤ line_named text (bytes_of text (name_at text n))
  unfolding defined_again name_at
  first-of-name = ltb-false _ n (and-fails _ _ not_19_nor_20.0 (le-leb (definition_of text n).sort 9 (line-kind text n h)))

  -- so the line of its name is itself
  pub own_name : line_named text (bytes_of text (name_at text n)) ≡ n
  unfolding named
  own_name =
      let name : List ℕ = bytes_of text (name_at text n) in
      elim (dec_le (suc n) (line_named text name)) [
        | yes g ↦ clash _ (same_self name) (line-named-lowest text name n g h)
        | no g ↦ omega (arith, first-of-name)
      ]

  -- a pin names a line that it may name
  pub pin-reached : (i : ℕ) → i < length (definition_of text n).pins → pin_names text (definition_of text n) i < reach text (definition_of text n) n
  unfolding undefined_pin
  pin-reached i l = leb-false _ _ (any_below-false _ _ i not_19_nor_20.1 l)

  reach-most : reach text (definition_of text n) n ≤ line_count text
  unfolding reach
  reach-most =
      let k : ℕ = (definition_of text n).sort in
      cond_cases (λ (m : ℕ). m ≤ line_count text) (leb 2 k && leb k 9) n (line_count text) (λ _. omega arith) (λ _. omega arith)

  pub pin-within : (i : ℕ) → i < length (definition_of text n).pins → pin_names text (definition_of text n) i < line_count text
  pin-within i l = omega (arith, pin-reached i l, reach-most)

-- ---- rows 2 to 5 of line n
-- row 1 limits the lines
pub few-lines : (text : List ℕ) → row1 (bench_records text) ≡ none → line_count text ≤ 4096
unfolding row1
few-lines text e =
    let c : List ℕ = bench_records text in
    let long : ltb 49152 (length c) ≡ false = or_right_false (eqb (length c) 0 || not (eqb (length c % 12) 0)) _ (refuse-none _ 1 0 e) in
    omega (arith, ltb-false 49152 (length c) long, length-records text)

and_true : (t : Bool) → t && true ≡ t
and_true true = refl
and_true false = refl

module _ (text : List ℕ) (few : line_count text ≤ 4096) (n : ℕ) (h : n < line_count text) where
  -- row 2
  kind-passes : ltb 9 (kind (bench_records text) n) ≡ false
  kind-passes = rw (record-kind text n h) (le-ltb 9 (definition_of text n).sort (line-kind text n h))

  -- row 3
  pins-pass : pins_fit (kind (bench_records text) n) (pin_count (bench_records text) n) ≡ true
  pins-pass = rw (record-kind text n h, record-pin_count text n h) (line-pins-fit text n h)

  -- row 4
  unused_passes : (i : ℕ) → i < 4 → unused_named (bench_records text) n i ≡ false
  unfolding unused_named
  unused_passes i l =
      let c : List ℕ = bench_records text in
      elim (dec_le (pin_count c n) i) [
        | yes g ↦ (
            let nothing : pin_line c n (suc i) ≡ 0 = unused_pin text n h (omega arith) i l (omega (arith, record-pin_count text n h)) in
            rw (le-leb (pin_count c n) i g, add-one i, nothing))
        | no g ↦ rw (lt-leb (pin_count c n) i (omega arith))
      ]

  bytes-pass : stray_bytes (bench_records text) n ≡ false
  unfolding stray_bytes
  bytes-pass =
      let c : List ℕ = bench_records text in
      let mark : ltb 1 (output_mark c n) ≡ false = le-ltb 1 (output_mark c n) (omega (arith, record-mark text n h, mark-low text n)) in
      let spare : ltb 0 (spare_byte c n) ≡ false = le-ltb 0 (spare_byte c n) (omega (arith, record-spare text n h)) in
      or-is-false _ _ (or-is-false _ _ mark spare) (any_below-none _ 4 unused_passes)

  -- row 5, which asks of a pin what 20 asks
  same-reach : cond (is_gate (bench_records text) n) n (N (bench_records text)) ≡ reach text (definition_of text n) n
  unfolding is_gate reach
  same-reach = rw (record-kind text n h, records-count text, le-leb (definition_of text n).sort 9 (line-kind text n h), and_true)

  names-pass : text_rows text ≡ none → misnames (bench_records text) n ≡ false
  unfolding misnames misnamed
  names-pass pass = any_below-none _ _ (λ i l.
      let used : i < length (definition_of text n).pins = omega (arith, record-pin_count text n h) in
      rw (add-one i, used-pin text n h (omega arith) i used, same-reach) (lt-leb _ _ (pin-reached text pass n h i used)))

  pub line-record-passes : text_rows text ≡ none → rows2to5 (bench_records text) n ≡ none
  unfolding rows2to5 refuse or_else
  line-record-passes pass =
      rw (kind-passes, pins-pass, bytes-pass, names-pass pass)
