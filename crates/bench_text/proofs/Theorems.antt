-- What is promised of bench text holds for every text.
use mathlib.Core.Path.{◌≡◌, ap, ◌∙◌}
use Prim.Native.Nat.{ℕ, ◌*◌}
use mathlib.Core.List.{List}
use mathlib.Core.Option.{none}
use mathlib.Mathlib.Data.Option.Basic.{or_else-eq-none}
use lib.ListN.{length, take, drop}
use lib.Seq.{take_at}
use native.Mathlib.Omega.{arith}
use Rattle.lists.specs.Field.{overwritten}
use Rattle.lists.proofs.Scan.{first_answer-passed}
use Rattle.model.proofs.Accepted.{answered, area-done}
use Rattle.bench_text.specs.Bench.{line_count, bench_records, text_refusal, read_refusal, read_answer, read_area}
use Rattle.bench_text.specs.Promises.{ReadsBench, KeepsRows2to5}
use Rattle.bench_text.proofs.Records.{length-records, records-count}
use Rattle.bench_text.proofs.Passed.{few-lines, line-record-passes}
use Rattle.bench_text.proofs.Read.{well_read-records}

-- the area of a call that is not refused begins with the records
records-first : (text old : List ℕ) (n : ℕ) → read_refusal text (length old) ≡ none → line_count text ≡ n
    → take (12 * n) (read_area text old) ≡ bench_records text
unfolding read_area overwritten
records-first text old n e count =
    ap (take (12 * n)) (area-done (read_refusal text (length old)) _ old e)
    ∙ take_at (bench_records text) (drop (length (bench_records text)) old) (12 * n) (omega (arith, length-records text))

-- the records that `read_bench` writes are accepted, and say what the text says
pub well_read : (text old : List ℕ) → ReadsBench text (read_answer text (length old)) (read_area text old)
unfolding read_answer read_refusal
well_read text old n e =
    let told = answered (read_refusal text (length old)) (line_count text) n e in
    let passed : text_refusal text ≡ none = ((or_else-eq-none (text_refusal text) _).0 told.0).0 in
    rw (records-first text old n told.0 told.1, ← told.1) (well_read-records text passed)

-- no record of a text that 18 to 20 pass breaks rows 2 to 5
pub keeps-rows_2_to_5 : (text : List ℕ) → KeepsRows2to5 text
keeps-rows_2_to_5 text pass size =
    first_answer-passed _ _ (λ n l. line-record-passes text (few-lines text size) n (omega (arith, records-count text)) pass)
