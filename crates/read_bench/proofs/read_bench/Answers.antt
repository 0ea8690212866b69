use Rattle.std.proofs.Common.{◌≡◌, ℕ, ◌*◌, ◌≤◌, List, ◌++◌, length, take, drop, refl, sym, ap, ◌∙◌, arith}
use Rattle.std.proofs.Math.Option.{none, some}
use Rattle.std.proofs.lemmas.Result.{err_from_is_err_and}
use Rattle.std.specs.Prelude.{Result}
use lib.Seq.{length-take-le}
use borrow.Author.Tests.{ltb-false}
use Rattle.lists.specs.Field.{overwritten}
use Rattle.lists.proofs.Scan.{else_found}
use Rattle.model.specs.Refusals.{Answer, done, answer, row14}
use Rattle.model.proofs.Accepted.{refuse-none, area-done, area-refused}
use Rattle.bench_text.specs.Bench.{line_count, bench_records, read_refusal, read_answer, read_area}
use Rattle.bench_text.specs.Promises.{ReadsBench}
use Rattle.bench_text.proofs.Records.{length-records}
use Rattle.bench_text.proofs.Theorems.{well_read}
use Rattle.rules.specs.declared.Refusal.{Refusal}
use Rattle.rules.specs.Check.{number_of, refusal_of}
use Rattle.rules.proofs.Laws.{HandsOn, went_on}
use Rattle.job.specs.Job.{answer_of}
use Rattle.job.proofs.Laws.{refuses}
use Rattle.lookup.proofs.Laws.{none-held}
use Rattle.read_bench.proofs.Found.{text-refused, text-accepted}
use Rattle.read_bench.proofs.read_bench.Goals.{In_ok-count, In_ok-refuse}
use Rattle.read_bench.proofs.read_bench.Goals as goal

-- the promise, of an answer and an area that are the definitions'
promised : (text old : List ℕ) (answer : Answer) (new : List ℕ) → answer ≡ read_answer text (length old) → new ≡ read_area text old → ReadsBench text answer new
promised text old answer new same written = rw (same, written) (well_read text old)

-- a refusal keeps the area
away : (text old : List ℕ) {r : Result ℕ Refusal} {e : Refusal} → HandsOn r e → some (number_of e.rule, e.at) ≡ read_refusal text (length old)
    → (answer_of r ≡ read_answer text (length old)) × (old ≡ read_area text old) × ReadsBench text (answer_of r) old
unfolding read_answer read_area
away text old h broken =
    let answer = refuses _ h broken in
    let area = sym (area-refused _ _ _ _ (sym broken)) in
    (answer, area, promised text old _ _ answer area)

-- what was copied is the records over the beginning of the area
copied : (text old records front : List ℕ) (n : ℕ) → line_count text ≡ n → none ≡ read_refusal text (length old) → records ≡ bench_records text → front ≡ records → let new = front ++ drop (12 * n) old in
    (done n ≡ read_answer text (length old)) × (new ≡ read_area text old) × ReadsBench text (done n) new
unfolding read_answer read_area overwritten answer
copied text old records front n all ready same copy =
    let size : 12 * n ≡ length (bench_records text) = omega (arith, length-records text, all) in
    let answer : done n ≡ read_answer text (length old) = rw (← ready, all) refl in
    let area : front ++ drop (12 * n) old ≡ read_area text old =
    ap (λ k. front ++ drop k old) size ∙ ap (λ rs. rs ++ drop (length (bench_records text)) old) (copy ∙ same) ∙ sym (area-done _ _ _ (sym ready)) in
    (answer, area, promised text old _ _ answer area)

pub inspect-requires : goal.inspect-requires
inspect-requires c = (none-held _, refl)

pub returns-in_err-count : goal.returns-in_err-count
unfolding read_refusal
returns-in_err-count c =
    let h = err_from_is_err_and c.from_residual.result c.from_residual.ensures.1 in
    let all = away _ _ h (sym (else_found _ _ _ (text-refused c.in_err-count.ensures))) in
    record { answers = all.0; writes = all.1; promise = all.2 }

-- the records are held
written : (c : In_ok-count) → (12 * c.in_ok-count.count ≤ length c.inspect.new.records) × (take (12 * c.in_ok-count.count) c.inspect.new.records ≡ bench_records c.args.text.now)
unfolding answer_of
written c = c.in_ok-count.ensures.written _ refl

pub overflow_mul-size : goal.overflow_mul-size
unfolding answer_of
overflow_mul-size c = omega (arith, (c.in_ok-count.ensures.held _ refl).few)

pub returns-in_err-refuse : goal.returns-in_err-refuse
unfolding refusal_of read_refusal row14
returns-in_err-refuse c =
    let r = c.from_residual-in_err-refuse in
    let is = text-accepted c.in_ok-count.ensures in
    let all = away _ _ (err_from_is_err_and r.result r.ensures.1) (went_on (sym is.0) (rw is.1 c.in_err-refuse.ensures)) in
    record { answers = all.0; writes = all.1; promise = all.2 }

-- the area has room for them
room : (c : In_ok-refuse) → 12 * c.in_ok-count.count ≤ length c.args.res.now
unfolding refusal_of
room c = ltb-false _ _ (refuse-none _ 14 0 (sym c.in_ok-refuse.ensures))

pub slice_bounds-copy_from_slice-end : goal.slice_bounds-copy_from_slice-end
slice_bounds-copy_from_slice-end c = room (goal.at.slice_bounds-copy_from_slice-end c).In_ok-refuse

pub slice_bounds-copy_from_slice-end-2 : goal.slice_bounds-copy_from_slice-end-2
slice_bounds-copy_from_slice-end-2 c = sym (length-take-le _ _ (room (goal.at.slice_bounds-copy_from_slice-end-2 c).In_ok-refuse))

pub slice_bounds-records-end : goal.slice_bounds-records-end
slice_bounds-records-end c = (written (goal.at.slice_bounds-records-end c).In_ok-count).0

pub slice_bounds-copy_from_slice-end-3 : goal.slice_bounds-copy_from_slice-end-3
slice_bounds-copy_from_slice-end-3 c = sym (length-take-le _ _ (written (goal.at.slice_bounds-copy_from_slice-end-3 c).In_ok-count).0)

pub copy_from_slice-requires : goal.copy_from_slice-requires
copy_from_slice-requires c =
    length-take-le _ _ (room (goal.at.copy_from_slice-requires c).In_ok-refuse) ∙ sym (length-take-le _ _ (written (goal.at.copy_from_slice-requires c).In_ok-count).0)

pub returns : goal.returns
unfolding refusal_of answer_of read_refusal row14
returns c =
    let is = text-accepted c.in_ok-count.ensures in
    let all = copied c.args.text.now c.args.res.now _ _ _ is.1 (went_on (sym is.0) (rw is.1 c.in_ok-refuse.ensures)) (written (goal.at.returns c).In_ok-count).1 c.copy_from_slice.ensures.after in
    record { answers = all.0; writes = all.1; promise = all.2 }
