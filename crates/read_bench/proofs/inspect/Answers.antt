use Rattle.std.proofs.Common.{◌≡◌, ◌*◌, ◌≤◌, length, take, refl, sym, ap, ◌∙◌, arith}
use Rattle.std.proofs.lemmas.Result.{err_from_is_err_and}
use borrow.Author.Tests.{ltb-false}
use lib.Seq.{length-take-le}
use Rattle.lists.proofs.Scan.{else_found}
use Rattle.model.specs.Refusals.{circuit_rows}
use Rattle.model.proofs.Accepted.{refuse-none}
use Rattle.bench_text.specs.Bench.{line_count, text_refusal, bench_records}
use Rattle.rules.specs.Check.{refusal_of}
use Rattle.rules.proofs.Laws.{went_on}
use Rattle.read_bench.proofs.Rows.{noted-none, noted-all}
use Rattle.read_bench.proofs.Found.{many-lines, found-refused, found-lines, held_as}
use Rattle.read_bench.proofs.inspect.Goals.{In_ok-refuse}
use Rattle.read_bench.proofs.inspect.Goals as goal

pub check_lines-requires : goal.check_lines-requires
check_lines-requires c = (c.collect-known.ensures, rw c.requires.1 (noted-none c.args.text.now))

pub returns-in_err-check_lines : goal.returns-in_err-check_lines
unfolding refusal_of text_refusal
returns-in_err-check_lines c =
    let h = err_from_is_err_and c.from_residual.result c.from_residual.ensures.1 in
    found-refused h (sym (else_found _ _ _ (sym c.in_err-check_lines.ensures.refusal)))

pub returns-in_err-refuse : goal.returns-in_err-refuse
unfolding refusal_of text_refusal
returns-in_err-refuse c =
    let r = c.from_residual-in_err-refuse in
    let h = err_from_is_err_and r.result r.ensures.1 in
    found-refused h (went_on c.in_ok-check_lines.ensures.refusal (many-lines c.args.text.now (rw (← c.collect-known.ensures.lines) c.in_err-refuse.ensures)))

-- there is room for all lines
fits : (c : In_ok-refuse) → c.collect-known.result.lines ≤ 4096
unfolding refusal_of
fits c = ltb-false 4096 _ (refuse-none _ 1 0 (sym c.in_ok-refuse.ensures))

-- and the records are the text's
written : (c : In_ok-refuse) → let text = c.args.text.now in let records = c.check_lines.new.records in
    (12 * line_count text ≤ length records) × (take (12 * line_count text) records ≡ bench_records text)
unfolding refusal_of
written c =
    let few : line_count c.args.text.now ≤ 4096 = rw (← c.collect-known.ensures.lines) (fits c) in
    noted-all c.args.text.now _ (c.in_ok-check_lines.ensures.writes.all refl few) few

-- which are checked
rows : (c : In_ok-refuse) → circuit_rows (take (12 * c.collect-known.result.lines) c.check_lines.new.records) ≡ circuit_rows (bench_records c.args.text.now)
rows c = ap (λ n. circuit_rows (take (12 * n) c.check_lines.new.records)) c.collect-known.ensures.lines ∙ ap circuit_rows (written c).1

pub overflow_mul-size : goal.overflow_mul-size
overflow_mul-size c = omega (arith, fits (goal.at.overflow_mul-size c).In_ok-refuse)

pub slice_bounds-check_circuit-end : goal.slice_bounds-check_circuit-end
slice_bounds-check_circuit-end c = omega (arith, c.collect-known.ensures.lines, (written (goal.at.slice_bounds-check_circuit-end c).In_ok-refuse).0)

pub slice_bounds-check_circuit-end-2 : goal.slice_bounds-check_circuit-end-2
slice_bounds-check_circuit-end-2 c =
    sym (length-take-le _ _ (omega (arith, c.collect-known.ensures.lines, (written (goal.at.slice_bounds-check_circuit-end-2 c).In_ok-refuse).0)))

pub returns-in_err-check_circuit : goal.returns-in_err-check_circuit
unfolding refusal_of text_refusal
returns-in_err-check_circuit c =
    let r = c.from_residual-in_err-check_circuit in
    let h = err_from_is_err_and r.result r.ensures.1 in
    found-refused h (went_on c.in_ok-check_lines.ensures.refusal (c.in_err-check_circuit.ensures.refusal ∙ rows (goal.at.returns-in_err-check_circuit c).In_ok-refuse))

pub returns : goal.returns
unfolding refusal_of text_refusal
returns c =
    let d = (goal.at.returns c).In_ok-refuse in
    let collected = c.collect-known.ensures in
    found-lines collected.lines (went_on c.in_ok-check_lines.ensures.refusal (c.in_ok-check_circuit.ensures.refusal ∙ rows d)) (held_as _ _ _ _ _ (sym (collected.all (fits d))) collected.held) (written d)
