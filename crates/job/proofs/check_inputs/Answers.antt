use mathlib.Core.Path.{refl, sym}
use Prim.Native.Nat.{◌<◌}
use Rattle.std.proofs.lemmas.Result.{err_from_is_err_and}
use Rattle.model.specs.Inputs.{L}
use Rattle.model.specs.Accepted.{ValidCircuit}
use Rattle.model.specs.Refusals.{input_rows}
use Rattle.model.proofs.Accepted.{valid_circuit}
use Rattle.circuit.specs.Table.{SizesOf}
use Rattle.rules.specs.Check.{refusal_of}
use Rattle.rules.proofs.Laws.{sized-none, unsized_some, ended, ended_early, went_on}
use Rattle.job.proofs.Laws.{is-ready, is_broken}
use Rattle.job.proofs.check_inputs.Goals.{In_ok-s}
use Rattle.job.proofs.check_inputs.Goals as goal

valid : (c : In_ok-s) → ValidCircuit c.args.c.now
valid c = valid_circuit _ (sized-none c.in_ok-s.ensures refl)

sizes : (c : In_ok-s) → SizesOf c.args.c.now c.in_ok-s.s
sizes c = c.in_ok-s.ensures.sizes _ refl

some-input : (c : In_ok-s) → 0 < c.in_ok-s.s.inputs
some-input c = rw (sizes c).inputs (valid c).some_input

pub returns-in_err-s : goal.returns-in_err-s
unfolding input_rows
returns-in_err-s c =
    let h = err_from_is_err_and c.from_residual.result c.from_residual.ensures.1 in
    is_broken h (ended_early _ h (sym (unsized_some c.in_err-s.ensures refl)))

pub check_units-requires : goal.check_units-requires
check_units-requires c = some-input (goal.at.check_units-requires c).In_ok-s

pub returns-in_err-check_units : goal.returns-in_err-check_units
unfolding refusal_of input_rows
returns-in_err-check_units c =
    let r = c.from_residual-in_err-check_units in
    let h = err_from_is_err_and r.result r.ensures.1 in
    let inputs = sym (sizes (goal.at.returns-in_err-check_units c).In_ok-s).inputs in
    is_broken h (went_on c.in_ok-s.ensures.refusal (ended_early _ h (c.in_err-check_units.ensures _ inputs)))

pub returns-in_err-check_bytes : goal.returns-in_err-check_bytes
unfolding refusal_of input_rows
returns-in_err-check_bytes c =
    let r = c.from_residual-in_err-check_bytes in
    let h = err_from_is_err_and r.result r.ensures.1 in
    let inputs = sym (sizes (goal.at.returns-in_err-check_bytes c).In_ok-s).inputs in
    is_broken h (went_on c.in_ok-s.ensures.refusal (went_on (c.in_ok-check_units.ensures _ inputs) (ended_early _ h c.in_err-check_bytes.ensures)))

pub returns-in_err-check_count : goal.returns-in_err-check_count
unfolding refusal_of input_rows
returns-in_err-check_count c =
    let r = c.from_residual-in_err-check_count in
    let h = err_from_is_err_and r.result r.ensures.1 in
    let inputs = sym (sizes (goal.at.returns-in_err-check_count c).In_ok-s).inputs in
    is_broken h
    (went_on c.in_ok-s.ensures.refusal (went_on (c.in_ok-check_units.ensures _ inputs) (went_on c.in_ok-check_bytes.ensures (ended_early _ h c.in_err-check_count.ensures))))

pub check_each-requires : goal.check_each-requires
check_each-requires c =
    let ok = (goal.at.check_each-requires c).In_ok-s in
    (rw (sizes ok).lines (valid ok).size, (sizes ok).lines)

pub returns-in_err-check_each : goal.returns-in_err-check_each
unfolding refusal_of input_rows
returns-in_err-check_each c =
    let r = c.from_residual-in_err-check_each in
    let h = err_from_is_err_and r.result r.ensures.1 in
    let inputs = sym (sizes (goal.at.returns-in_err-check_each c).In_ok-s).inputs in
    is_broken h
    (went_on c.in_ok-s.ensures.refusal
    (went_on (c.in_ok-check_units.ensures _ inputs) (went_on c.in_ok-check_bytes.ensures (went_on c.in_ok-check_count.ensures (ended h c.in_err-check_each.ensures)))))

pub nonzero_div-result : goal.nonzero_div-result
nonzero_div-result c = some-input (goal.at.nonzero_div-result c).In_ok-s

pub returns : goal.returns
unfolding refusal_of input_rows L
returns c =
    let s = sizes (goal.at.returns c).In_ok-s in
    is-ready
    (went_on c.in_ok-s.ensures.refusal
    (went_on (c.in_ok-check_units.ensures _ (sym s.inputs)) (went_on c.in_ok-check_bytes.ensures (went_on c.in_ok-check_count.ensures c.in_ok-check_each.ensures))))
    (record { lines = s.lines; inputs = s.inputs; flops = s.flops; outputs = s.outputs; units = rw s.inputs })
