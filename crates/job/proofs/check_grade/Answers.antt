use mathlib.Core.Path.{refl, sym}
use native.Mathlib.Omega.{arith}
use Rattle.std.proofs.lemmas.Result.{err_from_is_err_and}
use Rattle.model.specs.Inputs.{fault_count}
use Rattle.model.specs.Accepted.{ValidInputs}
use Rattle.model.specs.Refusals.{grade_refusal}
use Rattle.model.proofs.Accepted.{valid_inputs}
use Rattle.rules.specs.Check.{refusal_of}
use Rattle.rules.proofs.Laws.{ended, ended_early, went_on}
use Rattle.job.specs.Job.{JobOf}
use Rattle.job.proofs.Laws.{is-ready, is_broken, limited}
use Rattle.job.proofs.check_grade.Goals.{In_ok-job}
use Rattle.job.proofs.check_grade.Goals as goal

job : (c : In_ok-job) → JobOf c.args.c.now c.args.t.now c.in_ok-job.job
job c = c.in_ok-job.ensures.job _ refl

valid : (c : In_ok-job) → let s = c.args in ValidInputs s.c.now s.t.now 0 32768 s.fs.now
unfolding refusal_of
valid c = valid_inputs _ _ _ _ _ (sym c.in_ok-job.ensures.refusal)

pub returns-in_err-job : goal.returns-in_err-job
unfolding refusal_of grade_refusal
returns-in_err-job c =
    let h = err_from_is_err_and c.from_residual.result c.from_residual.ensures.1 in
    is_broken h (ended_early _ h c.in_err-job.ensures.refusal)

pub returns-in_err-check_plan : goal.returns-in_err-check_plan
unfolding refusal_of grade_refusal
returns-in_err-check_plan c =
    let r = c.from_residual-in_err-check_plan in
    let h = err_from_is_err_and r.result r.ensures.1 in
    is_broken h (went_on c.in_ok-job.ensures.refusal (ended_early _ h c.in_err-check_plan.ensures))

pub returns-in_err-check_k : goal.returns-in_err-check_k
unfolding refusal_of grade_refusal
returns-in_err-check_k c =
    let r = c.from_residual-in_err-check_k in
    let h = err_from_is_err_and r.result r.ensures.1 in
    is_broken h (went_on c.in_ok-job.ensures.refusal (went_on c.in_ok-check_plan.ensures (ended_early _ h c.in_err-check_k.ensures)))

pub overflow_mul-fs : goal.overflow_mul-fs
unfolding fault_count
overflow_mul-fs c = omega (arith, (valid (goal.at.overflow_mul-fs c).In_ok-job).few)

pub check_areas-requires : goal.check_areas-requires
check_areas-requires c =
    let ok = (goal.at.check_areas-requires c).In_ok-job in
    limited (valid ok) (job ok)

pub returns-in_err-check_areas : goal.returns-in_err-check_areas
unfolding refusal_of grade_refusal fault_count
returns-in_err-check_areas c =
    let r = c.from_residual-in_err-check_areas in
    let h = err_from_is_err_and r.result r.ensures.1 in
    let of = job (goal.at.returns-in_err-check_areas c).In_ok-job in
    is_broken h
    (went_on c.in_ok-job.ensures.refusal (went_on c.in_ok-check_plan.ensures (went_on c.in_ok-check_k.ensures (ended h (c.in_err-check_areas.ensures _ _ of)))))

pub returns : goal.returns
unfolding refusal_of grade_refusal fault_count
returns c =
    let of = job (goal.at.returns c).In_ok-job in
    is-ready
    (went_on c.in_ok-job.ensures.refusal (went_on c.in_ok-check_plan.ensures (went_on c.in_ok-check_k.ensures (c.in_ok-check_areas.ensures _ _ of)))) of
