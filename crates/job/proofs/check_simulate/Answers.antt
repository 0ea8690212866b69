use mathlib.Core.Path.{refl, sym}
use native.Mathlib.Nat.{mul-le-mul}
use native.Mathlib.Omega.{arith}
use Rattle.std.proofs.lemmas.Result.{err_from_is_err_and}
use Rattle.model.specs.Refusals.{simulate_refusal}
use Rattle.rules.specs.Check.{refusal_of}
use Rattle.rules.proofs.Laws.{ended, ended_early, went_on}
use Rattle.job.specs.Job.{JobOf, Limited}
use Rattle.job.proofs.Laws.{is-ready, is_broken, ready_limits}
use Rattle.job.proofs.check_simulate.Goals.{In_ok-job}
use Rattle.job.proofs.check_simulate.Goals as goal

job : (c : In_ok-job) → JobOf c.args.c.now c.args.t.now c.in_ok-job.job
job c = c.in_ok-job.ensures.job _ refl

limits : (c : In_ok-job) → Limited c.in_ok-job.job
limits c = ready_limits _ 0 1 c.in_ok-job.ensures refl

pub returns-in_err-job : goal.returns-in_err-job
unfolding refusal_of simulate_refusal
returns-in_err-job c =
    let h = err_from_is_err_and c.from_residual.result c.from_residual.ensures.1 in
    is_broken h (ended_early _ h c.in_err-job.ensures.refusal)

pub overflow_mul-job : goal.overflow_mul-job
overflow_mul-job c =
    let l = limits (goal.at.overflow_mul-job c).In_ok-job in
    omega (arith, mul-le-mul l.units l.outputs)

pub check_areas-requires : goal.check_areas-requires
check_areas-requires c = limits (goal.at.check_areas-requires c).In_ok-job

pub returns-in_err-check_areas : goal.returns-in_err-check_areas
unfolding refusal_of simulate_refusal
returns-in_err-check_areas c =
    let r = c.from_residual-in_err-check_areas in
    let h = err_from_is_err_and r.result r.ensures.1 in
    let of = job (goal.at.returns-in_err-check_areas c).In_ok-job in
    is_broken h (went_on c.in_ok-job.ensures.refusal (rw (← of.units, ← of.outputs) (ended h (c.in_err-check_areas.ensures _ _ of))))

pub returns : goal.returns
unfolding refusal_of simulate_refusal
returns c =
    let of = job (goal.at.returns c).In_ok-job in
    is-ready (went_on c.in_ok-job.ensures.refusal (rw (← of.units, ← of.outputs) (c.in_ok-check_areas.ensures _ _ of))) of
