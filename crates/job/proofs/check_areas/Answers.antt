use native.Mathlib.Omega.{arith}
use Rattle.std.proofs.lemmas.Result.{err_from_is_err_and}
use Rattle.model.specs.Refusals.{row13, row14, work_bytes}
use Rattle.rules.specs.Check.{refusal_of}
use Rattle.rules.proofs.Laws.{ended_early, went_on}
use Rattle.job.proofs.Laws.{area-limit}
use Rattle.job.proofs.check_areas.Goals as goal

pub overflow_mul-need-4 : goal.overflow_mul-need-4
overflow_mul-need-4 c = omega (arith, area-limit c.requires)

pub overflow_add-need-3 : goal.overflow_add-need-3
overflow_add-need-3 c = omega (arith, area-limit c.requires)

pub returns-in_err-refuse : goal.returns-in_err-refuse
unfolding refusal_of row13 work_bytes
returns-in_err-refuse c = λ cs ts j.
    rw (← j.lines, ← j.units, ← j.outputs, ← j.flops)
    (ended_early _ (err_from_is_err_and c.from_residual.result c.from_residual.ensures.1) c.in_err-refuse.ensures)

pub returns : goal.returns
unfolding refusal_of row13 row14 work_bytes
returns c = λ cs ts j. rw (← j.lines, ← j.units, ← j.outputs, ← j.flops) (went_on c.in_ok-refuse.ensures c.refuse-2.ensures)
