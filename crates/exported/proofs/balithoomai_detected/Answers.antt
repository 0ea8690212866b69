use mathlib.Core.Path.{◌≡◌, refl}
use mathlib.Core.Option.{none}
use native.Mathlib.Omega.{arith}
use native.Mathlib.Nat.{mul-le-mul}
use Rattle.model.specs.Refusals.{input_rows}
use Rattle.model.proofs.Accepted.{valid_inputs}
use Rattle.job.specs.Job.{JobOf}
use Rattle.job.proofs.Laws.{ready-none, broken_some, response_size}
use Rattle.exported.proofs.Laws.{none-refused, none-short, all-accepted}
use Rattle.exported.proofs.balithoomai_detected.Goals.{In-Ok}
use Rattle.exported.proofs.balithoomai_detected.Goals as goal

-- no row is broken
passed : (c : In-Ok) → let s = c.args in input_rows s.circuit.now s.test.now 0 64 s.faults.now ≡ none
passed c = ready-none c.in-Ok.ensures refl

sizes : (c : In-Ok) → JobOf c.args.circuit.now c.args.test.now c.in-Ok.job
sizes c = c.in-Ok.ensures.job _ refl

pub overflow_mul-job : goal.overflow_mul-job
overflow_mul-job c =
    let here = (goal.at.overflow_mul-job c).In-Ok in
    let valid = valid_inputs _ _ _ _ _ (passed here) in
    omega (arith, response_size (sizes here), mul-le-mul valid.test.most valid.circuit.outputs)

pub returns-then-free-job : goal.returns-then-free-job
returns-then-free-job c = λ j h.
    let here = (goal.at.returns-then-free-job c).In-Ok in
    none-short _ _ _ _ j (passed here) (omega (arith, response_size (sizes here), c.if-free-job.true))

pub detect-requires : goal.detect-requires
detect-requires c =
    let here = (goal.at.detect-requires c).In-Ok in
    (valid_inputs _ _ _ _ _ (passed here), sizes here, omega (arith, response_size (sizes here), c.if-free-job.false))

pub returns-in-Err : goal.returns-in-Err
returns-in-Err c = λ j h. none-refused _ _ _ _ j _ (broken_some c.in-Err.ensures refl)

pub returns-else-free-job : goal.returns-else-free-job
returns-else-free-job c = λ j h.
    let here = (goal.at.returns-else-free-job c).In-Ok in
    all-accepted _ _ _ _ j _ (passed here) (omega (arith, response_size (sizes here), c.if-free-job.false)) (c.detect.ensures j h)
