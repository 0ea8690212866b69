use mathlib.Core.Path.{◌≡◌, refl, sym, ap, ◌∙◌}
use mathlib.Core.Option.{none}
use native.Mathlib.Omega.{arith}
use native.Mathlib.Nat.{mul-le-mul}
use lib.ListN.{length}
use Rattle.model.specs.Refusals.{done, simulate_refusal}
use Rattle.model.specs.Simulate.{simulate_answer, simulate_area}
use Rattle.model.proofs.Accepted.{simulate_ready, answer-done, answer-refused, area-done, area-refused}
use Rattle.job.specs.Job.{answer_of, JobOf}
use Rattle.job.proofs.Laws.{ready-none, broken_some, response_size}
use Rattle.simulate.proofs.simulate.Goals.{In-Ok}
use Rattle.simulate.proofs.simulate.Goals as goal

-- no row is broken
passed : (c : In-Ok) → let s = c.args in simulate_refusal s.circuit.now s.test.now s.faults.now (length s.work.now) (length s.res.now) ≡ none
passed c = ready-none c.in-Ok.ensures refl

sizes : (c : In-Ok) → JobOf c.args.circuit.now c.args.test.now c.in-Ok.job
sizes c = c.in-Ok.ensures.job _ refl

pub respond-requires : goal.respond-requires
respond-requires c =
    let here = (goal.at.respond-requires c).In-Ok in
    let ready = simulate_ready _ _ _ _ _ (passed here) in
    (ready.inputs, sizes here, ready.result_room)

pub overflow_mul-result : goal.overflow_mul-result
overflow_mul-result c =
    let here = (goal.at.overflow_mul-result c).In-Ok in
    let valid = (simulate_ready _ _ _ _ _ (passed here)).inputs in
    omega (arith, response_size (sizes here), mul-le-mul valid.test.most valid.circuit.outputs)

pub returns-in-Ok : goal.returns-in-Ok
unfolding answer_of simulate_answer simulate_area
returns-in-Ok c =
    let here = (goal.at.returns-in-Ok c).In-Ok in
    let none = passed here in
    record {
      answers = ap done (response_size (sizes here)) ∙ sym (answer-done _ _ none);
      writes = c.respond.ensures ∙ sym (area-done _ _ _ none);
      keeps = refl;
    }

pub returns-in-Err : goal.returns-in-Err
unfolding answer_of simulate_answer simulate_area
returns-in-Err c =
    let broken = broken_some c.in-Err.ensures refl in
    record { answers = sym (answer-refused _ _ _ broken); writes = sym (area-refused _ _ _ _ broken); keeps = refl }
