use Rattle.std.proofs.Common.{◌≡◌, ℕ, length, refl, sym, ◌∙◌}
use lib.ListN.{replicate, length-replicate}
use Rattle.std.proofs.lemmas.Result.{err_from_is_err_and}
use Rattle.model.specs.Inputs.{fault_count}
use Rattle.model.specs.Accepted.{GradeReady}
use Rattle.model.specs.Grade.{grade_answer, grade_area}
use Rattle.model.proofs.Accepted.{grade_ready, answer-done, area-done, area-refused}
use Rattle.rules.specs.Check.{refusal_of}
use Rattle.job.specs.Job.{answer_of}
use Rattle.job.proofs.Laws.{refuses}
use Rattle.grade.proofs.Laws.{row_room}
use Rattle.grade.proofs.grade_in.Goals as goal

pub returns-in_err-job : goal.returns-in_err-job
unfolding refusal_of grade_answer grade_area
returns-in_err-job g c =
    let h = err_from_is_err_and c.from_residual.result c.from_residual.ensures.1 in
    let broken = c.in_err-job.ensures.refusal in
    record { answers = refuses _ h broken; writes = sym (area-refused _ _ _ _ (sym broken)); keeps = sym (area-refused _ _ _ _ (sym broken)) }

pub grade_job-requires : goal.grade_job-requires
unfolding refusal_of
grade_job-requires g c =
    let none = sym c.in_ok-job.ensures.refusal in
    let a = c.args in
    let ready : GradeReady a.circuit.now a.test.now a.faults.now a.plan.now a.k (length a.work.now) (length a.res.now) = grade_ready _ _ _ _ _ _ _ none in
    let long : length {A = ℕ} (replicate g.row.TABLE 0) ≡ g.row.TABLE = length-replicate g.row.TABLE 0 in
    let room = row_room _ ready (rw long c.requires.0) in
    (ready, c.in_ok-job.ensures.job _ refl, room, room)

pub returns : goal.returns
unfolding refusal_of answer_of grade_answer grade_area fault_count
returns g c =
    let none = sym c.in_ok-job.ensures.refusal in
    record { answers = sym (answer-done _ _ none); writes = c.grade_job.ensures ∙ sym (area-done _ _ _ none); keeps = sym (area-done _ _ _ none) }
