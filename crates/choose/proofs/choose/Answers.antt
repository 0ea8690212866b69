use Rattle.std.proofs.Common.{refl, sym, ap, ◌∙◌}
use Rattle.std.proofs.lemmas.Result.{err_from_is_err_and}
use Rattle.model.specs.Refusals.{done}
use Rattle.model.specs.Choose.{choose_answer, choose_area}
use Rattle.model.proofs.Accepted.{choose_ready, answer-done, area-done, area-refused}
use Rattle.rules.specs.Check.{refusal_of}
use Rattle.job.specs.Job.{answer_of}
use Rattle.job.proofs.Laws.{refuses}
use Rattle.choose.proofs.Laws.{promised}
use Rattle.choose.proofs.choose.Goals as goal

pub returns-in_err-job : goal.returns-in_err-job
unfolding refusal_of choose_answer choose_area
returns-in_err-job c =
    let h = err_from_is_err_and c.from_residual.result c.from_residual.ensures.1 in
    let broken = c.in_err-job.ensures.refusal in
    let answer = refuses _ h broken in
    let area = sym (area-refused _ _ _ _ (sym broken)) in record {
      answers = answer;
      writes = area;
      keeps = sym (area-refused _ _ _ _ (sym broken));
      promise = promised _ _ _ _ _ c.args.res.now _ _ answer area;
    }

pub choose_job-requires : goal.choose_job-requires
unfolding refusal_of
choose_job-requires c = (choose_ready _ _ _ _ _ _ (sym c.in_ok-job.ensures.refusal), c.in_ok-job.ensures.job _ refl)

pub returns : goal.returns
unfolding refusal_of answer_of choose_answer choose_area
returns c =
    let none = sym c.in_ok-job.ensures.refusal in
    let written = c.choose_job.ensures in
    let answer = ap done written.count ∙ sym (answer-done _ _ none) in
    let area = written.area ∙ sym (area-done _ _ _ none) in record {
      answers = answer;
      writes = area;
      keeps = sym (area-done _ _ _ none);
      promise = promised _ _ _ _ _ c.args.res.now _ _ answer area;
    }
