use mathlib.Core.Path.{refl, sym, ◌∙◌}
use Rattle.std.proofs.lemmas.Result.{err_from_is_err_and}
use Rattle.model.specs.Group.{group_answer, group_area}
use Rattle.model.proofs.Accepted.{group_ready, answer-done, area-done, area-refused}
use Rattle.rules.proofs.Laws.{passed_none, broken_some}
use Rattle.job.specs.Job.{answer_of}
use Rattle.job.proofs.Laws.{refuses}
use Rattle.group.proofs.group.Goals as goal

pub returns-in_err-check_group : goal.returns-in_err-check_group
unfolding group_answer group_area
returns-in_err-check_group c =
    let h = err_from_is_err_and c.from_residual.result c.from_residual.ensures.1 in
    let broken = broken_some c.in_err-check_group.ensures refl in
    record { answers = refuses _ h (sym broken); writes = sym (area-refused _ _ _ _ broken) }

pub group_accepted-requires : goal.group_accepted-requires
group_accepted-requires c = group_ready _ _ (passed_none c.in_ok-check_group.ensures refl)

pub returns : goal.returns
unfolding answer_of group_answer group_area
returns c =
    let none = passed_none c.in_ok-check_group.ensures refl in
    record { answers = sym (answer-done _ _ none); writes = c.group_accepted.ensures ∙ sym (area-done _ _ _ none) }
