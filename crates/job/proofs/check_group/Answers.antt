use mathlib.Core.Path.{◌∙◌}
use Rattle.std.proofs.lemmas.Result.{err_from_is_err_and}
use Rattle.model.specs.Refusals.{group_refusal, row15, row14}
use Rattle.rules.specs.Check.{refusal_of}
use Rattle.rules.proofs.Laws.{ended_early, went_on}
use borrow.Author.Rules.{rules}
use Rattle.job.proofs.check_group.Goals as goal

pub returns-in_err-refuse : goal.returns-in_err-refuse
unfolding refusal_of group_refusal row15
returns-in_err-refuse c =
    ended_early _ (err_from_is_err_and c.from_residual.result c.from_residual.ensures.1) (c.in_err-refuse.ensures ∙ search rules)

pub returns : goal.returns
unfolding refusal_of group_refusal row15 row14
returns c = went_on (c.in_ok-refuse.ensures ∙ search rules) c.refuse-2.ensures
