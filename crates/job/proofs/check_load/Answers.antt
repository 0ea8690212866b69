use mathlib.Core.Path.{◌∙◌}
use Rattle.std.proofs.lemmas.Result.{err_from_is_err_and}
use Rattle.model.specs.Refusals.{row16, row17}
use Rattle.rules.specs.Check.{refusal_of}
use Rattle.rules.proofs.Laws.{ended_early, went_on}
use borrow.Author.Rules.{rules}
use Rattle.job.proofs.check_load.Goals as goal

pub returns-in_err-refuse : goal.returns-in_err-refuse
unfolding refusal_of row16
returns-in_err-refuse c =
    ended_early _ (err_from_is_err_and c.from_residual.result c.from_residual.ensures.1) c.in_err-refuse.ensures

pub returns : goal.returns
unfolding refusal_of row16 row17
returns c = went_on c.in_ok-refuse.ensures (c.refuse-2.ensures ∙ search rules)
