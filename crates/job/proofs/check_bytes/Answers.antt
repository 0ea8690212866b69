use mathlib.Core.Path.{◌≡◌, refl, sym}
use native.Mathlib.Omega.{arith}
use lib.ListN.{length}
use Rattle.std.proofs.lemmas.Result.{err_from_is_err_and}
use Rattle.lists.specs.Scan.{first_answer}
use Rattle.lists.proofs.Scan.{first_answer-turn, first_answer-stop}
use Rattle.model.specs.Refusals.{row8}
use Rattle.rules.specs.Check.{refusal_of}
use Rattle.rules.proofs.Laws.{ended}
use Rattle.job.proofs.check_bytes.Goals as goal

pub loop-b-init : goal.loop-b-init
unfolding first_answer
loop-b-init c = refl

pub returns-in_err-refuse : goal.returns-in_err-refuse
unfolding refusal_of row8
returns-in_err-refuse c =
    ended (err_from_is_err_and c.from_residual.result c.from_residual.ensures.1)
    (sym (first_answer-stop _ _ _ _ c.loop-b.invariant (sym c.in_err-refuse.ensures) c.loop-b-test.true))

pub loop-b-preserved : goal.loop-b-preserved
unfolding refusal_of
loop-b-preserved c = first_answer-turn _ _ c.loop-b.invariant (sym c.in_ok-refuse.ensures)

pub returns : goal.returns
unfolding refusal_of row8
returns c = let end : length c.args.t.now ≡ c.loop-b.b = omega arith in rw end (sym c.loop-b.invariant)
