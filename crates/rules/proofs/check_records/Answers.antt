use mathlib.Core.Path.{◌≡◌, refl, sym}
use Rattle.std.proofs.lemmas.Result.{err_from_is_err_and}
use native.Mathlib.Omega.{arith}
use Rattle.lists.specs.Scan.{first_answer}
use Rattle.lists.proofs.Scan.{first_answer-turn, first_answer-stop}
use Rattle.rules.specs.Check.{refusal_of}
use Rattle.rules.proofs.Laws.{ended}
use Rattle.rules.proofs.check_records.Goals as goal

pub loop-n-init : goal.loop-n-init
unfolding first_answer
loop-n-init c = refl

pub returns-in_err-check_record : goal.returns-in_err-check_record
unfolding refusal_of
returns-in_err-check_record c =
    ended (err_from_is_err_and c.from_residual.result c.from_residual.ensures.1)
    (sym (first_answer-stop _ _ _ _ c.loop-n.invariant (sym c.in_err-check_record.ensures) c.loop-n-test.true))

pub loop-n-preserved : goal.loop-n-preserved
unfolding refusal_of
loop-n-preserved c = first_answer-turn _ _ c.loop-n.invariant (sym c.in_ok-check_record.ensures)

pub returns : goal.returns
unfolding refusal_of
returns c = let end : c.args.lines ≡ c.loop-n.n = omega arith in rw end (sym c.loop-n.invariant)
