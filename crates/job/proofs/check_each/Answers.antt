use mathlib.Core.Path.{◌≡◌, refl, sym}
use Prim.Native.Nat.{◌/◌}
use native.Mathlib.Omega.{arith}
use lib.ListN.{length}
use Rattle.std.proofs.lemmas.Result.{err_from_is_err_and}
use Rattle.lists.specs.Scan.{first_answer}
use Rattle.lists.proofs.Scan.{first_answer-turn, first_answer-stop}
use Rattle.model.specs.Inputs.{fault_count}
use Rattle.model.specs.Refusals.{row10}
use Rattle.rules.specs.Check.{refusal_of}
use Rattle.rules.proofs.Laws.{ended}
use Rattle.job.proofs.check_each.Goals as goal

pub loop-j-init : goal.loop-j-init
unfolding first_answer
loop-j-init c = refl

pub returns-in_err-refuse : goal.returns-in_err-refuse
unfolding refusal_of row10 fault_count
returns-in_err-refuse c =
    ended (err_from_is_err_and c.from_residual.result c.from_residual.ensures.1)
    (sym (first_answer-stop _ _ _ _ c.loop-j.invariant (rw (← c.fault_fits.ensures) (sym c.in_err-refuse.ensures)) c.loop-j-test.true))

pub loop-j-preserved : goal.loop-j-preserved
unfolding refusal_of
loop-j-preserved c = first_answer-turn _ _ c.loop-j.invariant (rw (← c.fault_fits.ensures) (sym c.in_ok-refuse.ensures))

pub returns : goal.returns
unfolding refusal_of row10 fault_count
returns c =
    let end : length c.args.fs.now / 4 ≡ c.loop-j.j = omega arith in
    rw end (sym c.loop-j.invariant)
