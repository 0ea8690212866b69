use mathlib.Core.Path.{◌≡◌, refl, sym, ◌∙◌}
use mathlib.Core.Bool.{Bool, true, false, not}
use Prim.Native.Nat.{◌≤◌}
use Rattle.std.proofs.lemmas.Result.{err_from_is_err_and}
use Rattle.model.specs.Refusals.{rows2to5}
use Rattle.model.proofs.Accepted.{few-pins, refuse-none}
use Rattle.lists.proofs.Tests.{is_true, clash}
use Rattle.rules.specs.Check.{refusal_of}
use Rattle.rules.proofs.Laws.{ended_early, went_on}
use borrow.Author.Rules.{rules}
use Rattle.rules.proofs.check_record.Goals as goal

fits : (b : Bool) → not b ≡ false → b ≡ true
fits b e = is_true b (λ w. clash (not b) (rw w) e)

pub returns-in_err-refuse : goal.returns-in_err-refuse
unfolding refusal_of rows2to5
returns-in_err-refuse c =
    rw (← c.field-k.ensures.kind refl)
    (ended_early _ (err_from_is_err_and c.from_residual.result c.from_residual.ensures.1) c.in_err-refuse.ensures)

pub returns-in_err-refuse-2 : goal.returns-in_err-refuse-2
unfolding refusal_of rows2to5
returns-in_err-refuse-2 c =
    let e = c.from_residual-in_err-refuse-2 in
    rw (← c.field-k.ensures.kind refl, ← c.pins_of-pins.ensures.0, ← c.pins_fit.ensures)
    (went_on c.in_ok-refuse.ensures (ended_early _ (err_from_is_err_and e.result e.ensures.1) c.in_err-refuse-2.ensures))

pub returns-in_err-refuse-3 : goal.returns-in_err-refuse-3
unfolding refusal_of rows2to5
returns-in_err-refuse-3 c =
    let e = c.from_residual-in_err-refuse-3 in
    rw (← c.field-k.ensures.kind refl, ← c.pins_of-pins.ensures.0, ← c.pins_fit.ensures, ← c.has_stray_bytes-stray.ensures)
    (went_on c.in_ok-refuse.ensures (went_on c.in_ok-refuse-2.ensures (ended_early _ (err_from_is_err_and e.result e.ensures.1) c.in_err-refuse-3.ensures)))

pub misnames-misnamed-requires : goal.misnames-misnamed-requires
unfolding refusal_of
misnames-misnamed-requires c =
    let fit = sym c.pins_fit.ensures ∙ fits _ (refuse-none _ 3 _ (sym c.in_ok-refuse-2.ensures)) in
    let few : c.pins_of-pins.result ≤ 4 = few-pins _ _ fit in
    search rules

pub returns : goal.returns
unfolding refusal_of rows2to5
returns c =
    rw (← c.field-k.ensures.kind refl, ← c.pins_of-pins.ensures.0, ← c.pins_fit.ensures, ← c.has_stray_bytes-stray.ensures, ← c.misnames-misnamed.ensures)
    (went_on c.in_ok-refuse.ensures (went_on c.in_ok-refuse-2.ensures (went_on c.in_ok-refuse-3.ensures c.refuse-4.ensures)))
