use mathlib.Core.Path.{◌≡◌, refl, ◌∙◌}
use native.Mathlib.Omega.{arith}
use Rattle.model.specs.Choose.{size}
use Rattle.rows.proofs.Turns.{test-number, number-most, size-more}
use Rattle.rows.proofs.specified.Goals as goal

pub loop-s-init : goal.loop-s-init
unfolding size
loop-s-init c = (omega arith, refl)

pub loop-s-preserved : goal.loop-s-preserved
loop-s-preserved c =
    let loop = c.loop-s in
    (omega (arith, c.from-found.ensures, number-most), size-more c.args.row.now loop.s loop.found _ (omega arith) (c.from-found.ensures ∙ test-number _) loop.invariant.1)

pub returns : goal.returns
returns c =
    let loop = c.loop-s in
    let end : loop.s ≡ c.args.count = omega arith in
    (rw (← end) loop.invariant.1, omega arith)
