use mathlib.Core.Path.{◌∙◌}
use native.Mathlib.Omega.{arith}
use Rattle.pending.proofs.Laws.{test-number, number-most, open_none, open_more}
use Rattle.pending.proofs.compare_rows.Goals as goal

pub loop-places-init : goal.loop-places-init
loop-places-init c = (omega arith, omega arith, open_none c.args.free.now c.args.faulty.now)

pub loop-places-preserved : goal.loop-places-preserved
loop-places-preserved c =
    let loop = c.loop-places in (
      omega arith,
      omega (arith, c.from-open_places.ensures, number-most),
      open_more c.args.free.now c.args.faulty.now loop.places loop.open_places _ (omega arith) (omega arith) (c.from-open_places.ensures ∙ test-number _) loop.invariant.2,
    )
