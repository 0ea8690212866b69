use mathlib.Core.Path.{◌≡◌, refl}
use native.Mathlib.Omega.{arith}
use Rattle.std.proofs.lemmas.Option.{none-some}
use Rattle.best.proofs.Turn.{standing-none, below_none, unit-turn, picked}
use Rattle.best.proofs.best_pair.Goals as goal

pub loop-u-init : goal.loop-u-init
loop-u-init c = (
  record { unit = λ x is. absurd (none-some x is); bit = λ x is. absurd (none-some x is) },
  λ cs ts f pairs es known weights. rw (below_none cs ts f pairs) (standing-none cs ts f),
)

pub loop-u-preserved : goal.loop-u-preserved
loop-u-preserved c =
    let loop = c.loop-u in
    let below = c.loop-u-test.true in (
      c.best_at-found.ensures.inside c.args.units below loop.invariant.0,
      λ cs ts f pairs es known weights.
          unit-turn cs ts f pairs c.args.merits.now c.args.table.now c.args.units c.args.size _ loop.u loop.found _ below es refl known weights c.best_at-found.ensures
          (loop.invariant.1 cs ts f pairs es known weights),
    )

pub returns : goal.returns
returns c =
    let loop = c.loop-u in
    let end : loop.u ≡ c.args.units = omega arith in record {
      inside = loop.invariant.0;
      picked = λ cs ts f pairs es most known weights rest. picked cs ts f pairs c.args.units loop.found most rest (rw end at (loop.invariant.1 cs ts f pairs es known weights));
    }
