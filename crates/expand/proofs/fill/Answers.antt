use Rattle.std.proofs.Common.{◌≡◌, ◌<◌, arith}
use Rattle.expand.proofs.Word.{filled_none, filled-turn}
use Rattle.expand.proofs.fill.Goals as goal

pub loop-e-init : goal.loop-e-init
loop-e-init c = filled_none _ _ _ _

pub loop-e-preserved : goal.loop-e-preserved
loop-e-preserved c =
    let old = c.loop-e.invariant in
    let fill = c.fill_at-count.ensures in
    let few : c.loop-e.count < 32 = omega (arith, old.few, c.if-count-eq32.false) in
    filled-turn _ _ _ _ _ _ few old _ _ (omega (arith, few)) fill.0 fill.1

pub returns : goal.returns
returns c =
    let end : c.loop-e.e ≡ c.args.end = omega arith in
    (rw (← end) c.loop-e.invariant, omega (arith, c.requires.2), omega arith)
