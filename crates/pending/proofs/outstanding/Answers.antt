use mathlib.Core.Path.{◌≡◌, refl, ◌∙◌}
use Prim.Native.Nat.{ℕ, suc, ◌*◌, ◌+◌, ◌-◌, ◌<◌}
use lib.ListN.{length, length-set}
use native.Mathlib.Omega.{arith}
use native.Mathlib.Nat.{mul_comm}
use Rattle.pending.proofs.Laws.{row_ends, row-length, from_end, from_more}
use Rattle.pending.proofs.outstanding.Goals as goal

pub loop-u-init : goal.loop-u-init
loop-u-init c =
    (omega arith, mul_comm c.args.units c.args.outputs, omega arith, λ cs ts f r. from_end _ _ _ _ r c.args.table.now c.requires.4)

pub loop-u-preserved : goal.loop-u-preserved
loop-u-preserved c =
    let loop = c.loop-u in
    let inv = loop.invariant in
    let here = c.compare_rows-here.ensures in
    let unit : ℕ = loop.u - 1 in
    let next : loop.u ≡ suc unit = omega (arith, c.loop-u-test.true) in
    let below : unit < c.args.units = omega (arith, c.loop-u-test.true, loop.auto.u) in
    let ends : loop.to ≡ c.args.outputs * unit + c.args.outputs = row_ends _ _ _ _ next inv.1 in
    let room : unit < length loop.table = omega (arith, below, c.requires.4, loop.auto.table, length-set c.args.table.now c.args.units 0) in
    let places : c.compare_rows-here.result.places ≡ c.args.outputs =
    here.0 ∙ row-length _ _ _ _ next inv.1 c.args.free.now (omega (arith, inv.0, c.requires.2)) in (
      omega (arith, places, ends, inv.0),
      refl,
      omega (arith, here.2, inv.2),
      λ cs ts f r. from_more _ _ _ _ r loop.table unit loop.u loop.to loop.later _ next inv.1 below room (inv.3 cs ts f r) here.1,
    )
