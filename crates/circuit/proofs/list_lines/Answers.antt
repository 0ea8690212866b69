use mathlib.Core.Path.{◌≡◌, refl, sym}
use Prim.Native.Nat.{ℕ, ◌<◌}
use mathlib.Core.Bool.{Bool, true, false, true≢false}
use native.Mathlib.Omega.{arith}
use lib.ListN.{length}
use borrow.Author.Tests.{eq-eqb, ne_eqb}
use Rattle.lists.specs.Scan.{count_below}
use Rattle.circuit.specs.Table.{byte_is_one}
use Rattle.circuit.proofs.Laws.{listed-none, listed-room, listed-turn}
use Rattle.circuit.proofs.list_lines.Goals.{In-loop-n, then-c-n-eq1, else-c-n-eq1}
use Rattle.circuit.proofs.list_lines.Goals as goal

-- a line that is listed has its place in the table
place : (c : In-loop-n) → byte_is_one c.args.c.now c.args.byte c.loop-n.n ≡ true → c.loop-n.s < length c.loop-n.table
place c = listed-room _ _ _ _ _ (λ m. byte_is_one c.args.c.now c.args.byte m) c.requires.3 c.loop-n.invariant.counted c.loop-n.auto.table c.loop-n-test.true

pub loop-n-init : goal.loop-n-init
unfolding count_below
loop-n-init c = record { few = omega arith; counted = refl; listed = listed-none _ _ }

pub bounds-table-s : goal.bounds-table-s
unfolding byte_is_one
bounds-table-s c = place (goal.at.bounds-table-s c).In-loop-n (eq-eqb _ _ c.if-c-n-eq1.true)

pub loop-n-preserved : goal.loop-n-preserved
unfolding byte_is_one
loop-n-preserved c =
    let loop = c.loop-n in
    let one : ℕ → Bool = λ m. byte_is_one c.args.c.now c.args.byte m in
    let room = place (goal.at.loop-n-preserved c).In-loop-n in
    elim c.if-c-n-eq1.branch [
      | then-c-n-eq1 w ↦ (
          let here = eq-eqb _ _ w.if-c-n-eq1.true in
          let turn = listed-turn one loop.table _ loop.s _ loop.n true here loop.invariant.counted (λ e. room here) w.table-is w.s-is loop.invariant.listed in
          record { few = omega arith; counted = turn.0; listed = turn.1 })
      | else-c-n-eq1 w ↦ (
          let turn = listed-turn one loop.table _ loop.s _ loop.n false (ne_eqb _ _ w.if-c-n-eq1.false) loop.invariant.counted (λ e. absurd (true≢false (sym e))) w.table-is w.s-is loop.invariant.listed in
          record { few = omega arith; counted = turn.0; listed = turn.1 })
    ]
