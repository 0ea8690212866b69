use mathlib.Core.Path.{◌≡◌, refl, sym, ap, ◌∙◌}
use Prim.Native.Nat.{◌*◌}
use native.Mathlib.Omega.{arith}
use Rattle.lists.specs.Scan.{gather}
use Rattle.lists.specs.Field.{overwritten}
use Rattle.lists.proofs.Field.{written_behind}
use Rattle.model.specs.Inputs.{L, inputs_at}
use Rattle.model.specs.Simulation.{line_values, state_at}
use Rattle.model.proofs.Runs.{length-line_values}
use Rattle.model.proofs.ThreeValued.{state_at-three}
use Rattle.run.proofs.Laws.{stuck-binary, values-three, state-turn, length-state, length-responses, length-states, responses-turn, states-turn}
use Rattle.run.proofs.write_run.Goals as goal

pub loop-u-init : goal.loop-u-init
unfolding state_at gather overwritten
loop-u-init c = λ f st s l e w. (l, refl, refl)

pub loop-u-preserved : goal.loop-u-preserved
loop-u-preserved c = λ f st s l e w.
    let loop = c.loop-u in
    let cs = c.args.setup.now.circuit.now in
    let ts = c.args.setup.now.test.now in
    let pre = c.requires in
    let u = loop.u in
    let before = loop.invariant f st s l e w in
    let st' = state_at cs ts f st u in
    let vs = line_values cs f (inputs_at cs ts u) st' in
    let lane = c.values_at.ensures _ f st' s before.0 (length-state cs ts f st u e) in
    let long = length-line_values cs f (inputs_at cs ts u) st' in
    let binary = stuck-binary cs _ _ _ f pre.0.circuit pre.0.hit_room s in (
      rw (state-turn cs ts f st u) (c.next_state.ensures _ f vs s lane long),
      rw (responses-turn cs ts f st u)
          (written_behind _ _ _ _ _ _ before.1 (length-responses cs ts f st u ∙ ap (λ o. o * u) (sym pre.0.sizes.outputs)) (c.write_outputs.ensures f vs s lane long (values-three cs ts f st u binary pre.0.test w))),
      rw (states-turn cs ts f st c.args.bits u)
          (written_behind _ _ _ _ _ _ before.2 (length-states cs ts f st c.args.bits u e pre.1)
          (c.write_state.ensures st' before.0 (omega (arith, length-state cs ts f st u e, pre.1)) (state_at-three cs f binary ts st u pre.0.test.bytes w))),
    )

pub returns : goal.returns
returns c = λ f st s l e w.
    let end : c.loop-u.u ≡ L c.args.setup.now.circuit.now c.args.setup.now.test.now = omega (arith, c.loop-u-test.false, c.requires.0.sizes.units) in
    let told = c.loop-u.invariant f st s l e w in
    (rw (← end) told.1, rw (← end) told.2)
