use mathlib.Core.Path.{◌≡◌, refl}
use Prim.Native.Nat.{ℕ, ◌+◌, ◌<◌}
use native.Mathlib.Omega.{arith}
use lib.ListN.{get_or, length-set}
use lib.Seq.{get_or-set_same, get_or-set_other}
use Rattle.lists.proofs.Tests.{by-eq}
use Rattle.model.specs.Values.{X, has_conflict}
use mathlib.Core.Bool.{false}
use Rattle.model.specs.Simulation.{pins_seen}
use Rattle.lanes.specs.Lane.{Holds, all_x}
use Rattle.imply.proofs.Gate.{given_none, given_more, given-all, gate-asked, length-seen, seen_at, pin-inside, pin-step}
use Rattle.imply.proofs.down_pins.Goals as goal

pub pin_lanes-requires : goal.pin_lanes-requires
pin_lanes-requires g c = gate-asked c.requires.0 c.args.words.now refl (c.loop-i.i + 1) (omega arith) (omega arith)

pub loop-i-preserved : goal.loop-i-preserved
loop-i-preserved g c =
    let loop = c.loop-i in (
      simp length-set loop.invariant.0,
      λ j below t f vs stuck lane inside.
          by-eq j loop.i
          (λ here. rw (here, get_or-set_same loop.sees loop.i c.pin_lanes.result all_x (omega (arith, loop.invariant.0))) (c.pin_lanes.ensures t f vs stuck lane (rw here at inside)))
          (λ away. rw (get_or-set_other loop.sees loop.i j c.pin_lanes.result all_x away) (loop.invariant.1 j (omega arith) t f vs stuck lane inside)),
    )

pub loop-i-2-init : goal.loop-i-2-init
loop-i-2-init g c = λ t f vs a stuck size three holds follows. given_none _ f _ a _ t _ vs follows

pub give_pin-requires : goal.give_pin-requires
give_pin-requires g c = gate-asked c.requires.0 c.loop-i-2.words c.loop-i-2.auto.words (c.loop-i-2.i + 1) (omega arith) (omega arith)

pub loop-i-2-preserved : goal.loop-i-2-preserved
loop-i-2-preserved g c = λ t f vs a stuck size three holds follows.
    let pre = c.requires in
    let cs = c.args.c.now in
    let n = c.args.n in
    let i = c.loop-i-2.i in
    let sees : (j : ℕ) → j < g.row.P → has_conflict vs ≡ false → Holds t (get_or c.loop-i.sees j all_x) (get_or (pins_seen cs f vs n) j X) =
    λ j h e. rw (seen_at cs f vs n j (omega arith)) (c.loop-i.invariant.1 j (omega arith) t f vs stuck (follows.holds e) (pin-inside pre.0 t f vs a size three (j + 1) (omega arith) (omega arith))) in
    given_more cs f n a (pins_seen cs f vs n) t i _ vs vs
    (pin-step pre.0 t f vs a size three i (omega arith) _ _ _ _ (c.give_pin.ensures t f _ _ stuck)
    (λ e.
    c.implies-x.ensures t _ _ _ (holds e) (sees i (omega arith) e)
    (c.others.ensures t (pins_seen cs f vs n) (omega (arith, length-seen cs f vs n)) (omega (arith, pre.0.circuit.few n pre.0.line)) (λ j h. sees j h e)))
    (c.loop-i-2.invariant t f vs a stuck size three holds follows))

pub returns : goal.returns
returns g c = record {
  lane = λ t f vs a stuck size three holds follows.
      given-all _ f _ a _ t c.loop-i-2.i _ vs (omega arith) (c.loop-i-2.invariant t f vs a stuck size three holds follows);
}
