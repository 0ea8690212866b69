use mathlib.Core.List.{List}
use Prim.Native.Nat.{ℕ, ◌+◌, ◌*◌, ◌<◌, ◌≤◌}
use native.Mathlib.Omega.{arith}
use lib.ListN.{length}
use Rattle.lists.specs.Field.{Rows}
use Rattle.lists.proofs.Field.{row_fits}
use Rattle.model.specs.Inputs.{F, O, L, Fault}
use Rattle.model.specs.Simulation.{free_outputs}
use Rattle.unit.specs.Unit.{Stuck}
use Rattle.run.proofs.Laws.{stuck-binary}
use Rattle.sequences.specs.Ends.{Lists}
use Rattle.sequences.proofs.Lists.{length-states, length_sequence}
use Rattle.sequences.proofs.Units.{LaneAt, lane-starts, lane-turn, all-over, last-unit}
use Rattle.sequences.proofs.end_block.Goals.{After-turn-ends, Start}
use Rattle.sequences.proofs.end_block.Goals as goal

-- the rows of the state list
list-room : (s : Start) (u : ℕ) → u < L s.args.setup.now.circuit.now s.args.setup.now.test.now → F s.args.setup.now.circuit.now * u + F s.args.setup.now.circuit.now ≤ length s.args.list.now
list-room s u h = omega (arith, s.requires.2, row_fits (F s.args.setup.now.circuit.now) u (L s.args.setup.now.circuit.now s.args.setup.now.test.now) h)

lanes-turn : (c : After-turn-ends) → (lane : ℕ) (f : Fault) (pairs : List (ℕ × ℕ)) → Stuck lane c.args.given.now.hits.now c.args.given.now.masks.now f → Rows (O c.args.setup.now.circuit.now) (L c.args.setup.now.circuit.now c.args.setup.now.test.now) c.args.free.now (free_outputs c.args.setup.now.circuit.now c.args.setup.now.test.now)
    → Lists c.args.setup.now.circuit.now c.args.setup.now.test.now f pairs c.args.m c.args.list.now c.args.times.now c.args.extras.now
    → LaneAt c.args.setup.now.circuit.now c.args.setup.now.test.now f pairs (c.args.base + lane) (c.loop-u.u + 1) lane c.args.wanted c.enter_unit-conflicts.new.state c.turn-ends.result
lanes-turn c lane f pairs s free lists =
    let loop = c.loop-u in
    let run = c.requires.0 in
    let cs = c.args.setup.now.circuit.now in
    let ts = c.args.setup.now.test.now in
    let below : loop.u < L cs ts = omega (arith, c.loop-u-test.true, run.sizes.units) in
    lane-turn cs ts f pairs (c.args.base + lane) lane c.args.wanted loop.u _ _ _ _ _ _ _ _ below (free.at loop.u below) (stuck-binary cs lane _ _ f run.circuit run.hit_room s) run.test
    (λ st l e. c.pass_unit-opposing.ensures.lane lane f st s l e)
    (λ vs long clear l. c.enter_unit-conflicts.ensures.lane cs ts f pairs lane vs run.sizes.flops run.sizes.units lists s.lane long clear l)
    (c.turn-ends.ensures lane) (loop.invariant lane f pairs s free lists)

pub loop-u-init : goal.loop-u-init
loop-u-init c =
    let cs = c.args.setup.now.circuit.now in
    let ts = c.args.setup.now.test.now in
    λ lane f pairs s free lists.
    let some = c.requires.0.test.some in
    let size = length-states cs ts f _ 0 lists.states some (list-room (goal.at.loop-u-init c).Start 0 some) in
    lane-starts cs ts f pairs _ lane _ _ (length_sequence cs ts f pairs _ 0 (F cs) size) (lists.clear _ 0 some) (c.start_block.ensures.lane ts f pairs lane lists some s.lane)

pub returns-then-ends-eq0 : goal.returns-then-ends-eq0
returns-then-ends-eq0 c =
    record { lane = λ lane f pairs s free lists. all-over _ _ f pairs _ lane _ _ _ _ c.if-ends-eq0.true (lanes-turn (goal.at.returns-then-ends-eq0 c).After-turn-ends lane f pairs s free lists) }

pub loop-u-preserved : goal.loop-u-preserved
loop-u-preserved c = lanes-turn (goal.at.loop-u-preserved c).After-turn-ends

pub returns : goal.returns
returns c =
    record {
      lane = λ lane f pairs s free lists.
          last-unit _ _ f pairs _ lane _ c.loop-u.u _ _ (omega (arith, c.requires.0.sizes.units)) (c.loop-u.invariant lane f pairs s free lists);
    }
