use mathlib.Core.Path.{ap, ◌∙◌}
use Prim.Native.Nat.{ℕ, ◌+◌, ◌<◌}
use lib.Bits.{bit_and, bit_or, bit_xor}
use lib.ListN.{length}
use native.Mathlib.Omega.{arith}
use borrow.Author.Tests.{lt-ltb}
use Rattle.model.specs.Inputs.{O, inputs_at, Fault}
use Rattle.model.specs.Simulation.{power_up, line_values, state_at}
use Rattle.model.proofs.Runs.{length-line_values}
use Rattle.model.proofs.ThreeValued.{power_up-three}
use Rattle.lanes.specs.Lane.{bit, Lane}
use Rattle.unit.specs.Unit.{Stuck}
use Rattle.run.proofs.Laws.{RowRoom, row_room, OutputAt, output-at, output-read, outputs-three, stuck-binary, values-three, state-turn, length-state, length-power_up}
use Rattle.plain.proofs.Scanned.{Scanned, scanned_none, scanned_turn, scanned_row, places-stop, places-all}
use Rattle.plain.proofs.first_places.Goals.{After-note, In-loop-o}
use Rattle.plain.proofs.first_places.Goals as goal

-- output o
below : (c : In-loop-o) → c.loop-o.o < O c.args.setup.now.circuit.now
below c = omega (arith, c.loop-o-test.true, c.requires.0.sizes.outputs)

at : (c : In-loop-o) → OutputAt c.args.setup.now.circuit.now c.args.setup.now.outs.now c.loop-o.o
at c = output-at _ _ c.requires.0.tables.output_table _ (below c)

-- output o is looked at, and noted where it is the first that opposes: what is known before it is known after it
turned : (c : After-note) (lane : ℕ) (f : Fault) → lane < c.args.count → Stuck lane c.args.given.now.hits.now c.args.given.now.masks.now f
    → Lane lane c.values_at.new.words (line_values c.args.setup.now.circuit.now f (inputs_at c.args.setup.now.circuit.now c.args.setup.now.test.now c.units.u) (state_at c.args.setup.now.circuit.now c.args.setup.now.test.now f (power_up c.args.setup.now.circuit.now) c.units.u))
    → Scanned c.args.setup.now.circuit.now c.args.setup.now.test.now c.args.free.now c.args.setup.now.job.outputs f lane c.units.u 0 c.units.found c.units.left c.units.times c.units.lines
    → Scanned c.args.setup.now.circuit.now c.args.setup.now.test.now c.args.free.now c.args.setup.now.job.outputs f lane c.units.u (c.loop-o.o + 1)
    (bit_or c.loop-o.found (bit_and c.opposing.result (bit_xor c.first_lanes-wanted.result c.loop-o.found))) (bit_or c.loop-o.left c.unknown-left.result) c.note.new.times c.note.new.lines
turned c lane f h s w b =
    let cs = c.args.setup.now.circuit.now in
    let ts = c.args.setup.now.test.now in
    let run = c.requires.0 in
    let low : c.loop-o.o < O cs = omega (arith, c.loop-o-test.true, run.sizes.outputs) in
    let out = output-at cs c.args.setup.now.outs.now run.tables.output_table c.loop-o.o low in
    let row : RowRoom c.args.setup.now.job.outputs c.units.u (length c.args.free.now) =
    row_room _ _ _ _ _ _ _ run.test run.sizes run.sizes.outputs run.circuit.outputs c.requires.1 (omega (arith, c.units-test.true, c.requires.3, run.sizes.units)) in
    let vs = line_values cs f (inputs_at cs ts c.units.u) (state_at cs ts f (power_up cs) c.units.u) in
    let shows = output-read cs f vs lane _ _ _ _ out c.read-x.ensures w (length-line_values cs f _ _) low in
    let three = values-three cs ts f (power_up cs) c.units.u (stuck-binary cs lane _ _ f run.circuit run.hit_room s) run.test (power_up-three cs) in
    scanned_turn _ _ _ _ f lane _ _ _ _ _ _ (c.loop-o.invariant lane f h s w b) _ _ _ c.opposing.result _ c.unknown-left.result s.lane (c.first_lanes-wanted.ensures lane s.lane ∙ lt-ltb lane _ h) out.line
    c.loop-o-test.true low row.fits (c.opposing.ensures lane _ shows) (c.unknown-left.ensures lane _ s.lane (outputs-three cs f vs c.loop-o.o three low) shows) c.note.ensures

pub units-init : goal.units-init
unfolding state_at
units-init c = λ lane f h s l. (l, scanned_none _ _ _ _ _ _ _ _)

pub bounds-setup-o : goal.bounds-setup-o
bounds-setup-o c = (at (goal.at.bounds-setup-o c).In-loop-o).place

pub read-x-requires : goal.read-x-requires
read-x-requires c = omega (arith, (at (goal.at.read-x-requires c).In-loop-o).below, c.requires.0.line_room, c.values_at.auto.words, c.units.auto.words)

pub loop-o-preserved : goal.loop-o-preserved
loop-o-preserved c = turned (goal.at.loop-o-preserved c).After-note

pub units-preserved : goal.units-preserved
units-preserved c = λ lane f h s st.
    let us = c.units in
    let cs = c.args.setup.now.circuit.now in
    let ts = c.args.setup.now.test.now in
    let before = us.invariant lane f h s st in
    let w = c.values_at.ensures lane f _ s before.0 (length-state cs ts f (power_up cs) us.u (length-power_up cs)) in (
      rw (state-turn cs ts f (power_up cs) us.u) (c.next_state.ensures lane f _ s w (length-line_values cs f _ _)),
      scanned_row _ _ _ _ _ _ _ _ _ _ _ _ (c.loop-o.invariant lane f h s w before.1) (omega (arith, c.loop-o-test.false)) c.requires.0.sizes.outputs,
    )

pub returns-after-units : goal.returns-after-units
returns-after-units c =
    let pre = c.requires in
    places-all _ _ _ _ _ _ _ _ _ _ _ _ _ pre.0.sizes.outputs pre.3 (omega (arith, c.units-test.false))
    (λ lane f h s st. (c.units.invariant lane f h s st).1)

pub returns-then-found-wanted : goal.returns-then-found-wanted
returns-then-found-wanted c =
    let us = c.units in
    let pre = c.requires in
    let cs = c.args.setup.now.circuit.now in
    let ts = c.args.setup.now.test.now in
    places-stop _ _ _ _ _ _ _ _ _ _ _ _ _ pre.0.sizes.outputs pre.3 _
    (λ lane h. ap (bit lane) c.if-found-wanted.true ∙ c.first_lanes-wanted.ensures lane h) c.units-test.true (omega (arith, c.loop-o-test.true))
    (λ lane f h s st.
    let before = us.invariant lane f h s st in
    turned (goal.at.returns-then-found-wanted c).After-note lane f h s (c.values_at.ensures lane f _ s before.0 (length-state cs ts f (power_up cs) us.u (length-power_up cs))) before.1)
