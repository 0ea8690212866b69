use lib.Bits.{bit_or}
use mathlib.Core.Path.{◌≡◌}
use mathlib.Core.List.{List}
use Prim.Native.Nat.{ℕ, ◌+◌}
use lib.ListN.{length}
use native.Mathlib.Omega.{arith}
use Rattle.lists.specs.Scan.{any_below}
use Rattle.lists.specs.Field.{row_of}
use Rattle.lists.proofs.Field.{part-row}
use Rattle.model.specs.Inputs.{F, O, inputs_at, Fault}
use Rattle.model.specs.Values.{some_oppose}
use Rattle.model.specs.Simulation.{line_values, outputs, state_at, outputs_at, values_at}
use Rattle.model.proofs.Runs.{length-line_values}
use Rattle.lanes.specs.Lane.{bit, Lane}
use Rattle.unit.specs.Unit.{Stuck}
use Rattle.run.proofs.Laws.{ever_none, ever_more, ever_stop, ever_all, state-turn, length-state}
use Rattle.run.proofs.opposing_ever.Goals.{After-opposing-found}
use Rattle.run.proofs.opposing_ever.Goals as goal

-- the lanes found, with those that oppose at unit u
found-more : (c : After-opposing-found) (lane : ℕ) (f : Fault) (st : List ℕ) → Stuck lane c.args.given.now.hits.now c.args.given.now.masks.now f → Lane lane c.args.state.now st → length st ≡ F c.args.setup.now.circuit.now
    → bit lane (bit_or c.loop-u.found c.opposing-found.result)
    ≡ any_below (λ u. some_oppose (row_of (O c.args.setup.now.circuit.now) c.args.free.now u) (outputs_at c.args.setup.now.circuit.now c.args.setup.now.test.now f st u)) (c.loop-u.u + 1)
unfolding outputs_at values_at
found-more c lane f st s l e =
    let loop = c.loop-u in
    let cs = c.args.setup.now.circuit.now in
    let ts = c.args.setup.now.test.now in
    let before = loop.invariant lane f st s l e in
    let holds = c.values_at.ensures lane f _ s before.0 (length-state cs ts f st loop.u e) in
    let opposing : bit lane c.opposing-found.result ≡ some_oppose (row_of (O cs) c.args.free.now loop.u) (outputs cs f (line_values cs f (inputs_at cs ts loop.u) (state_at cs ts f st loop.u))) =
    rw (← (part-row c.args.free.now c.args.setup.now.job.outputs (O cs) loop.u c.requires.0.sizes.outputs)) (c.opposing-found.ensures lane f _ s holds (length-line_values cs f _ _)) in
    ever_more lane _ _ _ _ before.1 opposing

pub loop-u-init : goal.loop-u-init
unfolding state_at
loop-u-init c = λ lane f st s l e. (l, ever_none lane _)

pub returns-then-found-wanted : goal.returns-then-found-wanted
returns-then-found-wanted c = λ lane f st s l e.
    ever_stop lane _ _ _ _ _ (found-more (goal.at.returns-then-found-wanted c).After-opposing-found lane f st s l e) c.loop-u-test.true c.if-found-wanted.true

pub loop-u-preserved : goal.loop-u-preserved
loop-u-preserved c = λ lane f st s l e.
    let loop = c.loop-u in
    let cs = c.args.setup.now.circuit.now in
    let ts = c.args.setup.now.test.now in (
      rw (state-turn cs ts f st loop.u)
          (c.next_state.ensures lane f _ s (c.values_at.ensures lane f _ s (loop.invariant lane f st s l e).0 (length-state cs ts f st loop.u e)) (length-line_values cs f _ _)),
      found-more (goal.at.loop-u-preserved c).After-opposing-found lane f st s l e,
    )

pub returns : goal.returns
returns c = λ lane f st s l e. ever_all lane _ _ _ _ _ (c.loop-u.invariant lane f st s l e).1 (omega (arith, c.loop-u-test.false))
