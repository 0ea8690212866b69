-- Of each lane below count: the first place before output o of unit u is noted, or there is none yet, and whether something is left to show; the
-- state is the run's at u. In a unit this is said of the lanes of which it held where the unit began.
use Prim.Native.Nat.{ℕ, ◌<◌}
use Rattle.model.specs.Inputs.{inputs_at, Fault}
use Rattle.model.specs.Simulation.{power_up, line_values, state_at}
use Rattle.lanes.specs.Lane.{Lane}
use Rattle.unit.specs.Unit.{Stuck}
use Rattle.plain.proofs.Scanned.{Scanned}
use Rattle.plain.proofs.first_places.Given as goal

abbrev pub invariant-loop-o : goal.invariant-loop-o
invariant-loop-o l =
    (lane : ℕ) (f : Fault) → lane < l.count → Stuck lane l.given.hits.now l.given.masks.now f → Lane lane l.words (line_values l.setup.circuit.now f (inputs_at l.setup.circuit.now l.setup.test.now l.u) (state_at l.setup.circuit.now l.setup.test.now f (power_up l.setup.circuit.now) l.u))
    → Scanned l.setup.circuit.now l.setup.test.now l.free l.setup.job.outputs f lane l.u 0 l.initial.found l.initial.left l.initial.times l.initial.lines → Scanned l.setup.circuit.now l.setup.test.now l.free l.setup.job.outputs f lane l.u l.o l.found l.left l.times l.lines

abbrev pub invariant-units : goal.invariant-units
invariant-units l =
    (lane : ℕ) (f : Fault) → lane < l.count → Stuck lane l.given.hits.now l.given.masks.now f → Lane lane l.initial.state (power_up l.setup.circuit.now)
    → Lane lane l.state (state_at l.setup.circuit.now l.setup.test.now f (power_up l.setup.circuit.now) l.u) × Scanned l.setup.circuit.now l.setup.test.now l.free l.setup.job.outputs f lane l.u 0 l.found l.left l.times l.lines
