-- m pairs are picked and written, and the table is weighed for the next but for the entries of `span`.
use Rattle.std.proofs.Common.{◌*◌, ◌≤◌}
use Rattle.model.specs.Inputs.{F, Fault}
use Rattle.pick.specs.Pick.{Picking, PickedTo}
use Rattle.pick.proofs.pick_pairs.Given as goal

abbrev pub invariant-loop-m : goal.invariant-loop-m
invariant-loop-m l =
    (l.span.from ≤ l.span.to) × (l.span.to ≤ F l.setup.circuit.now * l.reach)
    × ((f : Fault) → Picking l.setup.circuit.now l.setup.test.now f l.free l.states l.list l.given.hits.now l.given.masks.now l.merits l.left l.reach
    → PickedTo l.setup.circuit.now l.setup.test.now f l.reach l.span.from l.span.to l.m l.times l.extras l.table l.initial.res l.res)
