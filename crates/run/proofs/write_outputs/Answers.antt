use mathlib.Core.Path.{refl}
use Prim.Native.Nat.{◌<◌}
use native.Mathlib.Omega.{arith}
use Rattle.lists.specs.Field.{overwritten}
use Rattle.lists.proofs.Field.{row_more, row-all}
use Rattle.model.specs.Inputs.{O}
use Rattle.model.specs.Values.{X}
use Rattle.model.specs.Simulation.{outputs}
use Rattle.run.proofs.Laws.{OutputAt, output-at, length-outputs, output-read, outputs-three}
use Rattle.run.proofs.write_outputs.Goals.{In-loop-o}
use Rattle.run.proofs.write_outputs.Goals as goal

below : (c : In-loop-o) → c.loop-o.o < O c.args.c.now
below c = omega (arith, c.loop-o-test.true, c.requires.2)

at : (c : In-loop-o) → OutputAt c.args.c.now c.args.outs.now c.loop-o.o
at c = output-at _ _ c.requires.1 _ (below c)

pub loop-o-init : goal.loop-o-init
unfolding overwritten
loop-o-init c = λ f vs l e w. refl

pub bounds-outs-o : goal.bounds-outs-o
bounds-outs-o c = (at (goal.at.bounds-outs-o c).In-loop-o).place

pub read-x-requires : goal.read-x-requires
read-x-requires c = omega (arith, (at (goal.at.read-x-requires c).In-loop-o).below, c.requires.3)

pub loop-o-preserved : goal.loop-o-preserved
loop-o-preserved c = λ f vs l e w.
    let inside = (goal.at.loop-o-preserved c).In-loop-o in
    row_more (outputs _ f vs) _ _ _ _ _ X refl
    (c.lane.ensures _ (outputs-three _ f vs _ w (below inside)) (output-read _ f vs _ _ _ _ _ (at inside) c.read-x.ensures l e (below inside)))
    (rw (length-outputs _ f vs) (below inside)) (omega (arith, c.loop-o-test.true, c.requires.5)) (c.loop-o.invariant f vs l e w)

pub returns : goal.returns
returns c = λ f vs s l e w.
    row-all (outputs c.args.c.now f vs) _ _ c.loop-o.o (omega (arith, length-outputs c.args.c.now f vs, c.loop-o-test.false, c.requires.2)) (c.loop-o.invariant f vs l e w)
