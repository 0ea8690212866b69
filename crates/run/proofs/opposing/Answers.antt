use Prim.Native.Nat.{◌<◌}
use mathlib.Core.Path.{refl}
use native.Mathlib.Omega.{arith}
use Rattle.model.specs.Inputs.{O}
use Rattle.model.specs.Simulation.{outputs}
use Rattle.run.proofs.Laws.{OutputAt, output-at, length-outputs, output-read, opposing_none, opposing_more, opposing_all}
use Rattle.run.proofs.opposing.Goals.{In-loop-o}
use Rattle.run.proofs.opposing.Goals as goal

below : (c : In-loop-o) → c.loop-o.o < O c.args.c.now
below c = omega (arith, c.loop-o-test.true, c.requires.2)

at : (c : In-loop-o) → OutputAt c.args.c.now c.args.outs.now c.loop-o.o
at c = output-at _ _ c.requires.1 _ (below c)

pub loop-o-init : goal.loop-o-init
loop-o-init c = λ lane f vs l e. opposing_none lane _ (outputs c.args.c.now f vs)

pub bounds-outs-o : goal.bounds-outs-o
bounds-outs-o c = (at (goal.at.bounds-outs-o c).In-loop-o).place

pub read-x-requires : goal.read-x-requires
read-x-requires c = omega (arith, (at (goal.at.read-x-requires c).In-loop-o).below, c.requires.3)

pub loop-o-preserved : goal.loop-o-preserved
loop-o-preserved c = λ lane f vs l e.
    let inside = (goal.at.loop-o-preserved c).In-loop-o in
    opposing_more lane _ (outputs _ f vs) _ _ _ _ (rw (length-outputs _ f vs) (below inside)) (omega (arith, c.loop-o-test.true, c.requires.4)) refl (c.loop-o.invariant lane f vs l e)
    (c.opposing-found.ensures lane _ (output-read _ f vs lane _ _ _ _ (at inside) c.read-x.ensures l e (below inside)))

pub returns : goal.returns
returns c = λ lane f vs s l e.
    opposing_all lane _ (outputs _ f vs) _ c.loop-o.o (omega (arith, length-outputs c.args.c.now f vs, c.loop-o-test.false, c.requires.2)) (c.loop-o.invariant lane f vs l e)
