use mathlib.Core.Path.{◌∙◌, ap}
use native.Mathlib.Omega.{arith}
use Rattle.model.specs.Inputs.{pin_line, flip_flop_line}
use Rattle.unit.proofs.Laws.{flop-at}
use Rattle.trial.proofs.Laws.{pair-given}
use Rattle.trial.proofs.give_pair.Goals as goal

pub bounds-flops-pairs : goal.bounds-flops-pairs
bounds-flops-pairs c = let pre = c.requires in (flop-at _ _ pre.0 pre.1 _ pre.4).place

pub pin_of-m-requires : goal.pin_of-m-requires
pin_of-m-requires c = let pre = c.requires in (omega (arith, (flop-at _ _ pre.0 pre.1 _ pre.4).below, pre.0.size), omega arith, omega arith)

pub read-requires : goal.read-requires
read-requires c = let pre = c.requires in omega (arith, c.pin_of-m.ensures.0, (flop-at _ _ pre.0 pre.1 _ pre.4).fed, pre.5)

pub store-requires : goal.store-requires
store-requires c = let pre = c.requires in omega (arith, c.pin_of-m.ensures.0, (flop-at _ _ pre.0 pre.1 _ pre.4).fed, pre.5)

pub returns : goal.returns
unfolding flip_flop_line
returns c = λ lane vs l e old.
    let pre = c.requires in
    let flop = flop-at _ _ pre.0 pre.1 _ pre.4 in
    pair-given c.args.c.now c.args.pairs.now vs _ lane _ _ _ _ _ _ (c.pin_of-m.ensures.0 ∙ ap (λ n. pin_line c.args.c.now n 1) flop.line) (omega (arith, c.pin_of-m.ensures.0, flop.fed, e))
    (omega (arith, c.pin_of-m.ensures.0, flop.fed, pre.5)) c.read.ensures (c.both_values.ensures lane l) c.give-x.ensures
    c.store.ensures old
