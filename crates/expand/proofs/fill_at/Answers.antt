use Rattle.std.proofs.Common.{◌≡◌, true, false, arith}
use borrow.Author.Tests.{eq-eqb, ne_eqb}
use Rattle.expand.specs.Expand.{is_x}
use Rattle.expand.proofs.fill_at.Goals as goal

pub returns-then-states-e-ne2 : goal.returns-then-states-e-ne2
unfolding is_x
returns-then-states-e-ne2 c =
    let known : is_x c.args.states.now c.args.e ≡ false = ne_eqb _ _ c.if-states-e-ne2.true in
    (rw known (omega arith), rw known)

pub returns : goal.returns
unfolding is_x
returns c =
    let unknown : is_x c.args.states.now c.args.e ≡ true = eq-eqb _ _ c.if-states-e-ne2.false in
    (rw unknown, rw unknown)
