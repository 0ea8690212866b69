use Prim.Native.Nat.{◌%◌}
use native.Mathlib.Omega.{arith}
use borrow.Author.Tests.{eq-eqb, ne_eqb}
use Rattle.model.specs.Values.{invert_if}
use Rattle.lanes.proofs.Lanes.finish.Goals as goal

pub returns-then-kind-eq1 : goal.returns-then-kind-eq1
unfolding invert_if
returns-then-kind-eq1 c = λ t v h. rw (eq-eqb (c.args.kind % 2) 1 (omega arith)) (c.invert.ensures t v h)

pub returns-else-kind-eq1 : goal.returns-else-kind-eq1
unfolding invert_if
returns-else-kind-eq1 c = λ t v h. rw (ne_eqb (c.args.kind % 2) 1 (λ odd. omega arith)) h
