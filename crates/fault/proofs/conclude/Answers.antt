use mathlib.Core.Path.{sym, ◌∙◌}
use Prim.Native.Nat.{◌≤◌}
use native.Mathlib.Omega.{arith}
use Rattle.model.specs.Inputs.{F}
use Rattle.record.proofs.Laws.{carrying-counted}
use Rattle.fault.proofs.Last.{graded_3, graded_7, graded_6, graded_4}
use Rattle.fault.proofs.conclude.Goals as goal

pub returns-then-ends-eq0 : goal.returns-then-ends-eq0
returns-then-ends-eq0 c = λ f p h.
    c.counted.ensures ∙ carrying-counted _ _ f p _ _ _ _ _ _ _ h.pairs h.differing h.clashing (sym c.if-ends-eq0.true ∙ h.surviving) ∙ sym (graded_3 _ _ f p _ h.before (sym h.surviving ∙ c.if-ends-eq0.true))

pub returns-then-k-setup : goal.returns-then-k-setup
returns-then-k-setup c = λ f p h.
    let left = c.if-ends-eq0.false in
    let few = c.requires.0.sizes.flops in
    c.counted-then-k-setup.ensures ∙ carrying-counted _ _ f p _ _ _ _ _ _ _ h.pairs h.differing h.clashing h.surviving
    ∙ sym (graded_7 _ _ f p _ h.before (λ e. left (h.surviving ∙ e)) (omega (arith, few, c.if-k-setup.true)))

pub returns-in-Some : goal.returns-in-Some
returns-in-Some c = λ f p h.
    let few : F c.args.setup.now.circuit.now ≤ c.args.k = omega (arith, c.requires.0.sizes.flops, c.if-k-setup.false) in
    c.counted-in-Some.ensures ∙ carrying-counted _ _ f p _ _ _ _ _ _ _ h.pairs h.differing h.clashing h.surviving
    ∙ sym (graded_6 _ _ f p _ h.before (λ e. c.if-ends-eq0.false (h.surviving ∙ e)) few _ (c.in-Some.ensures.lowest f h.stuck h.frees))

pub returns-in-None : goal.returns-in-None
returns-in-None c = λ f p h.
    let few : F c.args.setup.now.circuit.now ≤ c.args.k = omega (arith, c.requires.0.sizes.flops, c.if-k-setup.false) in
    c.counted-in-None.ensures ∙ carrying-counted _ _ f p _ _ _ _ _ _ _ h.pairs h.differing h.clashing h.surviving
    ∙ sym (graded_4 _ _ f p _ h.before (λ e. c.if-ends-eq0.false (h.surviving ∙ e)) few (c.in-None.ensures.lowest f h.stuck h.frees))
