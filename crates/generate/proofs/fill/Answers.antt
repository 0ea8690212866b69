use mathlib.Core.Path.{◌≡◌, refl, sym, ap, ◌∙◌}
use Prim.Native.Nat.{suc, ◌+◌, ◌%◌, ◌≤◌}
use native.Mathlib.Numerals.{add-one}
use native.Mathlib.Omega.{arith}
use lib.ListN.{get_or, length}
use Rattle.lists.proofs.Scan.{length-tabulate, get_or_tabulate}
use Rattle.lists.proofs.Field.{overwritten-none, row_more, row-all}
use Rattle.model.specs.Generate.{step, stepped, generate_byte}
use Rattle.generate.proofs.fill.Invariants.{bytes}
use Rattle.generate.proofs.fill.Goals.{After-step-x}
use Rattle.generate.proofs.fill.Goals as goal

-- there is room for the byte
room : (c : After-step-x) → suc c.loop-b.b ≤ length c.loop-b.res
room c = omega (arith, c.loop-b-test.true, c.requires)

-- the number is that after one step more
next : (c : After-step-x) → c.step-x.result ≡ stepped c.args.seed (suc c.loop-b.b)
unfolding stepped
next c = c.step-x.ensures ∙ ap step c.loop-b.invariant.0

-- its lowest bit is the byte of this place
byte : (c : After-step-x) → let s = c.args in c.step-x.result % 2 ≡ get_or (bytes s.seed s.size) c.loop-b.b 0
unfolding generate_byte
byte c =
    let s = c.args in
    let b = c.loop-b.b in
    let here : b ≡ 0 + b = omega arith in
    ap (λ x. x % 2) (next c) ∙ ap (generate_byte s.seed) here ∙ sym (get_or_tabulate (λ b. generate_byte s.seed b) 0 s.size b 0 c.loop-b-test.true)

pub loop-b-init : goal.loop-b-init
unfolding stepped
loop-b-init c = (refl, sym (overwritten-none _))

pub loop-b-preserved : goal.loop-b-preserved
loop-b-preserved c =
    let s = c.args in
    let inv = c.loop-b.invariant in
    let taken = c.loop-b-test.true in (
      rw (add-one c.loop-b.b) (next (goal.at.loop-b-preserved c).After-step-x),
      row_more (bytes s.seed s.size) _ _ _ c.loop-b.b _ 0 refl (byte (goal.at.loop-b-preserved c).After-step-x) (rw length-tabulate taken) (omega (arith, taken, c.requires)) inv.1,
    )

pub returns : goal.returns
returns c =
    let s = c.args in
    let inv = c.loop-b.invariant in
    row-all (bytes s.seed s.size) _ _ c.loop-b.b (rw length-tabulate (omega arith)) inv.1
