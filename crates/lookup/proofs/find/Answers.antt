use Rattle.std.proofs.Common.{◌≡◌, ◌-◌, ◌<◌, sym, ap, ◌∙◌, arith}
use Rattle.bench_text.specs.Text.{bytes_of, same}
use Rattle.lookup.specs.Lookup.{row_part}
use Rattle.lookup.proofs.Chain.{sought-top, sought-here, sought-on, link-below, sought-all}
use Rattle.lookup.proofs.find.Goals.{then-same, else-same, After-same}
use Rattle.lookup.proofs.find.Goals as goal

pub loop-at-init : goal.loop-at-init
loop-at-init c = sought-top c.requires _ c.hash.ensures.0 c.hash.ensures.1

-- whether the line before `at` has the name
asked : (c : After-same) → c.same.result ≡ same (bytes_of c.args.text.now (row_part c.args.names.now (c.loop-at.at - 1))) c.args.wanted.now
asked c = c.same.ensures ∙ ap (λ x. same x c.args.wanted.now) c.name.ensures.bytes

-- there is a line before `at`
pub loop-at-smaller : goal.loop-at-smaller
loop-at-smaller c =
    let some : 0 < c.loop-at.at = omega (arith, c.loop-at-test.true) in
    link-below c.requires c.loop-at.invariant some

pub loop-at-preserved : goal.loop-at-preserved
loop-at-preserved c =
    let some : 0 < c.loop-at.at = omega (arith, c.loop-at-test.true) in
    let is = asked (goal.at.loop-at-preserved c).After-same in
    elim c.if-same.branch [
      | then-same w ↦ rw w.found-is (sought-here c.requires c.loop-at.invariant some (sym is ∙ w.if-same.true))
      | else-same w ↦ rw w.found-is (sought-on c.requires c.loop-at.invariant some (sym is ∙ w.if-same.false))
    ]

pub returns : goal.returns
returns c = sought-all c.loop-at.found c.loop-at.invariant (omega (arith, c.loop-at-test.false))
