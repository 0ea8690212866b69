use Rattle.std.proofs.Common.{◌≡◌, ◌<◌, refl, sym, ap, ◌∙◌, not, arith}
use lib.Dec.{leb}
use borrow.Author.Tests.{le-leb, lt-leb}
use Rattle.lists.specs.Scan.{any_below}
use Rattle.lists.proofs.Scan.{any_below-turn, any_below-stop}
use Rattle.bench_text.specs.Bench.{line_named}
use Rattle.bench_line.specs.Pins.{pin_line_of}
use Rattle.bench_line.proofs.Laws.{found-more}
use Rattle.bench_line.proofs.resolve.Goals.{After-find-n}
use Rattle.bench_line.proofs.resolve.Goals as goal

pub loop-i-init : goal.loop-i-init
unfolding any_below
loop-i-init c = record { below = refl; found = λ k h. absurd (let z : ⊥ = omega arith in z) }

-- the line that was found is the one that the pin names
found : (c : After-find-n) → c.find-n.result ≡ pin_line_of c.args.defined.text.now c.args.parts.now c.args.first c.loop-i.i
unfolding pin_line_of
found c = c.find-n.ensures ∙ ap (line_named c.args.defined.text.now) c.token-name.ensures

pub returns-then-reach-n-clause-below : goal.returns-then-reach-n-clause-below
returns-then-reach-n-clause-below c =
    let s = c.args in
    let d = (goal.at.returns-then-reach-n-clause-below c).After-find-n in
    let high = le-leb _ _ c.if-reach-n.true in
    let some = any_below-stop (λ i. leb s.reach (pin_line_of s.defined.text.now s.parts.now s.first i)) c.loop-i.i s.pins (rw (← found d) high) c.loop-i-test.true in
    sym (ap not some)

pub loop-i-preserved : goal.loop-i-preserved
loop-i-preserved c =
    let s = c.args in
    let inv = c.loop-i.invariant in
    let d = (goal.at.loop-i-preserved c).After-find-n in
    -- a line has no more than four pins
    let few : c.loop-i.i < 4 = omega (arith, c.loop-i-test.true, c.requires.1.few) in
    record {
      below = any_below-turn (λ i. leb s.reach (pin_line_of s.defined.text.now s.parts.now s.first i)) c.loop-i.i inv.below (rw (← found d) (lt-leb s.reach c.find-n.result (omega (arith, c.if-reach-n.false))));
      found = found-more c.loop-i.lines (λ k. pin_line_of s.defined.text.now s.parts.now s.first k) c.loop-i.i _ (omega (arith, c.requires.2, few)) (found d) inv.found;
    }

pub returns-clause-below : goal.returns-clause-below
returns-clause-below c =
    let all : c.loop-i.i ≡ c.args.pins = omega arith in
    let inv = c.loop-i.invariant in
    sym (ap not (rw all at inv).below)

pub returns-clause-finds : goal.returns-clause-finds
returns-clause-finds c = λ e i h. c.loop-i.invariant.found i (omega arith)
