use Rattle.std.proofs.Common.{◌≡◌, refl, sym, ◌∙◌, arith}
use Rattle.sentences.proofs.Ends.{place_here, place_behind, place_end}
use Rattle.sentences.proofs.find.Goals as goal

pub loop-i-init : goal.loop-i-init
loop-i-init c = refl

pub returns-then-text-i : goal.returns-then-text-i
returns-then-text-i c = sym (c.loop-i.invariant ∙ place_here _ c.args.byte c.loop-i.i c.args.end c.loop-i-test.true c.requires.1 c.if-text-i.true)

pub loop-i-preserved : goal.loop-i-preserved
loop-i-preserved c = c.loop-i.invariant ∙ place_behind _ c.args.byte c.loop-i.i c.args.end c.loop-i-test.true c.requires.1 c.if-text-i.false

pub returns : goal.returns
returns c =
    let all : c.loop-i.i ≡ c.args.end = omega arith in
    sym (c.loop-i.invariant ∙ place_end _ c.args.byte c.loop-i.i c.args.end all)
