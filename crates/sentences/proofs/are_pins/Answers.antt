use Rattle.std.proofs.Common.{◌≡◌, refl, sym, ap, ◌∙◌, not, arith}
use Rattle.lists.specs.Scan.{any_below}
use Rattle.lists.proofs.Scan.{any_below-turn, any_below-stop}
use Rattle.sentences.proofs.are_pins.Goals as goal

pub loop-i-init : goal.loop-i-init
unfolding any_below
loop-i-init c = refl

pub returns-then-not-is_pin : goal.returns-then-not-is_pin
returns-then-not-is_pin c =
    sym (ap not (any_below-stop _ c.loop-i.i c.args.pins (ap not (sym c.is_pin.ensures ∙ c.if-not-is_pin.true)) c.loop-i-test.true))

pub loop-i-preserved : goal.loop-i-preserved
loop-i-preserved c = any_below-turn _ c.loop-i.i c.loop-i.invariant (ap not (sym c.is_pin.ensures ∙ c.if-not-is_pin.false))

pub returns : goal.returns
returns c =
    let all : c.loop-i.i ≡ c.args.pins = omega arith in
    let none = c.loop-i.invariant in
    sym (ap not (rw all at none))
