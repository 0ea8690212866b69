use mathlib.Core.Path.{refl, sym}
use Rattle.lists.specs.Scan.{any_below}
use Rattle.lists.proofs.Scan.{any_below-turn, any_below-stop}
use Rattle.rules.specs.Check.{names_from}
use borrow.Author.Rules.{rules}
use Rattle.rules.proofs.names_from.Goals as goal

pub loop-i-init : goal.loop-i-init
unfolding names_from any_below
loop-i-init c = refl

pub returns-then-limit-pin_of : goal.returns-then-limit-pin_of
unfolding names_from
returns-then-limit-pin_of c = sym (any_below-stop _ _ _ (search rules) c.loop-i-test.true)

pub loop-i-preserved : goal.loop-i-preserved
unfolding names_from
loop-i-preserved c = any_below-turn _ _ c.loop-i.invariant (search rules)
