-- `first` and `second` are the fields of the entry.
use mathlib.Core.Path.{◌≡◌, sym, ◌∙◌}
use native.Mathlib.Omega.{arith}
use Rattle.std.proofs.lemmas.Option.{none-some, same_Some}
use Rattle.best.proofs.Turn.{kept, replaced}
use Rattle.best.proofs.compare.Goals as goal

pub returns-in-Some : goal.returns-in-Some
returns-in-Some c =
    kept c.args.best c.args.merit c.args.u c.args.i _ _ _ _ c.word_at-first.ensures.0 c.word_at-second.ensures.0 c.in-Some.old c.in-Some.is (omega (arith, c.if-score-old.true))

pub returns-in_default : goal.returns-in_default
returns-in_default c =
    replaced c.args.best c.args.merit c.args.u c.args.i _ _ _ _ c.word_at-first.ensures.0 c.word_at-second.ensures.0 c.if-first-eq0.false
    (λ old is. let same : c.in-Some.old ≡ old = same_Some c.in-Some.old old (sym c.in-Some.is ∙ is) in rw (← same) (omega (arith, c.if-score-old.false)))

pub returns-in_default-2 : goal.returns-in_default-2
returns-in_default-2 c =
    replaced c.args.best c.args.merit c.args.u c.args.i _ _ _ _ c.word_at-first.ensures.0 c.word_at-second.ensures.0 c.if-first-eq0.false (λ old is. absurd (none-some old (sym c.in_default.is ∙ is)))
