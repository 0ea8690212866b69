use mathlib.Core.Path.{ap, ◌∙◌}
use Rattle.lists.proofs.Field.{part-row}
use Rattle.model.specs.Values.{some_oppose}
use Rattle.model.specs.Simulation.{outputs}
use Rattle.trial.proofs.Laws.{carried-more, word_below, word-above}
use Rattle.trial.proofs.opposing_pair.Goals as goal

pub returns : goal.returns
returns c = λ f vs s e.
    carried-more _ _ _ _
    (λ lane v l h old holds. word_below lane _ _ c.opposing-more.result _ _ _ (c.take_out.ensures lane) (c.lanes_from-wanted.ensures lane l) h ∙ old holds)
    (λ lane l h holds.
    word-above lane _ _ c.opposing-more.result _ _ _ (c.take_out.ensures lane) (c.lanes_from-wanted.ensures lane l) h
    ∙ c.opposing-more.ensures lane f (vs lane) (s lane l) holds (e lane)
    ∙ ap (λ row. some_oppose row (outputs c.args.c.now f (vs lane))) (part-row c.args.free.now _ _ _ c.requires.2))
