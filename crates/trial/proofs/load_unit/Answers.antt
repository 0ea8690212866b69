use Rattle.lists.proofs.Field.{part-taken}
use Rattle.trial.proofs.load_unit.Goals as goal

pub returns : goal.returns
returns c = λ lane u l is keeps.
    record {
      fed = c.load_row.ensures lane _ l (λ w. part-taken _ _ _ _ (is w) c.requires.0) (λ w. (keeps w).fed);
      kept = c.load_row-2.ensures lane _ l (λ w. part-taken _ _ _ _ (is w) c.requires.1) (λ w. (keeps w).kept);
    }
