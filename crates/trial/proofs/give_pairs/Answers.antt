use Rattle.trial.proofs.Laws.{tried-none}
use Rattle.trial.proofs.give_pairs.Goals as goal

pub loop-p-init : goal.loop-p-init
loop-p-init c = λ lane vs l e old. tried-none _ _ lane vs _ old
