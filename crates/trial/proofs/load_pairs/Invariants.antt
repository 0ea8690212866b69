-- The lanes of the pairs below p have the inputs and the state of their units.
use Rattle.trial.specs.Trial.{StandsAt, Carried}
use Rattle.trial.proofs.load_pairs.Given as goal

abbrev pub invariant-loop-p : goal.invariant-loop-p
invariant-loop-p l = Carried l.p l.pairs (λ lane v. StandsAt lane l.job.inputs l.job.flops l.t l.states l.feed l.state v)
