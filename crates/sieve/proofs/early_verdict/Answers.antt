use Rattle.std.proofs.Common.{sym, ◌∙◌}
use Rattle.sieve.specs.Sieve.{noted}
use Rattle.sieve.proofs.early_verdict.Goals as goal

pub returns-then-has_lane : goal.returns-then-has_lane
unfolding noted
returns-then-has_lane c = c.placed.ensures ∙ rw (sym c.has_lane.ensures ∙ c.if-has_lane.true)

pub returns : goal.returns
unfolding noted
returns c = c.placed-2.ensures ∙ rw (sym c.has_lane.ensures ∙ c.if-has_lane.false)
