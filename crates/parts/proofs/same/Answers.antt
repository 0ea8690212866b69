use Rattle.std.proofs.Common.{◌∙◌}
use Rattle.parts.proofs.Laws.{bytes_eq-same}
use Rattle.parts.proofs.same.Goals as goal

pub returns : goal.returns
returns c = c.eq.ensures ∙ bytes_eq-same _ _
