use Rattle.model.specs.Inputs.{pin_line}
use Rattle.circuit.proofs.pin_of.Goals as goal

pub returns : goal.returns
unfolding pin_line
returns c = c.word_at.ensures
