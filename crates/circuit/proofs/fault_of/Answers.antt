use mathlib.Core.Path.{refl}
use Rattle.model.specs.Inputs.{fault_at}
use Rattle.circuit.proofs.fault_of.Goals as goal

pub returns : goal.returns
unfolding fault_at
returns c = record { line = c.word_at.ensures.0; pin = c.from.ensures; value = refl }
