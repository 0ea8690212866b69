-- There are as many lines as whole records.
use Rattle.std.proofs.Common.{arith, refl}
use Rattle.model.specs.Inputs.{N}
use Rattle.s27_test.proofs.outputs_of.Goals as goal

pub sizes_of-sizes-requires : goal.sizes_of-sizes-requires
unfolding N
sizes_of-sizes-requires c = (omega arith, refl)
