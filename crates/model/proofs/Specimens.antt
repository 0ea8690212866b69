-- The specimens of document 01, computed.
use mathlib.Core.Path.{◌≡◌, refl}
use mathlib.Core.List.{[], ◌∷◌, map}
use Rattle.model.specs.Grade.{eight_fields}
use Rattle.model.specs.Listing.{printed}
use Rattle.model.specs.Specimens.{specimen_a, faults_of_a, graded_specimens, eleven_verdicts, print_of_a}
use Rattle.model.proofs.Computed.{computes}

-- the eleven verdicts, as one theorem over their list: all eight fields of each record, whose last 16 bits are always 0
pub eleven : map (λ v. eight_fields v) graded_specimens ≡ eleven_verdicts
unfolding computes
eleven = refl

-- specimen A's whole print
pub print_of-A : printed specimen_a (0 ∷ 0 ∷ 0 ∷ []) faults_of_a [] ≡ print_of_a
unfolding computes
print_of-A = refl
