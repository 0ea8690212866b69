-- No byte before byte b is above 1.
use mathlib.Core.Path.{◌≡◌}
use mathlib.Core.Option.{none}
use lib.ListN.{get_or}
use lib.Dec.{ltb}
use Rattle.lists.specs.Scan.{first_answer}
use Rattle.model.specs.Refusals.{refuse}
use Rattle.job.proofs.check_bytes.Given as goal

abbrev pub invariant-loop-b : goal.invariant-loop-b
invariant-loop-b l = first_answer (λ b. refuse (ltb 1 (get_or l.t b 0)) 8 b) l.b ≡ none
