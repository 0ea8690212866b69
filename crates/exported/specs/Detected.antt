-- Up to 64 faults at once: which of them plain simulation detects.
use Rattle.std.specs.Prelude.{ℕ, ◌*◌, Bool, true, false, ◌&&◌, List, leb, length}
use Rattle.std.proofs.Math.Option.{none, some}
use Rattle.lists.specs.Scan.{any_below}
use Rattle.model.specs.Inputs.{O, L, fault_count, Fault}
use Rattle.model.specs.Refusals.{Refusal, input_rows}
use Rattle.model.specs.Values.{some_oppose}
use Rattle.model.specs.Simulation.{plain_outputs}
use Rattle.faults.specs.Given.{lane_fault}
use Rattle.lists.specs.Field.{row_of}

unfoldable pub unbroken : Refusal → Bool
unbroken none = true
unbroken (some r) = false

-- circuit, test and at most 64 faults are accepted, and there is a response for each output of each unit
unfoldable pub acceptable : List ℕ → List ℕ → List ℕ → List ℕ → Bool
acceptable c t fs free = unbroken (input_rows c t 0 64 fs) && leb (L c t * O c) (length free)

-- at some unit some output shows the opposite of the response
unfoldable pub opposed : List ℕ → List ℕ → List ℕ → Fault → Bool
opposed c t free f = any_below (λ u. some_oppose (row_of (O c) free u) (plain_outputs c t f u)) (L c t)

-- of lane j: it has fault j of the list, or none
unfoldable pub detected : List ℕ → List ℕ → List ℕ → List ℕ → ℕ → Bool
detected c t fs free j = acceptable c t fs free && opposed c t free (lane_fault fs 0 (fault_count fs) j)
