-- Call Simulate takes circuit, test, at most one fault, and writes L × O bytes by time, then output line: 0, 1, or 2 for X.
use Rattle.std.specs.Prelude.{ℕ, ◌*◌, cond, List, length, eqb}
use Rattle.lists.specs.Scan.{gather}
use Rattle.lists.specs.Field.{overwritten}
use Rattle.model.specs.Inputs.{O, L, Fault, fault_count, fault_at}
use Rattle.model.specs.Refusals.{Answer, answer, unless_refused, simulate_refusal}
use Rattle.model.specs.Simulation.{no_fault, plain_outputs}

-- the fault of the list, or none
unfoldable pub only_fault : List ℕ → Fault
only_fault fs = cond (eqb (fault_count fs) 0) no_fault (fault_at fs 0)

unfoldable pub simulate_bytes : List ℕ → List ℕ → List ℕ → List ℕ
simulate_bytes c t fs = gather (λ u. plain_outputs c t (only_fault fs) u) (L c t)

-- what Simulate returns: the number of bytes written
unfoldable pub simulate_answer : List ℕ → List ℕ → List ℕ → ℕ → ℕ → Answer
simulate_answer c t fs work result = answer (simulate_refusal c t fs work result) (L c t * O c)

-- what its result area holds afterwards, where it held `old`
unfoldable pub simulate_area : List ℕ → List ℕ → List ℕ → ℕ → List ℕ → List ℕ
simulate_area c t fs work old =
    unless_refused (simulate_refusal c t fs work (length old)) (overwritten (simulate_bytes c t fs) old) old
