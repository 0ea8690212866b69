-- What a search through the starting states finds.
use Rattle.std.specs.Prelude.{◌≡◌, not, List, ℕ, ◌<◌, Option, MatchOption, IfSome}
use Rattle.std.proofs.Math.Option.{none, some}
use Rattle.lists.specs.Scan.{first}
use Rattle.lists.specs.Field.{Rows}
use Rattle.model.specs.Inputs.{O, L, Fault}
use Rattle.model.specs.Simulation.{free_outputs}
use Rattle.model.specs.Starts.{start_count, differs}
use Rattle.unit.specs.Unit.{Stuck}

-- With the fault that all lanes have, r is the lowest starting state that never differs, and None where each differs. `free` is a table of the
-- fault-free responses, a row a unit.
pub record FirstNever (c t free hits masks : List ℕ) (r : Option ℕ) : Type 0 where
  pub lowest : (f : Fault) → ((lane : ℕ) → lane < 64 → Stuck lane hits masks f) → Rows (O c) (L c t) free (free_outputs c t)
      → MatchOption r (first (λ s. not (differs c t f s)) (start_count c) ≡ none) (λ start. first (λ s. not (differs c t f s)) (start_count c) ≡ some start)
  pub most : IfSome r (λ start. start < 4096)
