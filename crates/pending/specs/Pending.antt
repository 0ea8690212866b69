-- What is outstanding of a fault at every time unit.
use Rattle.std.specs.Prelude.{◌≡◌, ℕ, ◌*◌, ◌<◌, ◌≤◌, List, get_or}
use Rattle.lists.specs.Field.{Rows}
use Rattle.model.specs.Inputs.{O, L, Fault}
use Rattle.model.specs.Simulation.{plain_outputs, free_outputs}
use Rattle.model.specs.Expansion.{nout}

-- tables of what plain simulation shows, without the fault and with it, a row a unit
pub record Responses (units outputs : ℕ) (free faulty : List ℕ) (c t : List ℕ) (f : Fault) : Type 0 where
  pub all : units ≡ L c t
  pub wide : outputs ≡ O c
  pub free_rows : Rows outputs units free (free_outputs c t)
  pub faulty_rows : Rows outputs units faulty (plain_outputs c t f)

-- a table of Nout(u), for u from 0 to L, and the number of places compared for it, which is L × O
pub record Outstanding (c t : List ℕ) (f : Fault) (table : List ℕ) (compared : ℕ) : Type 0 where
  pub at : (u : ℕ) → u ≤ L c t → get_or table u 0 ≡ nout c t f u
  pub once : compared ≡ L c t * O c

-- Nout is above 0 at the units below `units` and 0 from there on.
pub record OpenUnits (c t : List ℕ) (f : Fault) (units : ℕ) : Type 0 where
  pub most : units ≤ L c t
  pub above : (u : ℕ) → u < units → 0 < nout c t f u
  pub zero : (u : ℕ) → units ≤ u → u < L c t → nout c t f u ≡ 0
