-- What one fault's stages ask for and give.
use Rattle.std.specs.Prelude.{◌≡◌, Bool, true, false, List, ℕ, ◌*◌, ◌<◌, length, drop}
use Rattle.std.proofs.Math.Option.{none}
use Rattle.lists.specs.Field.{overwritten, Rows}
use Rattle.model.specs.Inputs.{N, F, O, L, Fault}
use Rattle.model.specs.Accepted.{ThreeValued}
use Rattle.model.specs.Values.{some_oppose}
use Rattle.model.specs.Simulation.{outputs, plain_state, plain_outputs, free_outputs}
use Rattle.model.specs.Sequences.{taken, count_ending, ends_differing, ends_clashing, ends_surviving}
use Rattle.model.specs.Grade.{stage1, before_stage5}
use Rattle.sequences.specs.declared.Endings.{Endings}
use Rattle.lanes.specs.Lane.{Lane}
use Rattle.unit.specs.Unit.{Stuck}

-- The tables of a fault's plain run, with a row a unit: the fault-free responses, the fault's, and its states.
pub record PlainTables (c t free faulty states : List ℕ) (f : Fault) : Type 0 where
  pub frees : Rows (O c) (L c t) free (λ u. free_outputs c t u)
  pub shown : Rows (O c) (L c t) faulty (λ u. plain_outputs c t f u)
  pub plain : Rows (F c) (L c t) states (λ u. plain_state c t f u)

-- the tables of the fault that lane 0 has: its responses are behind the fault-free ones in the work area
pub record Traced (c t hits masks states work : List ℕ) : Type 0 where
  pub tables : (f : Fault) → Stuck 0 hits masks f → PlainTables c t work (drop (L c t * O c) work) states f

-- What the outputs show in lanes 1 and 0, at the beginnings of two areas, and whether an output opposes.
pub record ShownBoth (c hits masks words free free' faulty faulty' : List ℕ) (opposed : Bool) : Type 0 where
  pub at : (f g : Fault) (vs ws : List ℕ) → Stuck 0 hits masks f → Stuck 1 hits masks g → Lane 0 words vs → Lane 1 words ws → length vs ≡ N c → length ws ≡ N c → ThreeValued vs → ThreeValued ws
      → (free' ≡ overwritten (outputs c g ws) free) × (faulty' ≡ overwritten (outputs c f vs) faulty) × (opposed ≡ some_oppose (outputs c g ws) (outputs c f vs))

-- Of a fault's plain run beside the fault-free one: whether stage 1 gives a verdict, and where it gives none the tables.
pub record Beside (c t : List ℕ) (f : Fault) (free faulty states : List ℕ) (opposed : Bool) : Type 0 where
  pub met : opposed ≡ true → stage1 c t f ≡ none → ⊥
  pub unmet : opposed ≡ false → stage1 c t f ≡ none
  pub tables : opposed ≡ false → PlainTables c t free faulty states f

-- Stages 1 to 4 gave no verdict, and the sequences of the plan's taken pairs are counted.
pub record Concluding (c t free hits masks p : List ℕ) (k m : ℕ) (ends : Endings) (f : Fault) : Type 0 where
  pub stuck : (lane : ℕ) → lane < 64 → Stuck lane hits masks f
  pub frees : Rows (O c) (L c t) free (λ u. free_outputs c t u)
  pub before : before_stage5 c t f ≡ none
  pub pairs : m ≡ length (taken c t f p k)
  pub differing : ends.differing ≡ count_ending c t f (taken c t f p k) ends_differing
  pub clashing : ends.clashing ≡ count_ending c t f (taken c t f p k) ends_clashing
  pub surviving : ends.surviving ≡ count_ending c t f (taken c t f p k) ends_surviving
