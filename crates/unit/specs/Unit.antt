-- Which fault each lane has, as the engine reads it.
use Rattle.std.specs.Prelude.{ℕ, ◌+◌, ◌*◌, ◌<◌, ◌≡◌, false, List, get_or, length}
use Rattle.model.specs.Inputs.{pin_count, I, F, Fault}
use Rattle.model.specs.Values.{X, invert_if}
use Rattle.model.specs.Simulation.{is_stuck, seen, pin_seen, behind}
use Rattle.lanes.specs.declared.Lanes.{Lanes}
use Rattle.lanes.specs.Lane.{Holds, At, stored, Lane, Room}
use Rattle.circuit.specs.Table.{pin_read, is_or}

-- A row of five masks, for a line itself and its pins 1 to 4, says what is seen there in each lane if X stands behind; row 0 says nothing.
-- In lane t the row holds what the fault f fixes at line n.
pub record StuckAt (t : ℕ) (masks : List ℕ) (row : ℕ) (f : Fault) (n : ℕ) : Type 0 where
  pub binary : f.value < 2
  pub free : row ≡ 0 → (pin : ℕ) → is_stuck f n pin ≡ false
  pub held : (row ≡ 0 → ⊥) → (pin : ℕ) → pin < 5
      → At t masks (5 * row + pin) (seen f n pin X)

-- the list has 256 rows of masks
abbrev pub MaskRoom : List ℕ → Type 0
MaskRoom masks = Room (5 * 256) masks

-- lane t has the fault f: byte n of `hits` is the row of line n
pub record Stuck (t : ℕ) (hits masks : List ℕ) (f : Fault) : Type 0 where
  pub lane : t < 64
  pub at : (n : ℕ) → n < length hits → StuckAt t masks (get_or hits n 0) f n

-- what pin p of gate n is read as by the table of pins: of OR the inverse, and pin 1 again for a pin that the gate does not have
unfoldable pub pin_tabled : List ℕ → Fault → List ℕ → ℕ → ℕ → ℕ
pin_tabled c f vs n p = invert_if (is_or c n) (pin_seen c f vs n (pin_read (pin_count c n) p))

-- line n is stored: in each lane what is seen there, by the values of the lines below it
pub record LineStored (c inputs state masks words after : List ℕ) (n row : ℕ) : Type 0 where
  pub value : Lanes
  pub put : after ≡ stored words n value
  pub holds : (t : ℕ) (f : Fault) (ins st vs : List ℕ) → StuckAt t masks row f n → Lane t inputs ins → length ins ≡ I c → Lane t state st → length st ≡ F c
      → Lane t words vs → length vs ≡ n → Holds t value (seen f n 0 (behind c f ins st vs n))
