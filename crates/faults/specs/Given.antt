-- The faults that the lanes have: byte n of `hits` is the row of line n, 0 for none, and row r of `masks` is the places 5 r to 5 r + 4.
use Rattle.std.specs.Prelude.{ℕ, ◌+◌, ◌*◌, ◌<◌, ◌≤◌, ◌≡◌, cond, List, ltb, get_or, length}
use Rattle.model.specs.Inputs.{Fault, fault_at}
use Rattle.model.specs.Simulation.{no_fault}
use Rattle.lanes.specs.Lane.{lanes_at, all_x}
use Rattle.unit.specs.Unit.{Stuck}

-- no lane has a fault
pub record Blank (hits masks : List ℕ) : Type 0 where
  pub rows : (n : ℕ) → get_or hits n 0 ≡ 0
  pub places : (m : ℕ) → lanes_at masks m ≡ all_x

-- blank but for this pin of this line, in row 1
pub record OnlyAt (line pin : ℕ) (hits masks : List ℕ) : Type 0 where
  pub rows : (n : ℕ) → (n ≡ line → ⊥) → get_or hits n 0 ≡ 0
  pub places : (m : ℕ) → (m ≡ 5 + pin → ⊥) → lanes_at masks m ≡ all_x

-- the masks are blank but for places a to b - 1
pub record Within (a b : ℕ) (masks : List ℕ) : Type 0 where
  pub outside : (m : ℕ) → (a ≤ m → m < b → ⊥) → lanes_at masks m ≡ all_x

-- the masks are blank outside rows 1 to r
abbrev pub RowsTo : ℕ → List ℕ → Type 0
RowsTo r masks = Within 5 (5 * (r + 1)) masks

-- Lane s has the fault `faults s`; rows 1 to r are in use, each by one line at most.
pub record InRows (r : ℕ) (hits masks : List ℕ) (faults : ℕ → Fault) : Type 0 where
  pub rows : (n : ℕ) → get_or hits n 0 ≤ r
  pub apart : (n m : ℕ) → get_or hits n 0 ≡ get_or hits m 0 → (get_or hits n 0 ≡ 0 → ⊥) → n ≡ m
  pub places : RowsTo r masks
  pub lanes : (s : ℕ) → s < 64 → Stuck s hits masks (faults s)

-- lane t, which had no fault, has this one; every other lane has what it had
pub record OneMore (t line pin stuck : ℕ) (before after : ℕ → Fault) : Type 0 where
  pub idle : before t ≡ no_fault
  pub given : ((after t).line ≡ line) × ((after t).pin ≡ pin) × ((after t).value ≡ stuck)
  pub others : (s : ℕ) → (s ≡ t → ⊥) → after s ≡ before s

-- A batch: faults `from` to `from + count - 1` of the list, one to a lane, each on one of so many lines.
pub record Batch (fs : List ℕ) (from count lines : ℕ) : Type 0 where
  pub few : count ≤ 64
  pub room : 4 * (from + count) ≤ length fs
  pub line : (s : ℕ) → s < count → (fault_at fs (from + s)).line < lines
  pub pin : (s : ℕ) → s < count → (fault_at fs (from + s)).pin ≤ 4
  pub value : (s : ℕ) → s < count → (fault_at fs (from + s)).value ≤ 1

-- the fault of lane t
unfoldable pub lane_fault : List ℕ → ℕ → ℕ → ℕ → Fault
lane_fault fs from count t = cond (ltb t count) (fault_at fs (from + t)) no_fault

-- a line that no fault from a to b - 1 names has no row
pub record Named (fs : List ℕ) (a b : ℕ) (hits : List ℕ) : Type 0 where
  pub none : (n : ℕ) → ((j : ℕ) → a ≤ j → j < b → (fault_at fs j).line ≡ n → ⊥) → get_or hits n 0 ≡ 0

-- the batch is given, and nothing but the batch
pub record Given (fs : List ℕ) (from count : ℕ) (hits masks : List ℕ) : Type 0 where
  pub lanes : (t : ℕ) → t < 64 → Stuck t hits masks (lane_fault fs from count t)
  pub lines : Named fs from (from + count) hits
  pub places : RowsTo count masks
