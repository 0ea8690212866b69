-- What a step of the passes asks for, and what it gives in each lane.
use Rattle.std.specs.Prelude.{ℕ, ◌<◌, ◌≤◌, ◌≡◌, false, List, length}
use Rattle.model.specs.Inputs.{N, kind, pin_count, Fault}
use Rattle.model.specs.Accepted.{ValidCircuit}
use Rattle.model.specs.Values.{invert_if, inverts, has_conflict}
use Rattle.model.specs.Simulation.{pins_seen}
use Rattle.model.specs.Implication.{give_pins, down, up, down_line, up_line}
use Rattle.lanes.specs.declared.Lanes.{Lanes}
use Rattle.lanes.specs.Lane.{bit, Holds, Room, Follows}
use Rattle.unit.specs.Unit.{StuckAt, Stuck, MaskRoom}

-- gate n, of kind k, whose line has this row of masks
pub record GateAt (c masks words : List ℕ) (n k row : ℕ) : Type 0 where
  pub circuit : ValidCircuit c
  pub line : n < N c
  pub kind : k ≡ kind c n
  pub gate : 2 ≤ k
  pub mask_room : MaskRoom masks
  pub fits : row < 256
  pub room : Room (N c) words

-- the gate, at v before it inverts, has implied its pins
pub record PinsGiven (c masks words words' : List ℕ) (n k row : ℕ) (v : Lanes) : Type 0 where
  pub lane : (t : ℕ) (f : Fault) (vs : List ℕ) (a : ℕ) → StuckAt t masks row f n → length vs ≡ N c → a < 3 → (has_conflict vs ≡ false → Holds t v (invert_if (inverts k) a))
      → Follows t words vs → Follows t words' (give_pins c f n a (pins_seen c f vs n) 0 (pin_count c n) vs)

-- line n's step down, and its step up
pub record SteppedDown (c masks words words' : List ℕ) (n row : ℕ) : Type 0 where
  pub lane : (t : ℕ) (f : Fault) (vs : List ℕ) → StuckAt t masks row f n → length vs ≡ N c → Follows t words vs → Follows t words' (down_line c f vs n)

pub record SteppedUp (c masks words words' : List ℕ) (n row : ℕ) : Type 0 where
  pub lane : (t : ℕ) (f : Fault) (vs : List ℕ) → StuckAt t masks row f n → length vs ≡ N c → Follows t words vs → Follows t words' (up_line c f vs n)

-- what both passes ask for
pub record Passable (c hits masks words : List ℕ) (lines : ℕ) : Type 0 where
  pub circuit : ValidCircuit c
  pub size : lines ≡ N c
  pub hit_room : N c ≤ length hits
  pub mask_room : MaskRoom masks
  pub room : Room (N c) words

-- the pass down, and the pass up
pub record PassedDown (c hits masks words words' : List ℕ) : Type 0 where
  pub lane : (t : ℕ) (f : Fault) (vs : List ℕ) → Stuck t hits masks f → length vs ≡ N c → Follows t words vs → Follows t words' (down c f (N c) vs)

pub record PassedUp (c hits masks words words' : List ℕ) : Type 0 where
  pub lane : (t : ℕ) (f : Fault) (vs : List ℕ) → Stuck t hits masks f → length vs ≡ N c → Follows t words vs → Follows t words' (up c f (N c) vs)

-- both passes, and the lanes that have met a conflict
pub record Implied (c hits masks words words' : List ℕ) (found : ℕ) : Type 0 where
  pub lane : (t : ℕ) (f : Fault) (vs : List ℕ) → Stuck t hits masks f → length vs ≡ N c → Follows t words vs
      → Follows t words' (up c f (N c) (down c f (N c) vs)) × (bit t found ≡ has_conflict (up c f (N c) (down c f (N c) vs)))
