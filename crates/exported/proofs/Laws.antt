-- What the calls return where an input is accepted and where it is not.
use mathlib.Core.Path.{◌≡◌}
use Prim.Native.Nat.{ℕ, ◌*◌, ◌/◌, ◌<◌, ◌≤◌}
use mathlib.Core.Bool.{true, ◌&&◌}
use mathlib.Core.List.{List}
use mathlib.Core.Option.{none, some}
use lib.ListN.{length}
use native.Mathlib.Omega.{arith}
use borrow.Author.Tests.{le-leb, lt-leb}
use Rattle.lists.specs.Scan.{any_below}
use Rattle.model.specs.Inputs.{O, L, fault_count, Fault}
use Rattle.model.specs.Refusals.{input_rows}
use Rattle.model.specs.Accepted.{ValidInputs}
use Rattle.model.specs.Values.{some_oppose}
use Rattle.model.specs.Simulation.{power_up, outputs_at, plain_outputs}
use Rattle.lanes.specs.Lane.{bit}
use Rattle.lanes.proofs.Bits.{bit-none}
use Rattle.unit.specs.Unit.{Stuck}
use Rattle.faults.specs.Given.{Batch, lane_fault, Given}
use Rattle.faults.proofs.Batch.{valid_batch}
use Rattle.lists.specs.Field.{row_of}
use Rattle.exported.specs.Detected.{unbroken, acceptable, opposed, detected}

module _ (c t fs free : List ℕ) (j : ℕ) where
  pub none-refused : (r : ℕ × ℕ) → input_rows c t 0 64 fs ≡ some r → bit j 0 ≡ detected c t fs free j
  unfolding detected acceptable unbroken
  none-refused r e = rw e (bit-none j)

  pub none-short : input_rows c t 0 64 fs ≡ none → length free < L c t * O c → bit j 0 ≡ detected c t fs free j
  unfolding detected acceptable unbroken
  none-short e h = rw (e, lt-leb (L c t * O c) (length free) h) (bit-none j)

  pub all-accepted : (x : ℕ) → input_rows c t 0 64 fs ≡ none → L c t * O c ≤ length free → bit j x ≡ opposed c t free (lane_fault fs 0 (fault_count fs) j) → bit j x ≡ detected c t fs free j
  unfolding detected acceptable unbroken
  all-accepted x e h d = rw (e, le-leb (L c t * O c) (length free) h) d

-- the whole list is a batch
pub whole_batch : (c t fs : List ℕ) → ValidInputs c t 0 64 fs → Batch fs 0 (length fs / 4) 4096
whole_batch c t fs a = count (valid_batch c fs 0 (fault_count fs) 4096 a.circuit a.fault (omega arith) a.few a.circuit.lines)
  where
    count : Batch fs 0 (fault_count fs) 4096 → Batch fs 0 (length fs / 4) 4096
    count g = unfold fault_count in g

pub given-lane : (fs hits masks : List ℕ) → Given fs 0 (length fs / 4) hits masks → (j : ℕ) → j < 64 → Stuck j hits masks (lane_fault fs 0 (fault_count fs) j)
unfolding fault_count
given-lane fs hits masks g j h = g.lanes j h

pub opposed-plain : (c t free : List ℕ) (f : Fault) (j x wanted units : ℕ) → units ≡ L c t → bit j wanted ≡ true
    → bit j x ≡ (bit j wanted && any_below (λ u. some_oppose (row_of (O c) free u) (outputs_at c t f (power_up c) u)) units) → bit j x ≡ opposed c t free f
unfolding opposed plain_outputs
opposed-plain c t free f j x wanted units e w h = rw (w, e) at h
