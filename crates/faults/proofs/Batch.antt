-- A batch of faults, lane by lane: which fault each lane has, and which lines have a row.
use mathlib.Core.Path.{◌≡◌, sym, ◌∙◌}
use mathlib.Core.List.{List}
use Prim.Native.Nat.{ℕ, suc, ◌+◌, ◌*◌, ◌<◌, ◌≤◌}
use native.Mathlib.Omega.{arith}
use native.Mathlib.Decide.{dec_le}
use borrow.Author.Tests.{lt-ltb, le-ltb}
use lib.ListN.{length, get_or}
use Rattle.model.specs.Inputs.{N, fault_count, fault_at}
use Rattle.model.specs.Accepted.{ValidCircuit, ValidFault}
use Rattle.model.specs.Simulation.{no_fault}
use Rattle.faults.specs.Given.{Blank, InRows, OneMore, Batch, lane_fault, Named, Given}
use Rattle.faults.proofs.Laws.{blank-rows}

-- faults of an accepted list
pub valid_batch : (c fs : List ℕ) (from count lines : ℕ) → ValidCircuit c → ((j : ℕ) → j < fault_count fs → ValidFault c (fault_at fs j)) → from + count ≤ fault_count fs
    → count ≤ 64 → N c ≤ lines → Batch fs from count lines
valid_batch c fs from count lines circuit faults all few wide =
    let at : (s : ℕ) → s < count → ValidFault c (fault_at fs (from + s)) = λ s h. faults (from + s) (omega arith) in record {
      few = few;
      room = whole;
      line = λ s h. omega (arith, (at s h).line);
      pin = λ s h. omega (arith, (at s h).pin, circuit.few (fault_at fs (from + s)).line (at s h).line);
      value = λ s h. (at s h).value;
    }
  where
    whole : 4 * (from + count) ≤ length fs
    whole = unfold fault_count in omega arith

-- the first lanes of a batch, one more at a time
module _ (fs : List ℕ) (from : ℕ) where
  lane-free : (t s : ℕ) → t ≤ s → lane_fault fs from t s ≡ no_fault
  unfolding lane_fault
  lane-free t s h = rw (le-ltb s t h)

  lane-last : (t : ℕ) → lane_fault fs from (t + 1) t ≡ fault_at fs (from + t)
  unfolding lane_fault
  lane-last t = rw (lt-ltb t (t + 1) (omega arith))

  lane-other : (t s : ℕ) → (s ≡ t → ⊥) → lane_fault fs from (t + 1) s ≡ lane_fault fs from t s
  unfolding lane_fault
  lane-other t s ne = elim (dec_le (suc s) t) [
    | yes g ↦ rw (lt-ltb s t (omega arith), lt-ltb s (t + 1) (omega arith))
    | no g ↦ rw (le-ltb s t (omega arith), le-ltb s (t + 1) (omega arith))
  ]

  pub batch_none : {hits masks : List ℕ} → Blank hits masks → length hits ≤ 65536 → InRows 0 hits masks (lane_fault fs from 0)
  batch_none b l = blank-rows b l (λ s. lane-free 0 s (omega arith))

  pub batch_more : {t line pin stuck : ℕ} → line ≡ (fault_at fs (from + t)).line → pin ≡ (fault_at fs (from + t)).pin → stuck ≡ (fault_at fs (from + t)).value
      → OneMore t line pin stuck (lane_fault fs from t) (lane_fault fs from (t + 1))
  batch_more {t} el ep ev = record { idle = lane-free t t (omega arith); given = rw (lane-last t) (sym el, sym ep, sym ev); others = lane-other t }

-- the lines that the faults name, with one fault more at the end
pub named_more : {fs : List ℕ} {a b b' line : ℕ} {hits hits' : List ℕ} → Named fs a b hits → b' ≡ b + 1 → a ≤ b → line ≡ (fault_at fs b).line
    → ((n : ℕ) → (n ≡ line → ⊥) → get_or hits' n 0 ≡ get_or hits n 0) → Named fs a b' hits'
named_more {b = b} old e l el kept = record { none = λ n h. kept n (λ g. h b l (omega arith) (sym el ∙ sym g)) ∙ old.none n (λ j p q. h j p (omega arith)) }

pub blank-named : {fs : List ℕ} {a b : ℕ} {hits masks : List ℕ} → Blank hits masks → Named fs a b hits
blank-named b = record { none = λ n h. b.rows n }

pub batch_all : {fs : List ℕ} {from count t : ℕ} {hits masks : List ℕ} → t ≡ count → InRows t hits masks (lane_fault fs from t) → Named fs from (from + t) hits
    → Given fs from count hits masks
batch_all e b lines = rw (← e) record { lanes = b.lanes; lines = lines; places = b.places }
