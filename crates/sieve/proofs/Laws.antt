-- What the records and marks of a sieved area are, and a pack fault by fault.
use mathlib.Core.Path.{◌≡◌, refl, ap, ◌∙◌}
use mathlib.Core.Bool.{Bool, true, false, cond}
use mathlib.Core.List.{List, ◌++◌}
use mathlib.Core.Option
use mathlib.Core.Option.{Option, none, some, or_else}
use Prim.Native.Nat.{ℕ, suc, ◌+◌, ◌*◌, ◌<◌, ◌≤◌}
use native.Mathlib.Omega.{arith}
use native.Mathlib.Decide.{dec_le}
use borrow.Author.Tests.{eq-eqb, ne_eqb, eqb-false}
use Rattle.std.proofs.Common.{◌-◌, get_or, length, take, drop, add-zero, length-drop}
use Rattle.std.proofs.lemmas.List.{length-take-le, get_or-take, get_or-drop, get_or_append_left, get_or-append_right}
use Rattle.lists.specs.Scan.{first_pair}
use Rattle.lists.specs.Field.{word16, bytes16, row_of}
use Rattle.lists.proofs.Scan.{count_below-turn, first_pair-more}
use Rattle.lists.proofs.Field.{byte-of-part}
use Rattle.lists.proofs.Tests.{clash}
use Rattle.model.specs.Inputs.{N, L, Fault, fault_count, fault_at}
use Rattle.model.specs.Grade.{Verdict, placed, at_pair, opposed_at, stage1, before_stage5, grade, record_bytes}
use Rattle.lanes.specs.Lane.{bit}
use Rattle.plain.specs.declared.Firsts.{Firsts}
use Rattle.record.specs.Record.{RecordsOf}
use Rattle.record.proofs.Laws.{records-row, records-behind}
use Rattle.places.specs.Found.{FirstOf}
use Rattle.sieve.specs.Sieve.{early, noted, is_mark, marks_below, SievedAll, CopiedTo, Packed}

-- ---- records and marks
pub mark_true : (area : List ℕ) (j : ℕ) → get_or area (16 * j) 0 ≡ 0 → is_mark area j ≡ true
unfolding is_mark
mark_true area j e = eq-eqb (get_or area (16 * j) 0) 0 e

pub mark-false : (area : List ℕ) (j : ℕ) → (get_or area (16 * j) 0 ≡ 0 → ⊥) → is_mark area j ≡ false
unfolding is_mark
mark-false area j h = ne_eqb (get_or area (16 * j) 0) 0 h

-- a record that is no mark has a verdict
no-mark : (area : List ℕ) (j : ℕ) (v : Verdict) → row_of 16 area j ≡ record_bytes v → is_mark area j ≡ false → v.verdict ≡ 0 → ⊥
unfolding is_mark row_of record_bytes bytes16
no-mark area j v e m z =
    let here : 16 * j ≡ 16 * j + 0 = omega arith in
    eqb-false (get_or area (16 * j) 0) 0 m
    (ap (λ i. get_or area i 0) here ∙ byte-of-part area (16 * j) 16 0 (omega arith) ∙ ap (λ row. get_or row 0 0) e ∙ z)

-- verdict 1 at a pair, the mark where there is none
abbrev shown_at : Option (ℕ × ℕ) → Verdict
shown_at pair = Option.get_or (at_pair (λ u n. placed 1 u n) pair) (placed 0 0 0)

-- what a lane has found is what stage 1 gives over the first units
pub early-noted : {c t : List ℕ} {f : Fault} {units : ℕ} {firsts : Firsts} {lane : ℕ} {times lines : List ℕ}
    → FirstOf c t f units firsts lane times lines → early c t units f ≡ noted firsts lane times lines
unfolding early noted at_pair
early-noted {firsts = firsts} {lane = lane} known = rw known.place (by_bit (bit lane firsts.found) _)
  where
    by_bit : (b : Bool) (q : ℕ × ℕ) → shown_at (cond b (some q) none) ≡ cond b (placed 1 q.0 q.1) (placed 0 0 0)
    by_bit true q = refl
    by_bit false q = refl

module _ (c t : List ℕ) (units : ℕ) (most : units ≤ L c t) where
  -- where that is a verdict, it is the fault's
  early-graded : (f : Fault) → ((early c t units f).verdict ≡ 0 → ⊥) → (p : List ℕ) (k : ℕ) → early c t units f ≡ grade c t f p k
  unfolding early grade before_stage5 stage1 at_pair or_else placed
  early-graded f verdict p k = by-pair (first_pair (λ u n. opposed_at c t f u n) units (N c)) refl verdict
    where
      by-pair : (pair : Option (ℕ × ℕ)) → first_pair (λ u n. opposed_at c t f u n) units (N c) ≡ pair → ((shown_at pair).verdict ≡ 0 → ⊥)
          → shown_at pair ≡ grade c t f p k
      by-pair none e verdict = absurd (verdict refl)
      by-pair (some q) e verdict = rw (first_pair-more (λ u n. opposed_at c t f u n) units (N c) (L c t) q e most)

  pub sieved-all : (fs : List ℕ) {n : ℕ} {old area : List ℕ} → n ≡ fault_count fs → RecordsOf (λ j. early c t units (fault_at fs j)) n old area
      → SievedAll c t fs old area
  sieved-all fs {area = area} all r = record {
    sieved = record {
      at = λ j _ h m p k.
          let row = records-row r j (omega arith) in
          row ∙ ap record_bytes (early-graded (fault_at fs j) (no-mark area j (early c t units (fault_at fs j)) row m) p k);
    };
    behind = rw all at (records-behind r);
  }

-- ---- four bytes copied, in place of four
module _ (fs few part : List ℕ) (j s : ℕ) (inside : 4 * j + 4 ≤ length fs) (room : 4 * s + 4 ≤ length few) (same : part ≡ take (4 * j + 4 - 4 * j) (drop (4 * j) fs)) where
  front : length (take (4 * s) few) ≡ 4 * s
  front = length-take-le (4 * s) few (omega arith)

  long : length part ≡ 4
  long = rw (same, length-take-le (4 * j + 4 - 4 * j) (drop (4 * j) fs) (rw length-drop (omega arith))) (omega arith)

  byte : (rest : List ℕ) (k : ℕ) → k < 4 → get_or (take (4 * s) few ++ (part ++ rest)) (4 * s + k) 0 ≡ get_or fs (4 * j + k) 0
  byte rest k h =
      let own : 4 * s + k - 4 * s ≡ k = omega arith in
      get_or-append_right (take (4 * s) few) (part ++ rest) (4 * s) (4 * s + k) 0 front (omega arith) ∙ ap (λ i. get_or (part ++ rest) i 0) own
      ∙ get_or_append_left part rest 0 k (omega (arith, long)) ∙ ap (λ row. get_or row k 0) same
      ∙ get_or-take (4 * j + 4 - 4 * j) (drop (4 * j) fs) k 0 (omega arith) ∙ get_or-drop (4 * j) fs k 0

  first_byte : (rest : List ℕ) → get_or (take (4 * s) few ++ (part ++ rest)) (4 * s) 0 ≡ get_or fs (4 * j) 0
  first_byte rest = simp add-zero at (byte rest 0 (omega arith))

  kept : (rest : List ℕ) (i : ℕ) → i < 4 * s → get_or (take (4 * s) few ++ (part ++ rest)) i 0 ≡ get_or few i 0
  kept rest i h = get_or_append_left (take (4 * s) few) (part ++ rest) 0 i (omega (arith, front)) ∙ get_or-take (4 * s) few i 0 h

  -- a fault copied
  pub copied : CopiedTo fs j s few (take (4 * s) few ++ (part ++ drop (4 * s + 4 - 4 * s) (drop (4 * s) few)))
  unfolding fault_at word16
  copied = record {
    here = rw (first_byte _, byte _ 1 (omega arith), byte _ 2 (omega arith), byte _ 3 (omega arith));
    others = λ i h. rw (kept _ (4 * i) (omega arith), kept _ (4 * i + 1) (omega arith), kept _ (4 * i + 2) (omega arith), kept _ (4 * i + 3) (omega arith));
  }

-- ---- a pack that has come to fault j: so many open faults, in order
pub record Packing (fs area : List ℕ) (from most : ℕ) (few : List ℕ) (size j : ℕ) : Type 0 where
  pub lanes : size ≤ 64
  pub passed : from + size ≤ j
  pub below : j ≤ most
  pub counted : marks_below area from + size ≡ marks_below area j
  pub faults : (s : ℕ) → s < size → (i : ℕ) × (i < most) × (fault_at few s ≡ fault_at fs i)
  pub at : (i s : ℕ) → from ≤ i → i < j → is_mark area i ≡ true → marks_below area from + s ≡ marks_below area i
      → (s < size) × (fault_at few s ≡ fault_at fs i)

pub packing_none : (fs area : List ℕ) (from most : ℕ) (few : List ℕ) → from ≤ most → Packing fs area from most few 0 from
packing_none fs area from most few h = record {
  lanes = omega arith;
  passed = omega arith;
  below = h;
  counted = omega arith;
  faults = λ s l. absurd (let z : ⊥ = omega arith in z);
  at = λ i s l k _ _. absurd (let z : ⊥ = omega arith in z);
}

module _ {fs area : List ℕ} {from most : ℕ} {few : List ℕ} {size j : ℕ} (p : Packing fs area from most few size j) (h : j < most) where
  -- fault j has its record
  pub packing_past : is_mark area j ≡ false → Packing fs area from most few size (j + 1)
  unfolding marks_below
  packing_past m = record {
    lanes = p.lanes;
    passed = omega (arith, p.passed);
    below = omega arith;
    counted = rw (count_below-turn (λ i. is_mark area i) j, m) (omega (arith, p.counted));
    faults = p.faults;
    at = λ i s l k mark e. elim (dec_le (suc i) j) [
      | yes q ↦ p.at i s l q mark e
      | no q ↦ (let z : i ≡ j = omega arith in clash _ mark (rw z m))
    ];
  }

  -- fault j is open, and goes into the pack
  pub packing_more : {few' : List ℕ} → is_mark area j ≡ true → size < 64 → CopiedTo fs j size few few'
      → Packing fs area from most few' (size + 1) (j + 1)
  unfolding marks_below
  packing_more m room copy = record {
    lanes = omega arith;
    passed = omega (arith, p.passed);
    below = omega arith;
    counted = rw (count_below-turn (λ i. is_mark area i) j, m) (omega (arith, p.counted));
    faults = λ s l. elim (dec_le (suc s) size) [
      | yes q ↦ (let old = p.faults s q in (old.0, old.1, copy.others s q ∙ old.2))
      | no q ↦ (let z : s ≡ size = omega arith in (j, h, rw z copy.here))
    ];
    at = λ i s l k mark e. elim (dec_le (suc i) j) [
      | yes q ↦ (let old = p.at i s l q mark e in (omega (arith, old.0), copy.others s old.0 ∙ old.1))
      | no q ↦ (
          let z : i ≡ j = omega arith in
          let w : s ≡ size = omega (arith, rw z at e, p.counted) in
          (omega arith, rw (z, w) copy.here))
    ];
  }

-- and there the pack ends
pub packed : {fs area : List ℕ} {from most : ℕ} {few : List ℕ} {size j : ℕ} → Packing fs area from most few size j → (from < most → from < j)
    → Packed fs area from most few record { size = size; to = j }
packed p onward = record { lanes = p.lanes; above = omega (arith, p.passed); below = p.below; onward = onward; faults = p.faults; at = p.at }
