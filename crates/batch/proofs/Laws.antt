-- An area in which records are written in place of marks: what is written behind stays, and what a pack has found.
use mathlib.Core.Path.{◌≡◌, sym, ap, ◌∙◌}
use mathlib.Core.Bool.{cond}
use mathlib.Core.List.{List, ◌++◌}
use Prim.Native.Nat.{ℕ, ◌+◌, ◌*◌, ◌-◌, ◌/◌, ◌≤◌}
use native.Mathlib.Omega.{arith}
use lib.ListN.{get_or, length, take, drop, length-append, take-append-drop}
use lib.Seq.{length-take-le, drop_at, drop-drop, get_or-drop}
use Rattle.lists.specs.Field.{overwritten, row_of}
use Rattle.lists.proofs.Field.{written_behind}
use Rattle.lists.proofs.Scan.{count_below-turn}
use Rattle.model.specs.Inputs.{L, fault_count, fault_at}
use Rattle.model.specs.Accepted.{ValidInputs}
use Rattle.model.specs.Grade.{Verdict, record_bytes}
use Rattle.model.proofs.Records.{length-record}
use Rattle.plain.specs.declared.Firsts.{Firsts}
use Rattle.places.specs.Found.{Faults, FirstOf, Found}
use Rattle.sieve.specs.declared.Pack.{Pack}
use Rattle.sieve.specs.Sieve.{is_mark, marks_below, Sieved, Packed}
use Rattle.batch.specs.Batch.{SameFrom, PackFound}

-- ---- a record is written
-- what stands behind it stays
pub record-kept : (w : Verdict) (j : ℕ) (area end : List ℕ) → 16 * j ≤ length area → end ≡ overwritten (record_bytes w) (take (length area - 16 * j) (drop (16 * j) area))
    → SameFrom (j + 1) area (take (16 * j) area ++ (end ++ drop (length area - 16 * j) (drop (16 * j) area)))
unfolding overwritten
record-kept w j area end h e =
    let front : length (take (16 * j) area) ≡ 16 * j = length-take-le (16 * j) area h in
    let size : length (take (16 * j) area ++ record_bytes w) ≡ 16 * (j + 1) = omega (arith, length-append (take (16 * j) area) (record_bytes w), front, length-record w) in
    let same : area ≡ overwritten (take (16 * j) area) area = rw front (sym (take-append-drop (16 * j) area)) in
    record {
      same =
          ap (drop (16 * (j + 1))) (written_behind (take (16 * j) area) (record_bytes w) area area end (16 * j) same front e)
          ∙ drop_at (take (16 * j) area ++ record_bytes w) _ (16 * (j + 1)) size ∙ rw size;
    }

-- ---- two areas that are the same from record j on
module _ {before after : List ℕ} {j : ℕ} (kept : SameFrom j before after) where
  drop_as : (i : ℕ) → j ≤ i → drop (16 * i) after ≡ drop (16 * i) before
  drop_as i h =
      let more : 16 * j + (16 * i - 16 * j) ≡ 16 * i = omega arith in
      rw (← more, ← drop-drop (16 * i - 16 * j) (16 * j) after, ← drop-drop (16 * i - 16 * j) (16 * j) before, kept.same)

  pub kept_from : (i : ℕ) → j ≤ i → SameFrom i before after
  kept_from i h = record { same = drop_as i h }

  pub mark_as : (i : ℕ) → j ≤ i → is_mark after i ≡ is_mark before i
  unfolding is_mark
  mark_as i h =
      let first : (area : List ℕ) → get_or (drop (16 * i) area) 0 0 ≡ get_or area (16 * i) 0 = λ area. get_or-drop (16 * i) area 0 0 ∙ (let none : 16 * i + 0 ≡ 16 * i = omega arith in rw none) in
      rw (← first after, ← first before, drop_as i h)

  pub sieved_as : {c t fs : List ℕ} {from to : ℕ} → from ≤ j → Sieved c t fs from to before → Sieved c t fs j to after
  unfolding row_of
  sieved_as h s = record { at = λ i l b e p k. rw (drop_as i l) (s.at i (omega arith) b (sym (mark_as i l) ∙ e) p k) }

pub kept_more : {first before after : List ℕ} {j : ℕ} → SameFrom j first before → SameFrom j before after → SameFrom j first after
kept_more a b = record { same = b.same ∙ a.same }

-- of fewer faults
pub sieved-part : {c t fs area : List ℕ} {from to most : ℕ} → to ≤ most → Sieved c t fs from most area → Sieved c t fs from to area
sieved-part h s = record { at = λ i l b e p k. s.at i l (omega arith) e p k }

-- ---- marks are counted
pub marks-turn : (area : List ℕ) (j : ℕ) → marks_below area (j + 1) ≡ marks_below area j + cond (is_mark area j) 1 0
unfolding marks_below
marks-turn area j = count_below-turn (λ i. is_mark area i) j

-- ---- a pack
-- the list's faults, as code counts them
pub packed_as : {fs area few : List ℕ} {from : ℕ} {pack : Pack} → Packed fs area from (length fs / 4) few pack → Packed fs area from (fault_count fs) few pack
unfolding fault_count
packed_as packed = packed

module _ {c t fs area few : List ℕ} {from : ℕ} {pack : Pack} (packed : Packed fs area from (fault_count fs) few pack) where
  -- its faults are faults of the list
  pub pack-faults : {least most : ℕ} → ValidInputs c t least most fs → 256 ≤ length few → Faults c few 0 pack.size
  pack-faults valid room = record {
    few = packed.lanes;
    room = omega (arith, packed.lanes);
    valid = λ s h. let none : 0 + s ≡ s = omega arith in let of = packed.faults s h in rw (none, of.2) (valid.fault of.0 of.1);
  }

  -- what stage 1 finds of them it finds of the faults with a mark
  pub pack-found : {firsts : Firsts} {units : ℕ} {times lines : List ℕ} → units ≡ L c t → Found c t few 0 pack.size units firsts times lines
      → PackFound c t fs area from pack.to firsts times lines
  pack-found {firsts} {times = times} {lines = lines} all found = record {
    of = λ j lane l b e counted.
        let at = packed.at j lane l b e counted in
        let none : 0 + lane ≡ lane = omega arith in
        let of : FirstOf c t (fault_at few (0 + lane)) (L c t) firsts lane times lines = rw (← all) (found.of lane at.0) in
        (omega (arith, at.0, packed.lanes), rw (none, at.1) at of);
  }
