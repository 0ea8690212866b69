-- Every verdict lies between 1 and 7, every field of a record fits its bytes, and the counts sum to 2^m.
use mathlib.Core.Path.{◌≡◌, refl}
use Prim.Native.Nat.{ℕ, zero, suc, ◌+◌, ◌^◌, ◌≤◌, ◌<◌}
use mathlib.Core.Bool.{false}
use mathlib.Core.List.{List}
use lib.ListN.{length, length-append}
use lib.Dec.{eqb}
use lib.Pow.{pow_mono}
use native.Mathlib.Omega.{arith}
use borrow.Author.Tests.{leb-true}
use Rattle.lists.specs.Scan.{tabulate, sum}
use Rattle.model.specs.Inputs.{N, flip_flop_line, F, L, Fault}
use Rattle.model.specs.Values.{has_conflict, some_oppose}
use Rattle.model.specs.Starts.{free_bits, start_count}
use Rattle.model.specs.Sequences.{taken, ending, end_of, count_ending, ends_surviving, ends_differing, ends_clashing}
use Rattle.model.specs.Grade.{placed, counted, grade}
use Rattle.model.specs.Promises.{carries_counts, InBounds}
use Rattle.lists.proofs.Tests.{cond_cases, clash}
use Rattle.lists.proofs.Scan.{count_below-bound}
use Rattle.lists.proofs.Counts.{counts-sum}
use Rattle.model.proofs.Runs.{flip_flop_line-holds}
use Rattle.model.proofs.Pairs.{taken-all}
use Rattle.model.proofs.Stages.{before_case, after_case, grade-cases}

-- ---- a sequence ends in one of three ways
module _ (c t : List ℕ) (f : Fault) where
  ending-bound : (pairs : List (ℕ × ℕ)) (b u left : ℕ) (state : List ℕ) → ending c t f pairs b u left state ≤ 2
  unfolding ending
  ending-bound pairs b u zero state = omega arith
  ending-bound pairs b u (suc left) state =
      cond_cases (λ (e : ℕ). e ≤ 2) (some_oppose _ _) ends_differing _
      (λ _. omega arith)
      (λ _. cond_cases (λ (e : ℕ). e ≤ 2) (has_conflict _) ends_clashing _ (λ _. omega arith) (λ _. ending-bound pairs b (suc u) left _))

  end_of-bound : (pairs : List (ℕ × ℕ)) (b : ℕ) → end_of c t f pairs b ≤ 2
  unfolding end_of
  end_of-bound pairs b = ending-bound pairs b 0 (L c t) _

  endings_sum : (pairs : List (ℕ × ℕ))
      → count_ending c t f pairs ends_differing + count_ending c t f pairs ends_clashing + count_ending c t f pairs ends_surviving ≡ 2 ^ length pairs
  unfolding count_ending sum tabulate
  endings_sum pairs =
      omega (arith, counts-sum (λ b. end_of c t f pairs b) 0 3 (2 ^ length pairs) (λ b _. (omega arith, omega (arith, end_of-bound pairs b))))

  -- ---- no more than k pairs are taken
  taken-bound : (p : List ℕ) (k : ℕ) → length (taken c t f p k) ≤ k
  taken-bound p k = taken-all c t f p k (λ pairs. length pairs ≤ k) (omega arith) (λ pairs u i h _ _. rw length-append (omega arith))

  power_bound : (n k : ℕ) → n ≤ k → k ≤ 12 → 2 ^ n ≤ 4096
  power_bound n k h l = pow_mono {i = n} {j = 12} (omega arith)

  count-bound : (pairs : List (ℕ × ℕ)) (e k : ℕ) → length pairs ≤ k → k ≤ 12 → count_ending c t f pairs e < 65536
  unfolding count_ending
  count-bound pairs e k h l = omega (arith, count_below-bound (λ b. eqb (end_of c t f pairs b) e) (2 ^ length pairs), power_bound (length pairs) k h l)

  -- ---- the record
  placed-bounds : (k v time line : ℕ) → 1 ≤ v → v ≤ 7 → carries_counts v ≡ false → time < 65536 → line < 65536 → InBounds k (placed v time line)
  unfolding placed
  placed-bounds k v time line a b n h l = record {
    low = a;
    high = b;
    pairs = omega arith;
    m = omega arith;
    time = h;
    line = l;
    differing = omega arith;
    clashing = omega arith;
    surviving = omega arith;
    start = omega arith;
    sum = λ e. clash _ e n;
  }

  counted-bounds : (p : List ℕ) (k v start : ℕ) → k ≤ 12 → 1 ≤ v → v ≤ 7 → start < 65536 → InBounds k (counted c t f p k v start)
  unfolding counted
  counted-bounds p k v start l a b h =
      let pairs = taken c t f p k in
      let n : length pairs ≤ k = taken-bound p k in
      record {
        low = a;
        high = b;
        pairs = n;
        m = omega arith;
        time = omega arith;
        line = omega arith;
        differing = count-bound pairs _ k n l;
        clashing = count-bound pairs _ k n l;
        surviving = count-bound pairs _ k n l;
        start = h;
        sum = λ _. endings_sum pairs;
      }

  -- for jobs within the table's limits
  pub bounds : (p : List ℕ) (k : ℕ) → N c ≤ 4096 → L c t ≤ 1024 → k ≤ 12 → InBounds k (grade c t f p k)
  unfolding start_count
  bounds p k n l h =
      grade-cases (InBounds k) c t f p k
      (before_case (InBounds k) c t f
      (λ u m d. placed-bounds k 1 u m (omega arith) (omega arith) refl (omega (arith, d.row)) (omega (arith, d.place)))
      (λ _ _. placed-bounds k 5 0 0 (omega arith) (omega arith) refl (omega arith) (omega arith))
      (λ u i d. pair u i d.row d.place)
      (λ u i d. pair u i d.row d.place))
      (after_case (InBounds k) c t f p k
      (λ _. counted-bounds p k 3 0 h (omega arith) (omega arith) (omega arith))
      (λ _ _. counted-bounds p k 4 0 h (omega arith) (omega arith) (omega arith))
      (λ s e d. counted-bounds p k 6 s h (omega arith) (omega arith) (omega (arith, d.below, power_bound (free_bits c) k (leb-true _ _ e) h)))
      (λ _. counted-bounds p k 7 0 h (omega arith) (omega arith) (omega arith)))
    where
      pair : (u i : ℕ) → u < L c t → i < F c → InBounds k (placed 2 u (flip_flop_line c i))
      pair u i r q = placed-bounds k 2 u (flip_flop_line c i) (omega arith) (omega arith) refl (omega arith) (omega (arith, (flip_flop_line-holds c i q).0))
