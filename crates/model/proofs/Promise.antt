-- Demand 3 of a fault's verdict, over all six stages.
use mathlib.Core.Path.{◌≡◌}
use Prim.Native.Nat.{ℕ, ◌≤◌, ◌<◌}
use mathlib.Core.List.{List}
use mathlib.Core.Bool.{false}
use lib.Pow.{pow_pos}
use native.Mathlib.Omega.{arith}
use borrow.Author.Tests.{leb-false, not-true, not-false}
use Rattle.lists.proofs.Tests.{clash}
use Rattle.model.specs.Inputs.{Fault}
use Rattle.model.specs.Starts.{free_bits, start_count, differs}
use Rattle.model.specs.Grade.{Verdict, placed, counted, grade}
use Rattle.model.specs.Promises.{EveryDiffers, LowestNever, Promise}
use Rattle.model.proofs.Sound.{FaultJob, stage1-sound, stage2-sound, stage3-sound, stage4-sound, stage5-sound}
use Rattle.model.proofs.Stages.{before_case, after_case, grade-cases}

-- ---- the three ways to keep the promise
module _ (c t : List ℕ) (f : Fault) (k : ℕ) where
  every-differs : (v start : ℕ) → 1 ≤ v → v ≤ 4 → EveryDiffers c t f → Promise c t f k v start
  every-differs v start l h d = record {
    detected = λ _ _. d;
    undetected = λ g. absurd (let z : ⊥ = omega arith in z);
    names = λ g. absurd (let z : ⊥ = omega arith in z);
    exactly_detected = λ _. (λ _. d, λ _. (l, h));
    exactly_undetected = λ _. (λ g. absurd (let z : ⊥ = omega arith in z), λ n. clash _ (d n.0 n.1) n.2);
    decided = λ _ g. (let z : ⊥ = omega arith in z);
  }

  one-never : (v start s : ℕ) → 5 ≤ v → v ≤ 6 → s < start_count c → differs c t f s ≡ false → (v ≡ 6 → LowestNever c t f start)
      → Promise c t f k v start
  one-never v start s l h b d n = record {
    detected = λ _ g. absurd (let z : ⊥ = omega arith in z);
    undetected = λ _ _. (s, b, d);
    names = n;
    exactly_detected = λ _. (λ g. absurd (let z : ⊥ = omega arith in z), λ e. clash _ (e s b) d);
    exactly_undetected = λ _. (λ _. (s, b, d), λ _. (l, h));
    decided = λ _ g. (let z : ⊥ = omega arith in z);
  }

  undecided : (start : ℕ) → k < free_bits c → Promise c t f k 7 start
  undecided start h = record {
    detected = λ _ g. absurd (let z : ⊥ = omega arith in z);
    undetected = λ _ g. absurd (let z : ⊥ = omega arith in z);
    names = λ g. absurd (let z : ⊥ = omega arith in z);
    exactly_detected = λ g. absurd (let z : ⊥ = omega arith in z);
    exactly_undetected = λ g. absurd (let z : ⊥ = omega arith in z);
    decided = λ g. absurd (let z : ⊥ = omega arith in z);
  }

start-zero : (c : List ℕ) → 0 < start_count c
unfolding start_count
start-zero c = pow_pos (free_bits c)

-- for every plan and k
pub promise : (c t : List ℕ) (f : Fault) → FaultJob c t f → (p : List ℕ) (k : ℕ)
    → Promise c t f k (grade c t f p k).verdict (grade c t f p k).start
unfolding placed counted
promise c t f a p k =
    let Q : Verdict → Type 0 = λ v. Promise c t f k v.verdict v.start in
    grade-cases Q c t f p k
    (before_case Q c t f
    (λ u n h. every-differs c t f k 1 0 (omega arith) (omega arith) (λ s _. stage1-sound c t f a u n h.row h.place h.passes s))
    (λ n e. one-never c t f k 5 0 0 (omega arith) (omega arith) (start-zero c) (stage2-sound c t f a n e 0)
    (λ g. absurd (let z : ⊥ = omega arith in z)))
    (λ u i h. every-differs c t f k 2 0 (omega arith) (omega arith) (λ s _. stage3-sound c t f a u i h.row h.place h.passes s))
    (λ u i h. every-differs c t f k 2 0 (omega arith) (omega arith) (λ s _. stage4-sound c t f a u i h.row h.place h.passes s)))
    (after_case Q c t f p k
    (λ e. every-differs c t f k 3 0 (omega arith) (omega arith) (λ s _. stage5-sound c t f a p k e s))
    (λ _ e. every-differs c t f k 4 0 (omega arith) (omega arith) (λ s h. not-false _ (e s h)))
    (λ s _ h. one-never c t f k 6 s s (omega arith) (omega arith) h.below (not-true _ h.passes)
    (λ _. record { state = h.below; never = not-true _ h.passes; lowest = λ r q. not-false _ (h.fails r q) }))
    (λ e. undecided c t f k 0 (leb-false (free_bits c) k e)))
