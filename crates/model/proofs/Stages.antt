-- The verdict of a fault is given by one of the six stages: what holds of each stage's verdict holds of Grade's.
use mathlib.Core.Path.{◌≡◌, refl, subst}
use Prim.Native.Nat.{ℕ, ◌<◌}
use mathlib.Core.Bool.{Bool, true, false, not}
use mathlib.Core.List.{List}
use mathlib.Core.Option.{Option, none, some, some-injective, none-ne-some, some-ne-none}
use lib.Dec.{eqb, leb}
use Rattle.lists.specs.Scan.{first, first_pair, any_below}
use Rattle.model.specs.Inputs.{N, flip_flop_line, F, L, Fault}
use Rattle.model.specs.Starts.{free_bits, start_count, differs}
use Rattle.model.specs.Expansion.{both_open, both_marked, opposed_write}
use Rattle.model.specs.Sequences.{taken, count_ending, ends_surviving}
use Rattle.model.specs.Grade.{Verdict, placed, opposed_at, stage1, stage2, at_pair, stage3, stage4, before_stage5, counted, stage5, from_start, stage6, grade}
use Rattle.lists.proofs.Tests.{cond_cases}
use Rattle.lists.proofs.Scan.{else_some, else_found, else_skips, given-cases, first-none, first_some, Lowest, first_pair-some, first_pair-none, Found}

pub at_pair-none : (make : ℕ → ℕ → Verdict) (o : Option (ℕ × ℕ)) → at_pair make o ≡ none → o ≡ none
unfolding at_pair
at_pair-none make none e = refl
at_pair-none make (some q) e = absurd (some-ne-none _ e)

module _ (Q : Verdict → Type 0) where
  from_some : (w v : Verdict) → some w ≡ some v → Q w → Q v
  from_some w v e h = subst Q (some-injective w v e) h

  pair_case : (P : ℕ → ℕ → Bool) (a b : ℕ) (make : ℕ → ℕ → Verdict) → ((u i : ℕ) → Found P a b u i → Q (make u i))
      → (v : Verdict) (o : Option (ℕ × ℕ)) → first_pair P a b ≡ o → at_pair make o ≡ some v → Q v
  unfolding at_pair
  pair_case P a b make h v none g e = absurd (none-ne-some v e)
  pair_case P a b make h v (some q) g e = from_some _ v e (h q.0 q.1 (first_pair-some P a b q g))

  -- stages 1 to 4
  module _ (c t : List ℕ) (f : Fault)
      (one : (u n : ℕ) → Found (λ u n. opposed_at c t f u n) (L c t) (N c) u n → Q (placed 1 u n))
      (two : ((u n : ℕ) → u < L c t → n < N c → opposed_at c t f u n ≡ false)
      → any_below (λ u. both_open c t f u) (L c t) ≡ false → Q (placed 5 0 0))
      (three : (u i : ℕ) → Found (λ u i. both_marked c t f u i) (L c t) (F c) u i → Q (placed 2 u (flip_flop_line c i)))
      (four : (u i : ℕ) → Found (λ u i. opposed_write c t f u i) (L c t) (F c) u i → Q (placed 2 u (flip_flop_line c i))) where
    stage1_case : (v : Verdict) → stage1 c t f ≡ some v → Q v
    unfolding stage1
    stage1_case v e = pair_case (λ u n. opposed_at c t f u n) (L c t) (N c) (λ u n. placed 1 u n) one v _ refl e

    stage1-none : stage1 c t f ≡ none → (u n : ℕ) → u < L c t → n < N c → opposed_at c t f u n ≡ false
    unfolding stage1
    stage1-none e u n h l = first_pair-none (λ u n. opposed_at c t f u n) (L c t) (N c) u n (at_pair-none _ _ e) h l

    stage2_case : stage1 c t f ≡ none → (v : Verdict) → stage2 c t f ≡ some v → Q v
    unfolding stage2
    stage2_case n v e =
        cond_cases (λ (o : Option Verdict). o ≡ some v → Q v)
        _ none _
        (λ _ z. absurd (none-ne-some v z)) (λ g z. from_some _ v z (two (stage1-none n) g)) e

    stage3_case : (v : Verdict) → stage3 c t f ≡ some v → Q v
    unfolding stage3
    stage3_case v e = pair_case (λ u i. both_marked c t f u i) (L c t) (F c) (λ u i. placed 2 u (flip_flop_line c i)) three v _ refl e

    stage4_case : (v : Verdict) → stage4 c t f ≡ some v → Q v
    unfolding stage4
    stage4_case v e = pair_case (λ u i. opposed_write c t f u i) (L c t) (F c) (λ u i. placed 2 u (flip_flop_line c i)) four v _ refl e

    pub before_case : (v : Verdict) → before_stage5 c t f ≡ some v → Q v
    unfolding before_stage5
    before_case v e =
        else_some (stage1 c t f) _ v e (stage1_case v)
        (λ n e2. else_some (stage2 c t f) _ v e2 (stage2_case n v)
        (λ _ e3. else_some (stage3 c t f) (stage4 c t f) v e3 (stage3_case v) (λ _. stage4_case v)))

  -- stages 5 and 6
  module _ (c t : List ℕ) (f : Fault) (p : List ℕ) (k : ℕ)
      (five : eqb (count_ending c t f (taken c t f p k) ends_surviving) 0 ≡ true → Q (counted c t f p k 3 0))
      (all : leb (free_bits c) k ≡ true → ((s : ℕ) → s < start_count c → not (differs c t f s) ≡ false) → Q (counted c t f p k 4 0))
      (some-start : (s : ℕ) → leb (free_bits c) k ≡ true → Lowest (λ s. not (differs c t f s)) (start_count c) s → Q (counted c t f p k 6 s))
      (neither : leb (free_bits c) k ≡ false → Q (counted c t f p k 7 0)) where
    stage5_case : (v : Verdict) → stage5 c t f p k ≡ some v → Q v
    unfolding stage5
    stage5_case v e =
        cond_cases (λ (o : Option Verdict). o ≡ some v → Q v) _ _ none
        (λ g z. from_some _ v z (five g)) (λ _ z. absurd (none-ne-some v z)) e

    start_case : leb (free_bits c) k ≡ true → (o : Option ℕ) → first (λ s. not (differs c t f s)) (start_count c) ≡ o → Q (from_start c t f p k o)
    unfolding from_start
    start_case e none g = all e (λ s h. first-none (λ s. not (differs c t f s)) (start_count c) s g h)
    start_case e (some s) g = some-start s e (first_some (λ s. not (differs c t f s)) (start_count c) s g)

    stage6_case : Q (stage6 c t f p k)
    unfolding stage6
    stage6_case = cond_cases Q _ _ _ (λ e. start_case e _ refl) neither

    pub after_case : before_stage5 c t f ≡ none → Q (grade c t f p k)
    unfolding grade
    after_case e = rw (else_skips (before_stage5 c t f) (stage5 c t f p k) e) (given-cases Q _ _ stage5_case (λ _. stage6_case))

-- a verdict of stages 1 to 4 is Grade's
pub grade-before : (c t : List ℕ) (f : Fault) (p : List ℕ) (k : ℕ) (v : Verdict) → before_stage5 c t f ≡ some v → grade c t f p k ≡ v
unfolding grade
grade-before c t f p k v e = rw (else_found (before_stage5 c t f) (stage5 c t f p k) v e)

pub grade-cases : (Q : Verdict → Type 0) (c t : List ℕ) (f : Fault) (p : List ℕ) (k : ℕ)
    → ((v : Verdict) → before_stage5 c t f ≡ some v → Q v) → (before_stage5 c t f ≡ none → Q (grade c t f p k)) → Q (grade c t f p k)
grade-cases Q c t f p k early late = go (before_stage5 c t f) refl
  where
    go : (o : Option Verdict) → before_stage5 c t f ≡ o → Q (grade c t f p k)
    go none e = late e
    go (some v) e = rw (grade-before c t f p k v e) (early v e)
