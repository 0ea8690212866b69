-- The verdict of stages 5 and 6.
use mathlib.Core.Path.{◌≡◌, ◌∙◌}
use mathlib.Core.Bool.{not}
use mathlib.Core.List.{List}
use mathlib.Core.Option.{none, some, or_else}
use Prim.Native.Nat.{ℕ, ◌<◌, ◌≤◌}
use borrow.Author.Tests.{eq-eqb, ne_eqb, le-leb, lt-leb}
use Rattle.lists.specs.Scan.{first}
use Rattle.model.specs.Inputs.{F, Fault}
use Rattle.model.specs.Starts.{free_bits, start_count, differs}
use Rattle.model.specs.Sequences.{taken, count_ending, ends_surviving}
use Rattle.model.specs.Grade.{counted, before_stage5, stage5, stage6, from_start, grade}

module _ (c t : List ℕ) (f : Fault) (p : List ℕ) (k : ℕ) (before : before_stage5 c t f ≡ none) where
  -- none survives
  pub graded_3 : count_ending c t f (taken c t f p k) ends_surviving ≡ 0 → grade c t f p k ≡ counted c t f p k 3 0
  unfolding grade stage5 or_else
  graded_3 e = rw (before, eq-eqb (count_ending c t f (taken c t f p k) ends_surviving) 0 e)

  -- some sequence survives
  module _ (some_left : count_ending c t f (taken c t f p k) ends_surviving ≡ 0 → ⊥) where
    last : grade c t f p k ≡ stage6 c t f p k
    unfolding grade stage5 or_else
    last = rw (before, ne_eqb (count_ending c t f (taken c t f p k) ends_surviving) 0 some_left)

    pub graded_7 : k < F c → grade c t f p k ≡ counted c t f p k 7 0
    unfolding stage6 free_bits
    graded_7 h = last ∙ rw (lt-leb (F c) k h)

    module _ (few : F c ≤ k) where
      pub graded_6 : (s : ℕ) → first (λ s. not (differs c t f s)) (start_count c) ≡ some s → grade c t f p k ≡ counted c t f p k 6 s
      unfolding stage6 free_bits from_start
      graded_6 s lowest = last ∙ rw (le-leb (F c) k few, lowest)

      pub graded_4 : first (λ s. not (differs c t f s)) (start_count c) ≡ none → grade c t f p k ≡ counted c t f p k 4 0
      unfolding stage6 free_bits from_start
      graded_4 all = last ∙ rw (le-leb (F c) k few, all)
