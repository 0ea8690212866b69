-- The pairs that stage 5 takes: what is known of a pair where it is taken, and what so holds, pair by pair, of all that are.
use mathlib.Core.Path.{◌≡◌}
use Prim.Native.Nat.{ℕ, zero, suc, ◌<◌}
use mathlib.Core.Bool.{true, false, not, ◌&&◌}
use mathlib.Core.List.{List, [], ◌∷◌, ◌++◌}
use lib.ListN.{get_or, length}
use lib.Dec.{ltb}
use borrow.Author.Tests.{ltb-true, not-true}
use Rattle.lists.proofs.Tests.{and_left, and_right, cond_cases}
use Rattle.model.specs.Inputs.{F, L, Fault, plan_count, plan_pair}
use Rattle.model.specs.Values.{X, is_specified}
use Rattle.model.specs.Implication.{extra}
use Rattle.model.specs.Expansion.{state_row}
use Rattle.model.specs.Sequences.{outputs_left, touches, takes, take_next, taken_of, taken}

pub record Takeable (c t : List ℕ) (f : Fault) (pairs : List (ℕ × ℕ)) (u i : ℕ) : Type 0 where
  pub unit : u < L c t
  pub bit : i < F c
  pub unspecified : is_specified (get_or (state_row c t f u) i X) ≡ false
  pub apart0 : touches c t f pairs u (extra c t f u i 0) ≡ false
  pub apart1 : touches c t f pairs u (extra c t f u i 1) ≡ false

module _ (c t : List ℕ) (f : Fault) where
  pub takeable : (pairs : List (ℕ × ℕ)) (u i : ℕ) → takes c t f pairs u i ≡ true → Takeable c t f pairs u i
  unfolding takes
  takeable pairs u i e =
      let named = ltb u (L c t) && ltb i (F c) in
      let unspecified = named && not (is_specified (get_or (state_row c t f u) i X)) in
      let apart0 : unspecified && outputs_left c t f u && not (touches c t f pairs u (extra c t f u i 0)) ≡ true = and_left _ _ e in
      let before : unspecified ≡ true = and_left _ _ (and_left _ _ apart0) in
      record {
        unit = ltb-true _ _ (and_left _ _ (and_left _ _ before));
        bit = ltb-true _ _ (and_right (ltb u (L c t)) _ (and_left _ _ before));
        unspecified = not-true _ (and_right named _ before);
        apart0 = not-true _ (and_right (unspecified && outputs_left c t f u) _ apart0);
        apart1 = not-true _ (and_right (unspecified && outputs_left c t f u && not (touches c t f pairs u (extra c t f u i 0))) _ e);
      }

  -- what holds of no pairs, and of those taken with one more where it holds of them, holds of all pairs taken
  module _ (p : List ℕ) (k : ℕ) (P : List (ℕ × ℕ) → Type 0) (none : P [])
      (more : (pairs : List (ℕ × ℕ)) (u i : ℕ) → length pairs < k → Takeable c t f pairs u i → P pairs → P (pairs ++ ((u, i) ∷ []))) where
    taken_of-all : (n : ℕ) → P (taken_of c t f p k n)
    unfolding taken_of take_next
    taken_of-all zero = none
    taken_of-all (suc n) =
        let pairs = taken_of c t f p k n in
        let q = plan_pair p n in
        cond_cases P _ _ pairs
        (λ e. more pairs q.0 q.1 (ltb-true _ _ (and_left _ _ e)) (takeable pairs _ _ (and_right (ltb (length pairs) k) _ e)) (taken_of-all n))
        (λ _. taken_of-all n)

    pub taken-all : P (taken c t f p k)
    unfolding taken
    taken-all = taken_of-all (plan_count p)
