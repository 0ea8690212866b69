-- Each pair that Choose writes is the next after those before it, so Grade takes them all; where Choose stops early there is no next pair.
use mathlib.Core.Path.{◌≡◌, refl, sym, ap, ◌∙◌}
use Prim.Native.Nat.{ℕ, zero, suc, ◌+◌, ◌*◌, ◌%◌, ◌≤◌, ◌<◌}
use mathlib.Core.Bool.{true, false}
use mathlib.Core.List.{List, [], ◌∷◌, ◌++◌}
use mathlib.Core.Option.{Option, none, some, none-ne-some}
use lib.ListN.{get_or, length, take, length-append, length-take, get_or-append}
use lib.Dec.{eqb, ltb}
use lib.Seq.{take-append-le, take_at, get_or_at, take-suc, take-length}
use native.Mathlib.Omega.{arith}
use native.Mathlib.Numerals.{add-one}
use native.Mathlib.Decide.{dec_le}
use borrow.Author.Tests.{lt-ltb, le-ltb, eq-eqb}
use Rattle.lists.specs.Field.{word16, bytes16}
use Rattle.model.specs.Inputs.{F, L, Fault, plan_count, plan_pair}
use Rattle.model.specs.Refusals.{refuse, row11}
use Rattle.model.specs.Sequences.{takes, take_next, taken_of, taken}
use Rattle.model.specs.Grade.{Verdict, before_stage5, placed, counted, grade}
use Rattle.model.specs.Choose.{next_pair, with_pair, best_pairs, unless_decided, chosen, plan_bytes}
use Rattle.model.specs.Promises.{WellChosen}
use Rattle.lists.proofs.Field.{word_back}
use Rattle.model.proofs.Pairs.{Takeable, takeable}
use Rattle.model.proofs.Stages.{before_case, after_case, grade-cases}
use Rattle.model.proofs.Best.{next_pair-best, next_pair-none, next_pair-takes}

-- ---- a plan's records read back
module _ (q : ℕ × ℕ) (pairs : List (ℕ × ℕ)) where
  plan-first : q.0 < 65536 → q.1 < 65536 → plan_pair (plan_bytes (q ∷ pairs)) 0 ≡ q
  unfolding plan_pair plan_bytes bytes16 word16
  plan-first a b = rw (word_back q.0 a, word_back q.1 b)

  plan-next : (n : ℕ) → plan_pair (plan_bytes (q ∷ pairs)) (suc n) ≡ plan_pair (plan_bytes pairs) n
  unfolding plan_pair plan_bytes bytes16 word16
  plan-next n =
      let a : 4 * suc n ≡ suc (suc (suc (suc (4 * n)))) = omega arith in
      let b : 4 * suc n + 1 ≡ suc (suc (suc (suc (4 * n + 1)))) = omega arith in
      let d : 4 * suc n + 2 ≡ suc (suc (suc (suc (4 * n + 2)))) = omega arith in
      let e : 4 * suc n + 2 + 1 ≡ suc (suc (suc (suc (4 * n + 2 + 1)))) = omega arith in
      rw (e, d, b, a)

-- pairs that fit their fields
InFields : List (ℕ × ℕ) → Type 0
InFields pairs = (n : ℕ) → n < length pairs → ((get_or pairs n (0, 0)).0 < 65536) × ((get_or pairs n (0, 0)).1 < 65536)

plan-back : (pairs : List (ℕ × ℕ)) → InFields pairs → (n : ℕ) → n < length pairs → plan_pair (plan_bytes pairs) n ≡ get_or pairs n (0, 0)
unfolding InFields
plan-back [] f n h = absurd (let z : ⊥ = omega arith in z)
plan-back (q ∷ pairs) f zero h = plan-first q pairs (f 0 (omega arith)).0 (f 0 (omega arith)).1
plan-back (q ∷ pairs) f (suc n) h = plan-next q pairs n ∙ plan-back pairs (λ m l. f (suc m) (omega arith)) n (omega arith)

pub length-plan : (pairs : List (ℕ × ℕ)) → length (plan_bytes pairs) ≡ 4 * length pairs
unfolding plan_bytes bytes16
length-plan [] = refl
length-plan (q ∷ pairs) = omega (arith, length-plan pairs)

-- one pair more
pub plan-more : (pairs : List (ℕ × ℕ)) (u i : ℕ) → plan_bytes (pairs ++ ((u, i) ∷ [])) ≡ plan_bytes pairs ++ (bytes16 u ++ bytes16 i)
unfolding plan_bytes bytes16
plan-more [] u i = refl
plan-more (q ∷ pairs) u i = rw (plan-more pairs u i)

plan-count : (pairs : List (ℕ × ℕ)) → plan_count (plan_bytes pairs) ≡ length pairs
unfolding plan_count
plan-count pairs = omega (arith, length-plan pairs)

plan-accepted : (pairs : List (ℕ × ℕ)) → length pairs ≤ 4096 → row11 (plan_bytes pairs) ≡ none
unfolding row11 refuse
plan-accepted pairs h =
    let whole : eqb (length (plan_bytes pairs) % 4) 0 ≡ true = eq-eqb (length (plan_bytes pairs) % 4) 0 (omega (arith, length-plan pairs)) in
    let short : ltb 4096 (plan_count (plan_bytes pairs)) ≡ false = le-ltb 4096 (plan_count (plan_bytes pairs)) (omega (arith, plan-count pairs)) in
    rw (whole, short)

module _ (c t : List ℕ) (f : Fault) where
  -- each pair is the next after those before it
  Chain : List (ℕ × ℕ) → Type 0
  Chain pairs = (n : ℕ) → n < length pairs → next_pair c t f (take n pairs) ≡ some (get_or pairs n (0, 0))

  chain-takes : (pairs : List (ℕ × ℕ)) → Chain pairs → (n : ℕ) → n < length pairs
      → takes c t f (take n pairs) (get_or pairs n (0, 0)).0 (get_or pairs n (0, 0)).1 ≡ true
  unfolding Chain
  chain-takes pairs h n l = next_pair-takes c t f (take n pairs) _ (h n l)

  chain_more : (pairs : List (ℕ × ℕ)) (q : ℕ × ℕ) → Chain pairs → next_pair c t f pairs ≡ some q → Chain (pairs ++ (q ∷ []))
  unfolding Chain
  chain_more pairs q h e n l = elim (dec_le (suc n) (length pairs)) [
    | yes g ↦ rw (take-append-le n pairs (q ∷ []) (omega arith), get_or-append pairs (q ∷ []) (0, 0) n g) (h n g)
    | no g ↦ (
        let last : length pairs ≡ n = omega (arith, length-append pairs (q ∷ [])) in
        rw (take_at pairs (q ∷ []) n last, get_or_at pairs q [] (0, 0) n last) e)
  ]

  -- ---- Grade takes such a plan whole
  step-takes : (k : ℕ) (pairs : List (ℕ × ℕ)) (q : ℕ × ℕ) → length pairs < k → takes c t f pairs q.0 q.1 ≡ true
      → take_next c t f k pairs q ≡ pairs ++ (q ∷ [])
  unfolding take_next
  step-takes k pairs q h e = rw (lt-ltb (length pairs) k h, e)

  taken_of-plan : (pairs : List (ℕ × ℕ)) (k : ℕ) → Chain pairs → InFields pairs → length pairs ≤ k → (n : ℕ) → n ≤ length pairs
      → taken_of c t f (plan_bytes pairs) k n ≡ take n pairs
  unfolding taken_of
  taken_of-plan pairs k h g l zero b = refl
  taken_of-plan pairs k h g l (suc n) b =
      rw (taken_of-plan pairs k h g l n (omega arith), plan-back pairs g n b)
      (step-takes k (take n pairs) (get_or pairs n (0, 0)) (rw length-take (omega arith)) (chain-takes pairs h n b)
      ∙ sym (take-suc pairs n (0, 0) b))

  taken-plan : (pairs : List (ℕ × ℕ)) (k : ℕ) → Chain pairs → InFields pairs → length pairs ≤ k → taken c t f (plan_bytes pairs) k ≡ pairs
  unfolding taken
  taken-plan pairs k h g l =
      ap (taken_of c t f (plan_bytes pairs) k) (plan-count pairs) ∙ taken_of-plan pairs k h g l (length pairs) (omega arith) ∙ take-length pairs

  chain-fields : (pairs : List (ℕ × ℕ)) → L c t ≤ 65536 → F c ≤ 65536 → Chain pairs → InFields pairs
  unfolding InFields
  chain-fields pairs a b h n l =
      let r : Takeable c t f (take n pairs) (get_or pairs n (0, 0)).0 (get_or pairs n (0, 0)).1 = takeable c t f (take n pairs) _ _ (chain-takes pairs h n l) in
      (omega arith, omega arith)

  -- ---- the pairs of Choose are such a chain
  with_pair-chain : (pairs : List (ℕ × ℕ)) → Chain pairs → (o : Option (ℕ × ℕ)) → next_pair c t f pairs ≡ o → Chain (with_pair c t f pairs o)
  unfolding with_pair
  with_pair-chain pairs h none e = h
  with_pair-chain pairs h (some q) e = chain_more pairs q h e

  best_pairs-chain : (k : ℕ) → Chain (best_pairs c t f k)
  unfolding best_pairs Chain
  best_pairs-chain zero = λ n h. absurd (let z : ⊥ = omega arith in z)
  best_pairs-chain (suc k) = with_pair-chain (best_pairs c t f k) (best_pairs-chain k) _ refl

  length-with_pair : (pairs : List (ℕ × ℕ)) (o : Option (ℕ × ℕ)) → length (with_pair c t f pairs o) ≤ suc (length pairs)
  unfolding with_pair
  length-with_pair pairs none = omega arith
  length-with_pair pairs (some q) = rw length-append (omega arith)

  length-best_pairs : (k : ℕ) → length (best_pairs c t f k) ≤ k
  unfolding best_pairs
  length-best_pairs zero = omega arith
  length-best_pairs (suc k) = omega (arith, length-best_pairs k, length-with_pair (best_pairs c t f k) (next_pair c t f (best_pairs c t f k)))

  -- ---- fewer than k only where there is no next pair
  with_pair-short : (pairs : List (ℕ × ℕ)) (k : ℕ) → (length pairs < k → next_pair c t f pairs ≡ none)
      → (o : Option (ℕ × ℕ)) → next_pair c t f pairs ≡ o → length (with_pair c t f pairs o) < suc k → next_pair c t f (with_pair c t f pairs o) ≡ none
  unfolding with_pair
  with_pair-short pairs k h none e l = e
  with_pair-short pairs k h (some q) e l =
      absurd (none-ne-some q (sym (h (omega (arith, length-append pairs (q ∷ [])))) ∙ e))

  best_pairs-short : (k : ℕ) → length (best_pairs c t f k) < k → next_pair c t f (best_pairs c t f k) ≡ none
  unfolding best_pairs
  best_pairs-short zero h = absurd (let z : ⊥ = omega arith in z)
  best_pairs-short (suc k) h = with_pair-short (best_pairs c t f k) k (best_pairs-short k) _ refl h

  -- ---- what Choose writes
  chosen-chain : (k : ℕ) (o : Option Verdict) → Chain (unless_decided c t f o (best_pairs c t f k)) × (length (unless_decided c t f o (best_pairs c t f k)) ≤ k)
  unfolding unless_decided Chain
  chosen-chain k none = (best_pairs-chain k, length-best_pairs k)
  chosen-chain k (some v) = (λ n h. absurd (let z : ⊥ = omega arith in z), omega arith)

  -- a pair that is next is added; where none is, none will be
  pub best_pairs-more : (m : ℕ) (q : ℕ × ℕ) → next_pair c t f (best_pairs c t f m) ≡ some q → best_pairs c t f (m + 1) ≡ best_pairs c t f m ++ (q ∷ [])
  unfolding best_pairs with_pair
  best_pairs-more m q e = rw (add-one m, e)

  pub best_pairs-stop : (m k : ℕ) → next_pair c t f (best_pairs c t f m) ≡ none → best_pairs c t f (m + k) ≡ best_pairs c t f m
  unfolding best_pairs with_pair
  best_pairs-stop m zero e = let same : m + 0 ≡ m = omega arith in rw same
  best_pairs-stop m (suc k) e = let more : m + suc k ≡ suc (m + k) = omega arith in rw (more, best_pairs-stop m k e, e)

  pub chosen-undecided : (k : ℕ) → before_stage5 c t f ≡ none → chosen c t f k ≡ best_pairs c t f k
  unfolding chosen unless_decided
  chosen-undecided k e = rw e

  pub chosen-decided : (k : ℕ) (v : Verdict) → before_stage5 c t f ≡ some v → chosen c t f k ≡ []
  unfolding chosen unless_decided
  chosen-decided k v e = rw e

  -- m is 0 before stage 5, and after it the number of pairs taken
  m-before : (v : Verdict) → before_stage5 c t f ≡ some v → v.m ≡ 0
  unfolding placed
  m-before = before_case (λ (v : Verdict). v.m ≡ 0) c t f (λ _ _ _. refl) (λ _ _. refl) (λ _ _ _. refl) (λ _ _ _. refl)

  m-after : (p : List ℕ) (k : ℕ) → before_stage5 c t f ≡ none → (grade c t f p k).m ≡ length (taken c t f p k)
  unfolding counted
  m-after p k = after_case (λ (v : Verdict). v.m ≡ length (taken c t f p k)) c t f p k (λ _. refl) (λ _ _. refl) (λ _ _ _. refl) (λ _. refl)

  pub well_chosen : (k : ℕ) → L c t ≤ 65536 → F c ≤ 65536 → k ≤ 4096 → WellChosen c t f k (length (chosen c t f k)) (plan_bytes (chosen c t f k))
  unfolding chosen Chain
  well_chosen k a b most =
      let pairs = chosen c t f k in
      let p = plan_bytes pairs in
      let h : Chain pairs × (length pairs ≤ k) = chosen-chain k (before_stage5 c t f) in
      let fields : InFields pairs = chain-fields pairs a b h.0 in
      let whole : taken c t f p k ≡ pairs = taken-plan pairs k h.0 fields h.1 in
      record {
        size = length-plan pairs;
        fits = h.1;
        accepted = plan-accepted pairs (omega (arith, h.1));
        all_taken = ap length whole;
        best = λ m l. rw (taken_of-plan pairs k h.0 fields h.1 m (omega arith), plan-back pairs fields m l) (next_pair-best c t f (take m pairs) _ (h.0 m l));
        decided = λ v e. ap length (chosen-decided k v e);
        carried =
            grade-cases (λ (v : Verdict). v.m ≡ length pairs) c t f p k
            (λ v d. m-before v d ∙ sym (ap length (chosen-decided k v d))) (λ d. m-after p k d ∙ ap length whole);
        stops = λ e l u i.
            let same : pairs ≡ best_pairs c t f k = chosen-undecided k e in
            rw (whole, same) (next_pair-none c t f (best_pairs c t f k) (best_pairs-short k (omega (arith, ap length same))) u i);
      }
