-- Nested scans: the first answer over rows and in each over its places, as nested loops find it; and the first pair as such a scan, over the
-- numbers of a list of those that pass a test.
use mathlib.Core.Path.{◌≡◌, refl, sym, ap, ◌∙◌}
use Prim.Native.Nat.{ℕ, zero, suc, ◌+◌, ◌≤◌, ◌<◌}
use mathlib.Core.Bool.{Bool, true, false, cond, ◌&&◌}
use mathlib.Core.List.{List, [], ◌∷◌, ◌++◌, append-nil}
use mathlib.Core.Option.{Option, none, some, or_else}
use lib.ListN.{get_or, length, length-append, get_or-append}
use lib.Seq.{get_or-append_seam}
use native.Mathlib.Omega.{arith}
use native.Mathlib.Decide.{dec_le}
use native.Mathlib.Numerals.{add-one}
use Rattle.lists.specs.Scan.{◌else◌, first, pair_with, first_pair, first_answer, select}
use Rattle.lists.proofs.Scan.{else_some, else_assoc, else_found, else_none, first_answer-stop}

-- ---- the first answer
module _ {A : Type 0} where
  pub first_answer-same : (g h : ℕ → Option A) (n : ℕ) → ((m : ℕ) → m < n → g m ≡ h m) → first_answer g n ≡ first_answer h n
  unfolding first_answer
  first_answer-same g h zero e = refl
  first_answer-same g h (suc n) e = rw (first_answer-same g h n (λ m l. e m (omega arith)), e n (omega arith))

  -- an answer stays the first, however far the scan goes on
  pub first_answer-more : (g : ℕ → Option A) (n m : ℕ) (a : A) → n ≤ m → first_answer g n ≡ some a → first_answer g m ≡ some a
  unfolding first_answer
  first_answer-more g n zero a l e = let z : n ≡ 0 = omega arith in rw z at e
  first_answer-more g n (suc m) a l e = elim (dec_le n m) [
    | yes q ↦ else_found _ (g m) a (first_answer-more g n m a q e)
    | no q ↦ (let z : n ≡ suc m = omega arith in rw z at e)
  ]

-- ---- rows, and in each its places: what is found before place i of row u
unfoldable pub scan_to : {A : Type 0} → (ℕ → ℕ → Option A) → ℕ → ℕ → ℕ → Option A
scan_to g size u i = first_answer (λ u. first_answer (g u) size) u else first_answer (g u) i

module _ {A : Type 0} (g : ℕ → ℕ → Option A) (size : ℕ) where
  pub scan-none : scan_to g size 0 0 ≡ none
  unfolding scan_to first_answer or_else
  scan-none = refl

  -- the place is looked at
  pub scan-turn : (u i : ℕ) → scan_to g size u (i + 1) ≡ scan_to g size u i else g u i
  unfolding scan_to first_answer
  scan-turn u i = rw (add-one i) (sym (else_assoc _ (first_answer (g u) i) (g u i)))

  -- the row is at its end
  pub scan-row : (u i : ℕ) → i ≡ size → scan_to g size (u + 1) 0 ≡ scan_to g size u i
  unfolding scan_to first_answer
  scan-row u i e = rw (add-one u, e) (else_none _)

  -- the loops are left at an answer
  pub scan-stop : (u i n : ℕ) (a : A) → u < n → i ≤ size → scan_to g size u i ≡ some a → first_answer (λ u. first_answer (g u) size) n ≡ some a
  unfolding scan_to
  scan-stop u i n a h l e =
      else_some (first_answer (λ u. first_answer (g u) size) u) (first_answer (g u) i) a e
      (λ before. first_answer-more (λ u. first_answer (g u) size) u n a (omega arith) before)
      (λ before here. first_answer-stop (λ u. first_answer (g u) size) u n a before (first_answer-more (g u) i size a l here) h)

  pub scan-all : (u n : ℕ) → u ≡ n → first_answer (λ u. first_answer (g u) size) n ≡ scan_to g size u 0
  unfolding scan_to first_answer
  scan-all u n e = rw (← e) (sym (else_none _))

-- ---- the first pair
pair_with_else : (u : ℕ) (a b : Option ℕ) → pair_with u (a else b) ≡ pair_with u a else pair_with u b
unfolding pair_with or_else
pair_with_else u none b = refl
pair_with_else u (some i) b = refl

pair_with-answers : (u : ℕ) (g : ℕ → Option ℕ) (n : ℕ) → pair_with u (first_answer g n) ≡ first_answer (λ i. pair_with u (g i)) n
unfolding pair_with first_answer
pair_with-answers u g zero = refl
pair_with-answers u g (suc n) = pair_with_else u (first_answer g n) (g n) ∙ rw (pair_with-answers u g n)

pair_with-cond : (u : ℕ) (t : Bool) (i : ℕ) → pair_with u (cond t (some i) none) ≡ cond t (some (u, i)) none
unfolding pair_with
pair_with-cond u true i = refl
pair_with-cond u false i = refl

first_pair-rows : (P : ℕ → ℕ → Bool) (a b : ℕ) → first_pair P a b ≡ first_answer (λ u. pair_with u (first (P u) b)) a
unfolding first_pair first_answer
first_pair-rows P zero b = refl
first_pair-rows P (suc a) b = rw (first_pair-rows P a b)

-- an answer of each number of a list, of which there is one more at its end
answers-more : {A : Type 0} (g : ℕ → Option A) (xs : List ℕ) (n : ℕ)
    → first_answer (λ i. g (get_or (xs ++ (n ∷ [])) i 0)) (length (xs ++ (n ∷ []))) ≡ first_answer (λ i. g (get_or xs i 0)) (length xs) else g n
unfolding first_answer
answers-more g xs n =
    let more : length (xs ++ (n ∷ [])) ≡ suc (length xs) = rw length-append (omega arith) in
    rw (more, get_or-append_seam xs n [] 0, first_answer-same _ (λ i. g (get_or xs i 0)) (length xs) (λ i l. ap g (get_or-append xs (n ∷ []) 0 i l)))

select-step : (Q : ℕ → Bool) (xs : List ℕ) (n : ℕ) (before : Option ℕ) → before ≡ first_answer (λ i. cond (Q (get_or xs i 0)) (some (get_or xs i 0)) none) (length xs) → (t : Bool)
    → before else cond (t && Q n) (some n) none
    ≡ first_answer (λ i. cond (Q (get_or (xs ++ cond t (n ∷ []) []) i 0)) (some (get_or (xs ++ cond t (n ∷ []) []) i 0)) none) (length (xs ++ cond t (n ∷ []) []))
select-step Q xs n before e true = rw e (sym (answers-more (λ m. cond (Q m) (some m) none) xs n))
select-step Q xs n before e false = else_none before ∙ rw (append-nil xs) e

-- the lowest number that passes both tests, among those that pass the first
pub first-select : (P Q : ℕ → Bool) (n : ℕ)
    → first (λ m. P m && Q m) n ≡ first_answer (λ i. cond (Q (get_or (select P n) i 0)) (some (get_or (select P n) i 0)) none) (length (select P n))
unfolding first select first_answer
first-select P Q zero = refl
first-select P Q (suc n) = select-step Q (select P n) n (first (λ m. P m && Q m) n) (first-select P Q n) (P n)

-- the first pair whose number passes a test of all rows and one of its own row, as a scan of the numbers that pass the first
pub first_pair-select : (P : ℕ → Bool) (Q : ℕ → ℕ → Bool) (a b : ℕ)
    → first_pair (λ u m. P m && Q u m) a b
    ≡ first_answer (λ u. first_answer (λ i. cond (Q u (get_or (select P b) i 0)) (some (u, get_or (select P b) i 0)) none) (length (select P b))) a
first_pair-select P Q a b =
    first_pair-rows (λ u m. P m && Q u m) a b
    ∙ first_answer-same _ _ a (λ u _.
    ap (pair_with u) (first-select P (Q u) b) ∙ pair_with-answers u _ (length (select P b))
    ∙ first_answer-same _ _ (length (select P b)) (λ i _. pair_with-cond u (Q u (get_or (select P b) i 0)) (get_or (select P b) i 0)))
