-- Scans and lists that know nothing of text: where a number stands among those that pass a test, how many pass, whether one does; and what
-- holds at each place of a list.
use mathlib.Core.Path.{◌≡◌, refl, ◌∙◌, ap}
use Prim.Native.Nat.{ℕ, zero, suc, ◌+◌, ◌-◌, ◌≤◌, ◌<◌}
use mathlib.Core.Bool.{Bool, true, false, cond, false≢true}
use mathlib.Core.List.{List, [], ◌∷◌, ◌++◌}
use lib.ListN.{get_or, length, length-append, get_or-append, get_or-eq_default}
use lib.Seq.{get_or_at, get_or-append-add}
use native.Mathlib.Omega.{arith}
use native.Mathlib.Decide.{dec_le}
use Rattle.lists.specs.Scan.{any_below, count_below, select, tabulate}
use Rattle.lists.proofs.Tests.{or_cases}
use Rattle.lists.proofs.Scan.{count_below-less, count_below-bound, length-select, length-tabulate, get_or_tabulate}

-- ---- the numbers that pass
module _ (P : ℕ → Bool) where
  -- one that passes stands at the place that counts those below it
  pub select-here : (n j : ℕ) → P j ≡ true → j < n → get_or (select P n) (count_below P j) 0 ≡ j
  unfolding select
  select-here zero j e h = absurd (let z : ⊥ = omega arith in z)
  select-here (suc n) j e h = elim (dec_le (suc j) n) [
    | yes g ↦ get_or-append (select P n) _ 0 (count_below P j) (rw (length-select P n) (count_below-less P j n g e)) ∙ select-here n j e g
    | no g ↦ (let q : j ≡ n = omega arith in rw (q, rw q at e) (get_or_at (select P n) n [] 0 (count_below P n) (length-select P n)))
  ]

  -- what stands last
  last-here : (xs : List ℕ) (n i : ℕ) (t : Bool) → length xs ≤ i → i < length (xs ++ cond t (n ∷ []) [])
      → (i ≡ length xs) × (get_or (xs ++ cond t (n ∷ []) []) i 0 ≡ n)
  last-here xs n i true l h =
      let here : length xs ≡ i = omega (arith, length-append xs (n ∷ [])) in
      (omega arith, get_or_at xs n [] 0 i here)
  last-here xs n i false l h = absurd (let z : ⊥ = omega (arith, length-append xs []) in z)

  -- and the other way round: below what stands at a place, as many pass as there are places before it
  pub count-here : (n i : ℕ) → i < length (select P n) → count_below P (get_or (select P n) i 0) ≡ i
  unfolding select
  count-here zero i h = absurd (let z : ⊥ = omega arith in z)
  count-here (suc n) i h = elim (dec_le (suc i) (length (select P n))) [
    | yes g ↦ ap (count_below P) (get_or-append (select P n) _ 0 i g) ∙ count-here n i g
    | no g ↦ (
        let last = last-here (select P n) n i (P n) (omega arith) h in
        ap (count_below P) last.1 ∙ omega (arith, last.0, length-select P n))
  ]

  pub count-all : (n : ℕ) → ((m : ℕ) → m < n → P m ≡ true) → count_below P n ≡ n
  unfolding count_below
  count-all zero h = refl
  count-all (suc n) h = rw (h n (omega arith)) (omega (arith, count-all n (λ m l. h m (omega arith))))

  -- where none from j on passes, j at most do
  pub count_most : (n j : ℕ) → ((m : ℕ) → j ≤ m → P m ≡ false) → count_below P n ≤ j
  unfolding count_below
  count_most zero j h = omega arith
  count_most (suc n) j h = elim (dec_le j n) [
    | yes g ↦ rw (h n g) (omega (arith, count_most n j h))
    | no g ↦ (let b : count_below P (suc n) ≤ suc n = count_below-bound P (suc n) in omega arith)
  ]

  -- a number that passes, where there is one
  pub any_some : (n : ℕ) → any_below P n ≡ true → (m : ℕ) × (m < n) × (P m ≡ true)
  unfolding any_below
  any_some zero e = absurd (false≢true e)
  any_some (suc n) e = or_cases (any_below P n) (P n) e
      (λ q. let found = any_some n q in (found.0, omega (arith, found.1), found.2))
      (λ q. (n, omega arith, q))

-- ---- what holds at each place of a list
abbrev pub Each : {A : Type 0} → (A → Type 0) → List A → A → Type 0
Each P xs d = (i : ℕ) → i < length xs → P (get_or xs i d)

module _ {A : Type 0} (P : A → Type 0) (d : A) where
  pub each_append : (xs ys : List A) → Each P xs d → Each P ys d → Each P (xs ++ ys) d
  each_append xs ys h k i l = elim (dec_le (suc i) (length xs)) [
    | yes g ↦ rw (get_or-append xs ys d i g) (h i g)
    | no g ↦ (
        let place : length xs + (i - length xs) ≡ i = omega arith in
        let there : get_or (xs ++ ys) i d ≡ get_or ys (i - length xs) d = rw place at (get_or-append-add xs ys (i - length xs) d) in
        rw there (k (i - length xs) (omega (arith, length-append xs ys))))
  ]

  pub each-one : (x : A) → P x → Each P (x ∷ []) d
  each-one x h zero l = h
  each-one x h (suc i) l = absurd (let z : ⊥ = omega arith in z)

  pub each_none : Each P [] d
  each_none i l = absurd (let z : ⊥ = omega arith in z)

  -- at every place, where it holds of what stands behind the end
  pub each-any : (xs : List A) → Each P xs d → P d → (i : ℕ) → P (get_or xs i d)
  each-any xs h k i = elim (dec_le (suc i) (length xs)) [
    | yes g ↦ h i g
    | no g ↦ rw (get_or-eq_default xs d (let z : length xs ≤ i = omega arith in z)) k
  ]

  pub each-tabulate : (g : ℕ → A) → ((k : ℕ) → P (g k)) → (from n : ℕ) → Each P (tabulate g from n) d
  each-tabulate g h from n i l = rw (get_or_tabulate g from n i d (omega (arith, length-tabulate g from n))) (h (from + i))
