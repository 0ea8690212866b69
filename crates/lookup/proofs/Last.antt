-- The highest number that passes a test: it passes, those above it fail, and what one number more makes of it.
use mathlib.Core.Path.{◌≡◌}
use mathlib.Core.Bool.{Bool, true, false}
use Prim.Native.Nat.{ℕ, zero, suc, ◌+◌, ◌-◌, ◌≤◌, ◌<◌}
use native.Mathlib.Decide.{dec_le}
use native.Mathlib.Numerals.{add-one}
use native.Mathlib.Omega.{arith}
use Rattle.lists.proofs.Tests.{cond_cases}
use Rattle.lookup.specs.Lookup.{last}

module _ (P : ℕ → Bool) where
  pub last-bound : (n : ℕ) → last P n ≤ n
  unfolding last
  last-bound zero = omega arith
  last-bound (suc n) = cond_cases (λ l. l ≤ suc n) (P n) (suc n) (last P n) (λ _. omega arith) (λ _. omega (arith, last-bound n))

  pub last-passes : (n : ℕ) → 0 < last P n → P (last P n - 1) ≡ true
  unfolding last
  last-passes zero h = absurd (let z : ⊥ = omega arith in z)
  last-passes (suc n) h =
      cond_cases (λ l. 0 < l → P (l - 1) ≡ true) (P n) (suc n) (last P n) (λ e _. (let own : suc n - 1 ≡ n = omega arith in rw own e)) (λ _. last-passes n) h

  pub last-skips : (n m : ℕ) → m < n → last P n ≤ m → P m ≡ false
  unfolding last
  last-skips zero m h l = absurd (let z : ⊥ = omega arith in z)
  last-skips (suc n) m h l =
      cond_cases (λ l. l ≤ m → P m ≡ false) (P n) (suc n) (last P n) (λ _ l. absurd (let z : ⊥ = omega arith in z))
      (λ e l. elim (dec_le (suc m) n) [ yes g ↦ last-skips n m g l | no g ↦ (let own : m ≡ n = omega arith in rw own e) ]) l

  pub last-here : (n : ℕ) → P n ≡ true → last P (n + 1) ≡ n + 1
  unfolding last
  last-here n e = rw (add-one n, e)

  pub last-before : (n : ℕ) → P n ≡ false → last P (n + 1) ≡ last P n
  unfolding last
  last-before n e = rw (add-one n, e)
