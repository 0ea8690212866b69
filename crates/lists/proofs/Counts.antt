-- How many numbers have each value: these counts sum to how many numbers there are.
use mathlib.Core.Path.{◌≡◌, refl}
use Prim.Native.Nat.{ℕ, zero, suc, ◌+◌, ◌≤◌, ◌<◌}
use mathlib.Core.Bool.{cond}
use lib.Dec.{eqb}
use borrow.Author.Tests.{eq-eqb, ne_eqb}
use native.Mathlib.Omega.{arith}
use native.Mathlib.Decide.{dec_le}
use Rattle.lists.specs.Scan.{count_below, tabulate, sum}

sum-none : (g : ℕ → ℕ) (from n : ℕ) → ((v : ℕ) → from ≤ v → g v ≡ 0) → sum (tabulate g from n) ≡ 0
unfolding sum tabulate
sum-none g from zero each = refl
sum-none g from (suc n) each = omega (arith, each from (omega arith), sum-none g (suc from) n (λ v h. each v (omega arith)))

sum_both : (g h : ℕ → ℕ) (from n : ℕ) → sum (tabulate (λ v. g v + h v) from n) ≡ sum (tabulate g from n) + sum (tabulate h from n)
unfolding sum tabulate
sum_both g h from zero = refl
sum_both g h from (suc n) = omega (arith, sum_both g h (suc from) n)

-- of the values from `from` on, one is this number
sum_one : (a from n : ℕ) → from ≤ a → a < from + n → sum (tabulate (λ v. cond (eqb a v) 1 0) from n) ≡ 1
unfolding sum tabulate
sum_one a from zero l h = absurd (let z : ⊥ = omega arith in z)
sum_one a from (suc n) l h = elim (dec_le (suc from) a) [
  | yes g ↦ rw (ne_eqb a from (λ e. (let z : ⊥ = omega arith in z))) (omega (arith, sum_one a (suc from) n g (omega arith)))
  | no g ↦ (
      let here : a ≡ from = omega arith in
      rw (eq-eqb a from here) (omega (arith, sum-none (λ v. cond (eqb a v) 1 0) (suc from) n (λ v k. rw (ne_eqb a v (λ e. (let z : ⊥ = omega arith in z)))))))
]

-- where every number has one of `size` values from `from` on, the counts of these sum to all
pub counts-sum : (g : ℕ → ℕ) (from size n : ℕ) → ((j : ℕ) → j < n → (from ≤ g j) × (g j < from + size))
    → sum (tabulate (λ v. count_below (λ j. eqb (g j) v) n) from size) ≡ n
unfolding count_below
counts-sum g from size zero h = sum-none (λ v. 0) from size (λ v l. refl)
counts-sum g from size (suc n) h =
    let last = h n (omega arith) in
    omega (
      arith,
      sum_both (λ v. count_below (λ j. eqb (g j) v) n) (λ v. cond (eqb (g n) v) 1 0) from size,
      counts-sum g from size n (λ j l. h j (omega arith)),
      sum_one (g n) from size last.0 last.1,
    )
