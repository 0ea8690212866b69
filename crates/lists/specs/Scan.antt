-- Scans over the numbers below a bound: the first that passes a test, whether any does, how many do, which do; and lists made of them, with
-- their sum.
-- All have the highest number last, as a loop does; `tabulate` and `sum` recurse from the front, the others from the back.
use Rattle.std.specs.Prelude.{ℕ, zero, suc, ◌+◌, Bool, false, cond, ◌||◌, List, [], ◌∷◌, ◌++◌}
use Rattle.std.proofs.Math.Option.{Option, none, some, or_else}

infixr 20 ◌else◌
-- the first, or where it is none the second
abbrev pub ◌else◌ : {A : Type 0} → Option A → Option A → Option A
◌else◌ a b = or_else a b

-- the lowest number below n that passes
unfoldable pub first : (ℕ → Bool) → ℕ → Option ℕ
first P zero = none
first P (suc n) = first P n else cond (P n) (some n) none

unfoldable pub pair_with : ℕ → Option ℕ → Option (ℕ × ℕ)
pair_with u none = none
pair_with u (some i) = some (u, i)

-- the first pair (u, i), by u and then by i, with u below a and i below b, that passes
unfoldable pub first_pair : (ℕ → ℕ → Bool) → ℕ → ℕ → Option (ℕ × ℕ)
first_pair P zero b = none
first_pair P (suc u) b = first_pair P u b else pair_with u (first (P u) b)

-- the first of g 0, .. , g (n - 1) that is not none
unfoldable pub first_answer : {A : Type 0} → (ℕ → Option A) → ℕ → Option A
first_answer g zero = none
first_answer g (suc n) = first_answer g n else g n

-- some number below n passes
unfoldable pub any_below : (ℕ → Bool) → ℕ → Bool
any_below P zero = false
any_below P (suc n) = any_below P n || P n

-- how many numbers below n pass
unfoldable pub count_below : (ℕ → Bool) → ℕ → ℕ
count_below P zero = 0
count_below P (suc n) = count_below P n + cond (P n) 1 0

-- the numbers below n that pass, in order
unfoldable pub select : (ℕ → Bool) → ℕ → List ℕ
select P zero = []
select P (suc n) = select P n ++ cond (P n) (n ∷ []) []

-- g from, g (from + 1), .. , n of them
unfoldable pub tabulate : {A : Type 0} → (ℕ → A) → ℕ → ℕ → List A
tabulate g from zero = []
tabulate g from (suc n) = g from ∷ tabulate g (suc from) n

-- the sum of a list
unfoldable pub sum : List ℕ → ℕ
sum [] = 0
sum (n ∷ ns) = n + sum ns

-- the lists g 0, .. , g (n - 1), end to end
unfoldable pub gather : {A : Type 0} → (ℕ → List A) → ℕ → List A
gather g zero = []
gather g (suc n) = gather g n ++ g n
