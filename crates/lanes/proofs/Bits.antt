-- The bits of AND, OR and XOR of words, and of words that are written out.
use mathlib.Core.Path.{◌≡◌, refl, ◌∙◌}
use mathlib.Core.Bool.{Bool, true, false, ◌&&◌, ◌||◌, not}
use Prim.Native.Nat.{ℕ, zero, suc, ◌+◌, ◌-◌, ◌*◌, ◌/◌, ◌%◌, ◌^◌, ◌<◌, ◌≤◌, min, max}
use native.Mathlib.Omega.{arith}
use native.Mathlib.Decide.{dec_le}
use native.Mathlib.Nat.{zero-div}
use lib.Dec.{eqb, ltb}
use Rattle.std.specs.Int.{w64}
use Rattle.std.proofs.lemmas.Nat.Bits.{bit_at-lt, bit_at_and, bit_at_or, bit_at_xor, bit_at_not, bit_at_ones, bit_at_above}
use Rattle.lists.proofs.Tests.{and_left, and_right}
use lib.Bits.{bit_and, bit_or, bit_xor, xor_add_and}
use Rattle.std.proofs.lemmas.Nat.{and_mask}
use Rattle.lanes.specs.Lane.{bit}

unfoldable pub xor_b : Bool → Bool → Bool
xor_b true b = not b
xor_b false b = b

-- what min, max and a sum of two digits are as tests
digits : (P : ℕ → ℕ → Type 0) → P 0 0 → P 0 1 → P 1 0 → P 1 1 → (r s : ℕ) → r < 2 → s < 2 → P r s
digits P a b c d zero zero h g = a
digits P a b c d zero (suc zero) h g = b
digits P a b c d zero (suc (suc s)) h g = absurd (let z : ⊥ = omega arith in z)
digits P a b c d (suc zero) zero h g = c
digits P a b c d (suc zero) (suc zero) h g = d
digits P a b c d (suc zero) (suc (suc s)) h g = absurd (let z : ⊥ = omega arith in z)
digits P a b c d (suc (suc r)) s h g = absurd (let z : ⊥ = omega arith in z)

digit_and : (r s : ℕ) → r < 2 → s < 2 → eqb (min r s) 1 ≡ (eqb r 1 && eqb s 1)
digit_and = digits (λ r s. eqb (min r s) 1 ≡ (eqb r 1 && eqb s 1)) refl refl refl refl

digit_or : (r s : ℕ) → r < 2 → s < 2 → eqb (max r s) 1 ≡ (eqb r 1 || eqb s 1)
digit_or = digits (λ r s. eqb (max r s) 1 ≡ (eqb r 1 || eqb s 1)) refl refl refl refl

digit-xor : (r s : ℕ) → r < 2 → s < 2 → eqb ((r + s) % 2) 1 ≡ xor_b (eqb r 1) (eqb s 1)
unfolding xor_b
digit-xor = digits (λ r s. eqb ((r + s) % 2) 1 ≡ xor_b (eqb r 1) (eqb s 1)) refl refl refl refl

digit_not : (r : ℕ) → r < 2 → eqb (1 - r) 1 ≡ not (eqb r 1)
digit_not zero h = refl
digit_not (suc zero) h = refl
digit_not (suc (suc r)) h = absurd (let z : ⊥ = omega arith in z)

pub bit-and : (t a b : ℕ) → bit t (bit_and a b) ≡ (bit t a && bit t b)
unfolding bit
bit-and t a b = rw (bit_at_and a b t) (digit_and _ _ (bit_at-lt a t) (bit_at-lt b t))

pub bit-or : (t a b : ℕ) → bit t (bit_or a b) ≡ (bit t a || bit t b)
unfolding bit
bit-or t a b = rw (bit_at_or a b t) (digit_or _ _ (bit_at-lt a t) (bit_at-lt b t))

pub bit-xor : (t a b : ℕ) → bit t (bit_xor a b) ≡ xor_b (bit t a) (bit t b)
unfolding bit
bit-xor t a b = rw (bit_at_xor a b t) (digit-xor _ _ (bit_at-lt a t) (bit_at-lt b t))

without : (x k : Bool) → xor_b (x || k) k ≡ (x && not k)
unfolding xor_b
without true true = refl
without true false = refl
without false true = refl
without false false = refl

-- the bits of x that k does not have
pub bit-without : (t x k : ℕ) → bit t (bit_xor (bit_or x k) k) ≡ (bit t x && not (bit t k))
bit-without t x k = rw (bit-xor t (bit_or x k) k, bit-or t x k) (without (bit t x) (bit t k))

-- the bits of the inverse, and of x without those of k: no bit is above a word's own
pub bit-not : (t k : ℕ) → t < 64 → k < 2 ^ 64 → bit t (0xffffffffffffffff - k) ≡ not (bit t k)
unfolding bit
bit-not t k low h = rw (bit_at_not w64 k t h low) (digit_not _ (bit_at-lt k t))

bit_above : (t x : ℕ) → x < 2 ^ 64 → 64 ≤ t → bit t x ≡ false
unfolding bit
bit_above t x h g = rw (bit_at_above x 64 t h g)

pub bit-but : (t x k : ℕ) → x < 2 ^ 64 → k < 2 ^ 64 → bit t (bit_and x (0xffffffffffffffff - k)) ≡ (bit t x && not (bit t k))
bit-but t x k l h = bit-and t x (0xffffffffffffffff - k) ∙ elim (dec_le (suc t) 64) [
  | yes g ↦ rw (bit-not t k g h)
  | no g ↦ rw (bit_above t x l (omega arith))
]

pub bit-none : (t : ℕ) → bit t 0 ≡ false
unfolding bit
bit-none t = rw (zero-div (2 ^ t))

-- a test that holds of the numbers below n, by computation
unfoldable pub every : (ℕ → Bool) → ℕ → Bool
every test zero = true
every test (suc n) = test n && every test n

pub every-at : (test : ℕ → Bool) (n t : ℕ) → every test n ≡ true → t < n → test t ≡ true
unfolding every
every-at test zero t e h = absurd (let z : ⊥ = omega arith in z)
every-at test (suc n) t e h = elim (dec_le (suc t) n) [
  | yes g ↦ every-at test n t (and_right (test n) (every test n) e) g
  | no g ↦ (let q : t ≡ n = omega arith in rw q (and_left (test n) (every test n) e))
]

pub bit-all : (t : ℕ) → t < 64 → bit t 0xffffffffffffffff ≡ true
unfolding bit
bit-all t h = rw (bit_at_ones 64 t h)

unfoldable pub same : Bool → Bool → Bool
same true b = b
same false b = not b

pub same-eq : (a b : Bool) → same a b ≡ true → a ≡ b
unfolding same
same-eq true true e = refl
same-eq true false e = let z : ◌≡◌ {A = ℕ} 0 1 = cc in absurd (omega arith)
same-eq false true e = let z : ◌≡◌ {A = ℕ} 0 1 = cc in absurd (omega arith)
same-eq false false e = refl

-- the word with one bit
pub bit-one : (s t : ℕ) → s < 64 → t < 64 → bit s (1 * 2 ^ t % 0x10000000000000000) ≡ eqb s t
unfolding bit every same
bit-one s t h g =
    same-eq _ _ (every-at (λ t. same (bit s (1 * 2 ^ t % 0x10000000000000000)) (eqb s t)) 64 t
    (every-at (λ s. every (λ t. same (bit s (1 * 2 ^ t % 0x10000000000000000)) (eqb s t)) 64) 64 s refl h) g)

-- the word with the bits below n
pub bit_below : (s n : ℕ) → s < 64 → n < 64 → bit s (1 * 2 ^ n % 0x10000000000000000 - 1) ≡ ltb s n
unfolding bit every same
bit_below s n h g =
    same-eq _ _ (every-at (λ n. same (bit s (1 * 2 ^ n % 0x10000000000000000 - 1)) (ltb s n)) 64 n
    (every-at (λ s. every (λ n. same (bit s (1 * 2 ^ n % 0x10000000000000000 - 1)) (ltb s n)) 64) 64 s refl h) g)

-- ---- the other number of a pair
other : (x : ℕ) → bit_xor x 1 + x % 2 * 2 ≡ x + 1
other x = rw (and_mask x 1) at (xor_add_and x 1)

pub other-odd : (x m : ℕ) → x ≡ 2 * m → bit_xor x 1 ≡ 2 * m + 1
other-odd x m e = omega (arith, other x)

pub other_even : (x m : ℕ) → x ≡ 2 * m + 1 → bit_xor x 1 ≡ 2 * m
other_even x m e = omega (arith, other x)

pub other-near : (x : ℕ) → bit_xor x 1 < 2 * (x / 2 + 1)
other-near x = omega (arith, other x)
