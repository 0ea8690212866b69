-- What the words hold: the bits of consecutive numbers, and the lanes of a word, counted and searched from the lowest bit on.
use mathlib.Core.Path.{◌≡◌, refl, ◌∙◌}
use mathlib.Core.Bool.{Bool, true, cond}
use Prim.Native.Nat.{ℕ, zero, suc, ◌+◌, ◌-◌, ◌*◌, ◌/◌, ◌%◌, ◌^◌, ◌<◌, ◌≤◌}
use native.Mathlib.Omega.{arith}
use native.Mathlib.Nat.{div-one, div-div-eq-div-mul, pow-succ'}
use lib.Dec.{eqb}
use lib.Pow.{pow-add}
use lib.Count.{ones, ones_step, ones-le}
use Rattle.std.proofs.Common.{w64}
use Rattle.std.specs.Int.{trailing_zeros}
use Rattle.std.proofs.lemmas.Nat.Bits.{bit_at-trailing_zeros}
use Rattle.lists.specs.Scan.{count_below}
use Rattle.lists.proofs.Scan.{Lowest, count_below-same, count_below-add}
use Rattle.lanes.specs.Lane.{bit, is0, is1, Shows}
use Rattle.lanes.proofs.Bits.{bit-not, every, every-at, same, same-eq}

-- ---- numbers
-- the lowest six bits are the lane's
pub low_digit : (base t i : ℕ) → base % 64 ≡ 0 → i < 6 → (base + t) / 2 ^ i % 2 ≡ t / 2 ^ i % 2
low_digit base t zero e h = omega arith
low_digit base t (suc zero) e h = omega arith
low_digit base t (suc (suc zero)) e h = omega arith
low_digit base t (suc (suc (suc zero))) e h = omega arith
low_digit base t (suc (suc (suc (suc zero)))) e h = omega arith
low_digit base t (suc (suc (suc (suc (suc zero))))) e h = omega arith
low_digit base t (suc (suc (suc (suc (suc (suc i)))))) e h = absurd (let z : ⊥ = omega arith in z)

-- the others are those of base
pub high_digit : (base t i : ℕ) → base % 64 ≡ 0 → t < 64 → 6 ≤ i → (base + t) / 2 ^ i % 2 ≡ base / 2 ^ i % 2
high_digit base t i e h g =
    let k : i ≡ 6 + (i - 6) = omega arith in
    let block : (base + t) / 64 ≡ base / 64 = omega arith in
    rw (k, pow-add 2 6 (i - 6), ← div-div-eq-div-mul (base + t) 64 (2 ^ (i - 6)), ← div-div-eq-div-mul base 64 (2 ^ (i - 6)), block)

-- a digit in each lane: the ones are the lanes that have it, the zeros all others
pub shows-digit : (t word d : ℕ) → t < 64 → word < 2 ^ 64 → d < 2 → bit t word ≡ eqb d 1 → Shows t (0xffffffffffffffff - word) word d
unfolding is0 is1
shows-digit t word zero h fits l e = record { zero? = bit-not t word h fits ∙ rw e; one? = e }
shows-digit t word (suc zero) h fits l e = record { zero? = bit-not t word h fits ∙ rw e; one? = e }
shows-digit t word (suc (suc d)) h fits l e = absurd (let z : ⊥ = omega arith in z)

-- a word has just the lanes with bit k: a test that is computed
unfoldable pub has_bit : ℕ → ℕ → Bool
has_bit k word = every (λ t. same (bit t word) (eqb (t / 2 ^ k % 2) 1)) 64

pub has-bit : (k word i t : ℕ) → i ≡ k → t < 64 → has_bit k word ≡ true → bit t word ≡ eqb (t / 2 ^ i % 2) 1
unfolding has_bit
has-bit k word i t q h e = rw q (same-eq _ _ (every-at (λ t. same (bit t word) (eqb (t / 2 ^ k % 2) 1)) 64 t e h))

-- ---- words, by their lowest bit and the rest
bit-lowest : (x : ℕ) → bit 0 x ≡ eqb (x % 2) 1
unfolding bit
bit-lowest x = rw (div-one x)

bit-later : (t x : ℕ) → bit (1 + t) x ≡ bit t (x / 2)
unfolding bit
bit-later t x = rw (pow-add 2 1 t, div-div-eq-div-mul x 2 (2 ^ t))

one-digit : (d : ℕ) → d < 2 → cond (eqb d 1) 1 0 ≡ d
one-digit zero h = refl
one-digit (suc zero) h = refl
one-digit (suc (suc d)) h = absurd (let z : ⊥ = omega arith in z)

count-lowest : (x : ℕ) → count_below (λ t. bit t x) 1 ≡ x % 2
unfolding count_below
count-lowest x = rw (bit-lowest x) (omega (arith, one-digit (x % 2) (omega arith)))

-- the set digits are the lanes in the word
pub ones-counted : (k x : ℕ) → x < 2 ^ k → ones x ≡ count_below (λ t. bit t x) k
ones-counted zero x h = unfold count_below in (let l : ones x ≤ 0 = ones-le 0 x h in omega arith)
ones-counted (suc k) x h =
    let twice : 2 ^ suc k ≡ 2 * 2 ^ k = pow-succ' 2 k in
    let later : ones (x / 2) ≡ count_below (λ t. bit (1 + t) x) k =
    ones-counted k (x / 2) (omega arith) ∙ count_below-same (λ t. bit t (x / 2)) (λ t. bit (1 + t) x) k (λ t _. rw (bit-later t x)) in
    let whole : 1 + k ≡ suc k = omega arith in
    rw (← whole, count_below-add (λ t. bit t x) 1 k) (omega (arith, ones_step x, count-lowest x))

-- the zeros below the lowest set digit are as many as its number
pub trailing_lowest : (x : ℕ) → 0 < x → x < 2 ^ 64 → Lowest (λ t. bit t x) 64 (trailing_zeros w64 x)
unfolding bit
trailing_lowest x some fits =
    let set = bit_at-trailing_zeros w64 x some fits in
    record { below = set.0; passes = rw set.1; fails = λ j h. rw (set.2 j h) }
