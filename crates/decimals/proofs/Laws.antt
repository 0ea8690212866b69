-- Decimal numbers and lines of them, with their lengths; and what is appended to a print.
use mathlib.Core.Path.{◌≡◌, refl, ap, ◌∙◌}
use mathlib.Core.List.{List, [], ◌∷◌, ◌++◌, append_assoc}
use Prim.Native.Nat.{ℕ, zero, suc, ◌+◌, ◌*◌, ◌/◌, ◌%◌, ◌^◌, ◌≤◌, ◌<◌}
use native.Mathlib.Omega.{arith}
use native.Mathlib.Decide.{dec_le}
use native.Mathlib.Numerals.{add-one}
use native.Mathlib.Nat.{mul-suc, pow-suc}
use borrow.Author.Tests.{lt-ltb, le-ltb}
use lib.ListN.{length, take, drop, get_or, length-append, drop_of_length-le}
use lib.Seq.{drop-cons, take_at, length-take-le}
use Rattle.model.specs.Listing.{digits, decimal, number_line}
use Rattle.decimals.specs.Put.{Below, Put}

-- ---- digits
digits-enough : (a b n : ℕ) → n < a → n < b → digits a n ≡ digits b n
unfolding digits
digits-enough zero b n h g = absurd (let z : ⊥ = omega arith in z)
digits-enough (suc a) zero n h g = absurd (let z : ⊥ = omega arith in z)
digits-enough (suc a) (suc b) n h g = elim (dec_le 10 n) [
  | yes l ↦ rw (le-ltb n 10 l, digits-enough a b (n / 10) (omega arith) (omega arith))
  | no l ↦ rw (lt-ltb n 10 (omega arith))
]

pub decimal_digit : (n : ℕ) → n < 10 → decimal n ≡ (48 + n % 10) ∷ []
unfolding decimal digits
decimal_digit n h = rw (lt-ltb n 10 h)

pub decimal-more : (n : ℕ) → 10 ≤ n → decimal n ≡ decimal (n / 10) ++ ((48 + n % 10) ∷ [])
unfolding decimal digits
decimal-more n h = rw (le-ltb n 10 h, digits-enough n (suc (n / 10)) (n / 10) (omega arith) (omega arith))

pub length-digit : (n : ℕ) → n < 10 → length (decimal n) ≡ 1
length-digit n h = ap length (decimal_digit n h)

pub length_more : (n : ℕ) → 10 ≤ n → length (decimal n) ≡ length (decimal (n / 10)) + 1
length_more n h = ap length (decimal-more n h) ∙ length-append (decimal (n / 10)) ((48 + n % 10) ∷ [])

-- a number below a power of ten has no more digits than the power has zeros
pub decimal-short : (w n : ℕ) → n < 10 ^ suc w → length (decimal n) ≤ suc w
decimal-short zero n h = omega (arith, length-digit n h)
decimal-short (suc w) n h = elim (dec_le 10 n) [
  | yes l ↦ omega (arith, length_more n l, decimal-short w (n / 10) (omega (arith, pow-suc 10 (suc w))))
  | no l ↦ omega (arith, length-digit n (omega arith))
]

-- ---- lines of numbers
module _ (xs : List ℕ) (i : ℕ) where
  -- a number that is not the last
  pub line-more : i + 1 < length xs → number_line (drop i xs) ≡ (decimal (get_or xs i 0) ++ (32 ∷ [])) ++ number_line (drop (i + 1) xs)
  unfolding number_line
  line-more h = rw (append_assoc, add-one, drop-cons xs i 0 (omega arith), drop-cons xs (suc i) 0 (omega arith))

  pub length-line-more : i + 1 < length xs → length (number_line (drop i xs)) ≡ length (decimal (get_or xs i 0)) + 1 + length (number_line (drop (i + 1) xs))
  length-line-more h = ap length (line-more h) ∙ simp length-append

  -- the last
  pub line-last : i + 1 ≡ length xs → number_line (drop i xs) ≡ decimal (get_or xs i 0) ++ (10 ∷ [])
  unfolding number_line
  line-last h = rw (drop-cons xs i 0 (omega arith), drop_of_length-le xs {i = suc i} (omega arith))

  pub length-line-last : i + 1 ≡ length xs → length (number_line (drop i xs)) ≡ length (decimal (get_or xs i 0)) + 1
  length-line-last h = ap length (line-last h) ∙ simp length-append

-- numbers below a power of ten: no more digits than the power has zeros, and one byte behind them
pub line-short : (w : ℕ) (xs : List ℕ) → 0 < length xs → Below (10 ^ suc w) xs → length (number_line xs) ≤ suc (suc w) * length xs
unfolding number_line Below
line-short w [] h a = absurd (let z : ⊥ = omega arith in z)
line-short w (x ∷ []) h a = omega (arith, length-append (decimal x) (10 ∷ []), decimal-short w x a.0)
line-short w (x ∷ y ∷ xs) h a =
    omega
    (arith, length-append (decimal x) (32 ∷ number_line (y ∷ xs)), decimal-short w x a.0, line-short w (y ∷ xs) (omega arith) a.1, mul-suc (suc (suc w)) (suc (length xs)))

-- ---- what is appended
pub put_then : {at m r : ℕ} {a b old mid out : List ℕ} → Put at m a old mid → Put m r b mid out → Put at r (a ++ b) old out
put_then {at} {a = a} {b = b} {old = old} p q = record {
  end = omega (arith, p.end, q.end, length-append a b);
  bytes = q.bytes ∙ ap (λ l. l ++ b) p.bytes ∙ append_assoc (take at old) a b;
}

-- where a number and a byte end
pub field_end : {at r : ℕ} {old out : List ℕ} (n byte : ℕ) → Put at r (decimal n ++ (byte ∷ [])) old out → r ≡ at + length (decimal n) + 1
field_end n byte p = omega (arith, p.end, length-append (decimal n) (byte ∷ []))

-- what `rest` appended at `at` makes of `mid` is what `all` appended at `from` makes of `old`
pub record Completes (from at : ℕ) (rest all old mid : List ℕ) : Type 0 where
  pub by : (r : ℕ) (out : List ℕ) → Put at r rest mid out → Put from r all old out

pub completes_more : {from at m : ℕ} {rest new left all old mid out : List ℕ} → rest ≡ new ++ left → Completes from at rest all old mid → Put at m new mid out → Completes from m left all old out
completes_more e c p = record { by = λ r end q. c.by r end (rw e (put_then p q)) }

-- text that is copied behind what stands there
pub put-copied : {from : ℕ} {text copied old : List ℕ} (rest : List ℕ) → from ≤ length old → copied ≡ text → Put from (from + length text) text old (take from old ++ (copied ++ rest))
put-copied {from} {text} {copied} {old} rest h e = record {
  end = refl;
  bytes =
      rw (e, ← append_assoc (take from old) text rest) (take_at (take from old ++ text) rest _ (length-append (take from old) text ∙ ap (λ n. n + length text) (length-take-le from old h)));
}
