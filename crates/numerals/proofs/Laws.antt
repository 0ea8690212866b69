-- Digits in turn, with every number above 65,536 taken as 65,536.
use mathlib.Core.Path.{◌≡◌, refl, sym, ap, ◌∙◌}
use mathlib.Core.Bool.{Bool, true, false, cond}
use mathlib.Core.List.{List, [], ◌∷◌}
use Rattle.std.specs.Prelude.{Option, None, Some}
use Prim.Native.Nat.{ℕ, suc, ◌+◌, ◌*◌, ◌≤◌, ◌<◌, min}
use native.Mathlib.Omega.{arith}
use native.Mathlib.Decide.{dec_le}
use native.Mathlib.Nat.{min-eq_left, min-eq_right, mul-le-mul}
use lib.Dec.{ltb}
use lib.ListN.{get_or, length, drop}
use lib.Seq.{drop-cons, drop-length}
use borrow.Author.Tests.{lt-ltb, le-ltb}
use Rattle.std.specs.Char.{digit_value}
use Rattle.std.proofs.lemmas.Bool.Decides.{nat_tests}
use Rattle.numerals.specs.Numeral.{between, digit_of, with_digits, is_hex, capped}

-- std's value of a digit is 36 where there is none, and goes on behind f
pub digit-value : (base b : ℕ) → base ≤ 16 → digit_value b < base → digit_of b ≡ digit_value b
unfolding digit_of between
digit-value base b h l = grind (arith, nat_tests)

pub digit_none : (base b : ℕ) → base ≤ 16 → base ≤ digit_value b → base ≤ digit_of b
unfolding digit_of between
digit_none base b h l = grind (arith, nat_tests)

pub is-hex : (text : List ℕ) → 3 ≤ length text → get_or text 0 0 ≡ 48 → get_or text 1 0 ≡ 120 → is_hex text ≡ true
unfolding is_hex
is-hex text l e g = rw (lt-ltb 2 (length text) l, e, g)

pub no-hex : (text : List ℕ) → (3 ≤ length text → get_or text 0 0 ≡ 48 → get_or text 1 0 ≡ 120 → ⊥) → is_hex text ≡ false
unfolding is_hex
no-hex text h = grind (arith, nat_tests)

-- a digit only makes a number higher
grows : (base a d : ℕ) → 1 ≤ base → 65536 ≤ a → 65536 ≤ base * a + d
grows base a d h l = omega (arith, mul-le-mul h l)

capped_if : (t : Bool) (a b : Option ℕ) → capped a ≡ capped b → capped (cond t a None) ≡ capped (cond t b None)
capped_if true a b e = e
capped_if false a b e = refl

-- so two numbers that are high stay so
high : (base a b : ℕ) (ds : List ℕ) → 1 ≤ base → 65536 ≤ a → 65536 ≤ b → capped (with_digits base a ds) ≡ capped (with_digits base b ds)
unfolding with_digits capped
high base a b [] h l g = ap Some (min-eq_right l ∙ sym (min-eq_right g))
high base a b (d ∷ ds) h l g = capped_if (ltb (digit_of d) base) _ _ (high base (base * a + digit_of d) (base * b + digit_of d) ds h (grows base a (digit_of d) h l) (grows base b (digit_of d) h g))

lowered : (base n : ℕ) (ds : List ℕ) → 1 ≤ base → capped (with_digits base (min n 65536) ds) ≡ capped (with_digits base n ds)
lowered base n ds h = elim (dec_le n 65536) [
  | yes l ↦ ap (λ v. capped (with_digits base v ds)) (min-eq_left l)
  | no l ↦ high base (min n 65536) n ds h (let e : min n 65536 ≡ 65536 = min-eq_right (omega arith) in omega arith) (omega arith)
]

-- at a digit of the base
pub digit-more : (base v i : ℕ) (text : List ℕ) → 1 ≤ base → i < length text → digit_of (get_or text i 0) < base
    → capped (with_digits base (min (base * v + digit_of (get_or text i 0)) 65536) (drop (suc i) text)) ≡ capped (with_digits base v (drop i text))
unfolding with_digits
digit-more base v i text h l d =
    lowered base _ (drop (suc i) text) h ∙ sym (rw (drop-cons text i 0 l, lt-ltb _ _ d))

-- at any other byte
pub digit_wrong : (base v i : ℕ) (text : List ℕ) → i < length text → base ≤ digit_of (get_or text i 0) → capped (with_digits base v (drop i text)) ≡ None
unfolding with_digits capped
digit_wrong base v i text l d = rw (drop-cons text i 0 l, le-ltb _ _ d)

-- behind the last
pub digits-end : (base v i : ℕ) (text : List ℕ) → i ≡ length text → v ≤ 65536 → capped (with_digits base v (drop i text)) ≡ Some v
unfolding with_digits capped
digits-end base v i text e l = rw (e, drop-length text) (ap Some (min-eq_left l))
