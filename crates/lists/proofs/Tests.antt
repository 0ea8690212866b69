-- Laws of tests: what a conjunction or a disjunction tells of its parts, and cases on a test.
use mathlib.Core.Path.{◌≡◌, refl, sym, ◌∙◌}
use Prim.Native.Nat.{ℕ}
use lib.Dec.{eqb}
use borrow.Author.Tests.{eqb-true, eqb-false}
use mathlib.Core.Bool.{Bool, true, false, cond, ◌&&◌, ◌||◌, false≢true, true≢false}

pub and_left : (s t : Bool) → s && t ≡ true → s ≡ true
and_left true t e = refl
and_left false t e = e

pub and_right : (s t : Bool) → s && t ≡ true → t ≡ true
and_right true t e = e
and_right false t e = absurd (false≢true e)

-- a conjunction that fails, where its first part holds
pub and-fails : (s t : Bool) → s && t ≡ false → s ≡ true → t ≡ false
and-fails true t e h = e
and-fails false t e h = absurd (false≢true h)

pub or_left_false : (s t : Bool) → s || t ≡ false → s ≡ false
or_left_false true t e = e
or_left_false false t e = refl

pub or_right_false : (s t : Bool) → s || t ≡ false → t ≡ false
or_right_false true t e = absurd (true≢false e)
or_right_false false t e = e

pub or-is-false : (s t : Bool) → s ≡ false → t ≡ false → s || t ≡ false
or-is-false s t h k = rw h k

pub or_cases {ℓ} : {A : Type ℓ} (s t : Bool) → s || t ≡ true → (s ≡ true → A) → (t ≡ true → A) → A
or_cases true t e f g = f refl
or_cases false t e f g = g e

-- by the test, into any family
pub cond_cases {κ ℓ} : {A : Type κ} (P : A → Type ℓ) (t : Bool) (a b : A) → (t ≡ true → P a) → (t ≡ false → P b) → P (cond t a b)
cond_cases P true a b f g = f refl
cond_cases P false a b f g = g refl

pub clash {ℓ} : {A : Type ℓ} (t : Bool) → t ≡ true → t ≡ false → A
clash t p q = absurd (true≢false (sym p ∙ q))

pub is_false : (t : Bool) → (t ≡ true → ⊥) → t ≡ false
is_false true h = absurd (h refl)
is_false false h = refl

pub is_true : (t : Bool) → (t ≡ false → ⊥) → t ≡ true
is_true true h = refl
is_true false h = absurd (h refl)

-- a case on a test that keeps what it found
pub by-test : {A : Type 0} (t : Bool) → (t ≡ true → A) → (t ≡ false → A) → A
by-test true f g = f refl
by-test false f g = g refl

-- a case on two numbers
pub by-eq : {A : Type 0} (m n : ℕ) → (m ≡ n → A) → ((m ≡ n → ⊥) → A) → A
by-eq m n f g = by-test (eqb m n) (λ y. f (eqb-true m n y)) (λ y. g (eqb-false m n y))
