-- One position of the walk: what its pair writes, and where the walk then stands.
use mathlib.Core.Path.{◌≡◌, refl, ap}
use Rattle.std.specs.Prelude.{Option, Some, None, is_some}
use mathlib.Core.Bool.{Bool, true, false, ◌&&◌, and-false}
use mathlib.Core.List.{List}
use Prim.Native.Nat.{ℕ, suc, ◌+◌, ◌*◌, ◌-◌, ◌/◌, ◌%◌, ◌<◌, ◌≤◌}
use native.Mathlib.Omega.{arith}
use native.Mathlib.Decide.{dec_le}
use native.Mathlib.Nat.{mul-suc, mul-le-mul_left}
use borrow.Author.Tests.{le-leb, lt-leb}
use Rattle.lists.specs.Field.{Rows}
use Rattle.model.specs.Inputs.{F, L, Fault}
use Rattle.model.specs.Accepted.{ThreeValued}
use Rattle.model.specs.Values.{invert, give_row}
use Rattle.model.specs.Implication.{nothing, marked, extra}
use Rattle.model.specs.Expansion.{tried, both_marked, alone, written, row_after}
use Rattle.expand.specs.declared.Walk.{Walk}
use Rattle.expand.specs.Expand.{both_at, writes_at, row_to, Walked}
use Rattle.expand.proofs.Place.{position, place-below}

-- ---- a position, or none
pub one-only : {A : Type 0} {o : Option ℕ} {p : ℕ} → o ≡ Some p → o ≡ None → A
one-only h k = absurd (let z : ⊥ = cc in z)

pub by-option : {A : Type 0} (o : Option ℕ) → (o ≡ None → A) → ((p : ℕ) → o ≡ Some p → A) → A
by-option None absent present = absent refl
by-option (Some p) absent present = present p refl

pub some-none : {A : Type 0} (o : Option ℕ) → is_some o ≡ true → o ≡ None → A
some-none None h k = absurd (let z : ⊥ = cc in z)
some-none (Some p) h k = one-only refl k

pub none-of : (o : Option ℕ) → is_some o ≡ false → o ≡ None
none-of None h = refl
none-of (Some p) h = absurd (let z : ⊥ = cc in z)

module _ (c t : List ℕ) (f : Fault) where
  -- ---- what a pair does, by its marks
  module _ (u i : ℕ) where
    pub untried_both : tried c t f u i ≡ false → both_marked c t f u i ≡ false
    unfolding both_marked
    untried_both e = rw e

    pub untried_written : tried c t f u i ≡ false → written c t f u i ≡ nothing c
    unfolding written alone
    untried_written e = rw e

    pub one-both : (α : ℕ) → α < 2 → marked c t f u i α ≡ false → both_marked c t f u i ≡ false
    unfolding both_marked
    one-both α h e = elim (dec_le 1 α) [
      | yes g ↦ (let one : α ≡ 1 = omega arith in (let off : marked c t f u i 1 ≡ false = (rw one at e) in rw off (and-false (tried c t f u i && marked c t f u i 0))))
      | no g ↦ (let zero : α ≡ 0 = omega arith in (let off : marked c t f u i 0 ≡ false = (rw zero at e) in rw (off, and-false (tried c t f u i))))
    ]

    pub both-both : tried c t f u i ≡ true → marked c t f u i 0 ≡ true → marked c t f u i 1 ≡ true → both_marked c t f u i ≡ true
    unfolding both_marked
    both-both e a b = rw (e, a, b)

    pub none_written : marked c t f u i 0 ≡ false → marked c t f u i 1 ≡ false → written c t f u i ≡ nothing c
    unfolding written alone
    none_written a b = rw (a, b, and-false (tried c t f u i))

    pub zero-written : tried c t f u i ≡ true → marked c t f u i 0 ≡ true → marked c t f u i 1 ≡ false → written c t f u i ≡ extra c t f u i 1
    unfolding written alone invert
    zero-written e a b = rw (e, a, b)

    pub one_written : tried c t f u i ≡ true → marked c t f u i 0 ≡ false → marked c t f u i 1 ≡ true → written c t f u i ≡ extra c t f u i 0
    unfolding written alone invert
    one_written e a b = rw (e, a, b)

  -- ---- the state list, from position e to the next
  module _ (e : ℕ) (some : 0 < F c) where
    here : e ≡ F c * (e / F c) + e % F c
    here = position (F c) e

    low : e % F c < F c
    low = place-below (F c) e some

    -- the row of the pair's unit
    pub row_here : row_to c t f e (e / F c) ≡ row_after c t f (e / F c) (e % F c)
    unfolding row_to
    row_here = let left : e - F c * (e / F c) ≡ e % F c = omega (arith, here) in rw (lt-leb (F c * (e / F c) + F c) e (omega (arith, here, low)), left)

    pub row_next : row_to c t f (e + 1) (e / F c) ≡ give_row (row_after c t f (e / F c) (e % F c)) (written c t f (e / F c) (e % F c))
    unfolding row_to row_after
    row_next = elim (dec_le (F c * (e / F c) + F c) (e + 1)) [
      | yes h ↦ (let all : F c ≡ suc (e % F c) = omega (arith, here, low) in rw (le-leb (F c * (e / F c) + F c) (e + 1) h) (ap (row_after c t f (e / F c)) all))
      | no h ↦ (let more : e + 1 - F c * (e / F c) ≡ suc (e % F c) = omega (arith, here) in rw (lt-leb (F c * (e / F c) + F c) (e + 1) (omega arith), more))
    ]

    -- any other row
    pub row_other : (u : ℕ) → (u ≡ e / F c → ⊥) → row_to c t f (e + 1) u ≡ row_to c t f e u
    unfolding row_to
    row_other u n = elim (dec_le (suc u) (e / F c)) [
      | yes h ↦ (
          let early : F c * suc u ≤ F c * (e / F c) = mul-le-mul_left (F c) h in
          let done : F c * u + F c ≤ e = omega (arith, mul-suc (F c) u, here) in
          rw (le-leb (F c * u + F c) e done, le-leb (F c * u + F c) (e + 1) (omega arith)))
      | no h ↦ (
          let after : suc (e / F c) ≤ u = elim (dec_le (suc (e / F c)) u) [ yes g ↦ g | no g ↦ absurd (n (omega arith)) ] in
          let late : F c * suc (e / F c) ≤ F c * u = mul-le-mul_left (F c) after in
          let behind : e + 1 ≤ F c * u = omega (arith, mul-suc (F c) (e / F c), here, low) in
          let none : e - F c * u ≡ 0 = omega arith in
          let still : e + 1 - F c * u ≡ 0 = omega arith in
          rw (lt-leb (F c * u + F c) e (omega arith), lt-leb (F c * u + F c) (e + 1) (omega arith), none, still))
    ]

  -- ---- where the walk stands
  module _ (e : ℕ) (list : List ℕ) (w : Walk) (old : Walked c t f e list w) where
    -- a number below e + 1 is e or is below e
    upto : (P : ℕ → Bool) → ((j : ℕ) → j < e → P j ≡ false) → P e ≡ false → (j : ℕ) → j < e + 1 → P j ≡ false
    upto P h n j l = elim (dec_le (suc j) e) [ yes g ↦ h j g | no g ↦ (let last : j ≡ e = omega arith in rw last n) ]

    -- this pair has both values marked
    pub walked_both : (list' : List ℕ) → w.both ≡ None → both_at c t f e ≡ true → Walked c t f (e + 1) list' record { both = Some e; opposed = w.opposed }
    walked_both list' l b = record {
      met = λ p g. let same : e ≡ p = cc in rw (← same) (b, old.unmet l);
      unmet = λ g. one-only refl g;
      opposed = λ g. one-only refl g;
      unopposed = λ g. one-only refl g;
      rows = λ g. one-only refl g;
      three = λ g. one-only refl g;
    }

    -- a write opposed before
    pub walked-past : (list' : List ℕ) (p : ℕ) → both_at c t f e ≡ false → w.opposed ≡ Some p → Walked c t f (e + 1) list' w
    walked-past list' p b h = record {
      met = old.met;
      unmet = λ l. upto (both_at c t f) (old.unmet l) b;
      opposed = old.opposed;
      unopposed = λ l g. one-only h g;
      rows = λ l g. one-only h g;
      three = λ l g. one-only h g;
    }

    -- this write opposes
    pub walked-opposed : (list' : List ℕ) → both_at c t f e ≡ false → w.opposed ≡ None → writes_at c t f e ≡ true → Walked c t f (e + 1) list' record { both = w.both; opposed = Some e }
    walked-opposed list' b l o = record {
      met = old.met;
      unmet = λ g. upto (both_at c t f) (old.unmet g) b;
      opposed = λ g p k. let same : e ≡ p = cc in rw (← same) (o, old.unopposed g l);
      unopposed = λ g k. one-only refl k;
      rows = λ g k. one-only refl k;
      three = λ g k. one-only refl k;
    }

    -- this write, if there is one, is made
    pub walked-written : (list' : List ℕ) → both_at c t f e ≡ false → writes_at c t f e ≡ false
        → (w.both ≡ None → w.opposed ≡ None → Rows (F c) (L c t) list' (λ u. row_to c t f (e + 1) u) × ((u : ℕ) → u < L c t → ThreeValued (row_to c t f (e + 1) u)))
        → Walked c t f (e + 1) list' w
    walked-written list' b o made = record {
      met = old.met;
      unmet = λ l. upto (both_at c t f) (old.unmet l) b;
      opposed = old.opposed;
      unopposed = λ l g. upto (writes_at c t f) (old.unopposed l g) o;
      rows = λ l g. (made l g).0;
      three = λ l g. (made l g).1;
    }
