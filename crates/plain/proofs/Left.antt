-- What a lane has left to show: an output that is X where its response is specified, at some unit.
use mathlib.Core.Path.{◌≡◌, refl, sym, ap, ◌∙◌}
use mathlib.Core.Bool.{Bool, true, false, cond, ◌&&◌, ◌||◌, or-false, or-true, or_assoc}
use mathlib.Core.List.{List, [], ◌∷◌, ◌++◌}
use Prim.Native.Nat.{ℕ, zero, suc, ◌+◌, ◌<◌, ◌≤◌}
use native.Mathlib.Omega.{arith}
use native.Mathlib.Numerals.{add-one}
use borrow.Author.Tests.{lt-ltb}
use lib.Bits.{bit_or}
use lib.Dec.{eqb, ltb}
use lib.ListN.{get_or, length, take}
use lib.Seq.{take-suc, length-take-le}
use Rattle.lists.specs.Scan.{any_below}
use Rattle.lists.specs.Field.{row_of, Rows}
use Rattle.lists.proofs.Scan.{any_below-same}
use Rattle.model.specs.Inputs.{O, L, Fault}
use Rattle.model.specs.Values.{X, is_specified}
use Rattle.model.specs.Simulation.{plain_outputs, free_outputs}
use Rattle.model.specs.Expansion.{count_open, nout}
use Rattle.lanes.specs.Lane.{bit}
use Rattle.lanes.proofs.Bits.{bit-or}
use Rattle.model.proofs.Pending.{nout-step, nout-end}

-- ---- in one unit
pub open_none : (row bs : List ℕ) → ltb 0 (count_open row (take 0 bs)) ≡ false
unfolding count_open
open_none [] bs = refl
open_none (a ∷ row) bs = refl

count_open-more : (row bs : List ℕ) (v : ℕ) → length bs < length row → count_open row (bs ++ (v ∷ [])) ≡ count_open row bs + cond (is_specified (get_or row (length bs) 0) && eqb v X) 1 0
unfolding count_open
count_open-more [] bs v h = absurd (let z : ⊥ = omega arith in z)
count_open-more (a ∷ row) [] v h = alone row
  where
    alone : (row : List ℕ) → cond (is_specified a && eqb v X) 1 0 + count_open row [] ≡ 0 + cond (is_specified a && eqb v X) 1 0
    alone [] = omega arith
    alone (b ∷ row) = omega arith
count_open-more (a ∷ row) (b ∷ bs) v h = rw (count_open-more row bs v (omega arith)) (omega arith)

-- a sum is above 0 where a part is
some_more : (n : ℕ) (b : Bool) → ltb 0 (n + cond b 1 0) ≡ (ltb 0 n || b)
some_more n true = lt-ltb 0 (n + 1) (omega arith) ∙ sym (or-true (ltb 0 n))
some_more n false = let same : n + 0 ≡ n = omega arith in rw same (sym (or-false (ltb 0 n)))

open_more : (row bs : List ℕ) (o : ℕ) → o < length bs → o < length row
    → ltb 0 (count_open row (take (o + 1) bs)) ≡ (ltb 0 (count_open row (take o bs)) || (is_specified (get_or row o 0) && eqb (get_or bs o X) X))
open_more row bs o b r =
    let long : length (take o bs) ≡ o = length-take-le o bs (omega arith) in
    let more : take (o + 1) bs ≡ take o bs ++ (get_or bs o X ∷ []) = rw (add-one o) (take-suc bs o X b) in
    rw (more, count_open-more row (take o bs) (get_or bs o X) (rw long r), long) (some_more (count_open row (take o bs)) (is_specified (get_or row o 0) && eqb (get_or bs o X) X))

-- output o of a lane is looked at
pub left-more : (lane left unknown : ℕ) (before : Bool) (row bs : List ℕ) (o r : ℕ) → o < length bs → o < length row → r ≡ get_or row o 0 → bit lane left ≡ (before || ltb 0 (count_open row (take o bs)))
    → bit lane unknown ≡ (is_specified r && eqb (get_or bs o X) X) → bit lane (bit_or left unknown) ≡ (before || ltb 0 (count_open row (take (o + 1) bs)))
left-more lane left unknown before row bs o r b l e h g =
    bit-or lane left unknown ∙ rw (h, g, e, open_more row bs o b l) (or_assoc before (ltb 0 (count_open row (take o bs))) (is_specified (get_or row o 0) && eqb (get_or bs o X) X))

-- ---- at some unit
some-sum : (a b : ℕ) → ltb 0 (a + b) ≡ (ltb 0 a || ltb 0 b)
some-sum zero b = let same : 0 + b ≡ b = omega arith in rw same
some-sum (suc a) b = let some : ltb 0 (suc a) ≡ true = lt-ltb 0 (suc a) (omega arith) in rw some (lt-ltb 0 (suc a + b) (omega arith))

module _ (c t : List ℕ) (f : Fault) where
  abbrev open_at : ℕ → Bool
  open_at u = ltb 0 (count_open (free_outputs c t u) (plain_outputs c t f u))

  -- the units below u, and Nout(u)
  from-unit : (u : ℕ) → u ≤ L c t → ltb 0 (nout c t f 0) ≡ (any_below (λ v. open_at v) u || ltb 0 (nout c t f u))
  unfolding any_below
  from-unit zero h = refl
  from-unit (suc u) h =
      from-unit u (omega arith) ∙ rw (nout-step c t f u (omega arith), some-sum (count_open (free_outputs c t u) (plain_outputs c t f u)) (nout c t f (suc u)))
      (sym (or_assoc (any_below (λ v. open_at v) u) (open_at u) (ltb 0 (nout c t f (suc u)))))

  pub some_left : (free : List ℕ) → Rows (O c) (L c t) free (free_outputs c t) → any_below (λ u. ltb 0 (count_open (row_of (O c) free u) (plain_outputs c t f u))) (L c t) ≡ ltb 0 (nout c t f 0)
  some_left free rows =
      any_below-same _ (λ u. open_at u) (L c t) (λ u h. ap (λ row. ltb 0 (count_open row (plain_outputs c t f u))) (rows.at u h))
      ∙ sym (from-unit (L c t) (omega arith) ∙ rw (nout-end c t f) (or-false (any_below (λ v. open_at v) (L c t))))
