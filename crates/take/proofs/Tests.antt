-- The tests of a pair: those that need no trial, and what its extras touch.
use mathlib.Core.Path.{◌≡◌, refl, sym, ap, ◌∙◌}
use mathlib.Core.Bool.{Bool, true, false, cond, not, ◌&&◌, ◌||◌}
use mathlib.Core.Logic.{◌⊎◌, inl, inr}
use mathlib.Core.List.{List, [], ◌∷◌, ◌++◌}
use Prim.Native.Nat.{ℕ, zero, suc, ◌+◌, ◌*◌, ◌-◌, ◌/◌, ◌%◌, ◌<◌, ◌≤◌}
use native.Mathlib.Omega.{arith}
use native.Mathlib.Numerals.{add-one}
use native.Mathlib.Decide.{dec_le}
use lib.Dec.{eqb, leb, ltb}
use lib.ListN.{get_or, length, take, drop}
use lib.Seq.{get_or-take, get_or-drop, drop-cons, drop-length}
use borrow.Author.Tests.{eqb-true, ltb-true, le-leb, lt-leb, lt-ltb, le-ltb}
use Rattle.lists.specs.Field.{row_of, Rows}
use Rattle.lists.proofs.Field.{row_fits, part-taken, length-row}
use Rattle.lists.proofs.Scan.{get_or_any}
use Rattle.lists.proofs.Tests.{by-test, and_left, and_right}
use Rattle.model.specs.Inputs.{F, L, Fault}
use Rattle.model.specs.Values.{X, is_specified}
use Rattle.model.specs.Implication.{extra}
use Rattle.model.specs.Expansion.{nout, state_row}
use Rattle.model.specs.Sequences.{overlaps, outputs_left, touches, takes, take_next}
use Rattle.sequences.specs.Ends.{Taken}
use Rattle.pending.specs.Pending.{OpenUnits}
use Rattle.take.specs.Take.{may_take, meets_row}
use Rattle.take.proofs.Table.{row_before}

-- ---- what an extra touches
gather : (s p q p' q' x y : Bool) → ((s && ((p || p') || (q || q'))) || (x || y)) ≡ (((s && (p || q)) || x) || ((s && (p' || q')) || y))
gather false p q p' q' x y = refl
gather true true q p' q' x y = refl
gather true false true true q' x y = refl
gather true false true false q' x y = refl
gather true false false true q' true y = refl
gather true false false true q' false y = refl
gather true false false false true true y = refl
gather true false false false true false y = refl
gather true false false false false x y = refl

pub swap : (a b : Bool) → (a || b) ≡ (b || a)
swap true true = refl
swap true false = refl
swap false true = refl
swap false false = refl

-- pair q's extras are e and g where it is of unit u
met_as : (size : ℕ) (extras : List ℕ) (m q time time' u : ℕ) (low high e g : List ℕ) → time ≡ time' → row_of size extras (2 * m) ≡ low → row_of size extras (2 * m + 1) ≡ high
    → (time' ≡ u → row_of size extras (2 * q) ≡ e) → (time' ≡ u → row_of size extras (2 * q + 1) ≡ g)
    → (eqb time u && (meets_row size extras m extras (2 * q) || meets_row size extras m extras (2 * q + 1)))
    ≡ (eqb time' u && ((overlaps low e || overlaps high e) || (overlaps low g || overlaps high g)))
unfolding meets_row
met_as size extras m q time time' u low high e g et el eh ee eg = by-test (eqb time' u)
    (λ h. rw (et, h, el, eh, ee (eqb-true time' u h), eg (eqb-true time' u h)))
    (λ h. rw (et, h))

module _ (c t : List ℕ) (f : Fault) where
  touches-turn : (pairs : List (ℕ × ℕ)) (u q : ℕ) (new : List ℕ) → q < length pairs
      → touches c t f (drop q pairs) u new
      ≡ ((eqb (get_or pairs q (0, 0)).0 u && (overlaps new (extra c t f u (get_or pairs q (0, 0)).1 0) || overlaps new (extra c t f u (get_or pairs q (0, 0)).1 1))) || touches c t f (drop (q + 1) pairs) u new)
  unfolding touches
  touches-turn pairs u q new h = rw (drop-cons pairs q (0, 0) h, add-one q)

  touches_none : (pairs : List (ℕ × ℕ)) (u m : ℕ) (new : List ℕ) → length pairs ≡ m → touches c t f (drop m pairs) u new ≡ overlaps new (state_row c t f u)
  touches_none pairs u m new e = let end : drop m pairs ≡ [] = rw (← e) (drop-length pairs) in rw end (unfold touches in refl)

  module _ (pairs : List (ℕ × ℕ)) (m : ℕ) (times extras : List ℕ) (taken : Taken c t f pairs m times extras) (size u : ℕ) (low high : List ℕ) (es : size ≡ F c)
      (el : row_of size extras (2 * m) ≡ low) (eh : row_of size extras (2 * m + 1) ≡ high) where
    -- behind the last pair, the state list
    pub touch_list : (list : List ℕ) (found : Bool) → row_of size list u ≡ state_row c t f u → found ≡ meets_row size extras m list u
        → found ≡ (touches c t f (drop m pairs) u low || touches c t f (drop m pairs) u high)
    unfolding meets_row
    touch_list list found er e = e ∙ rw (el, eh, er, touches_none pairs u m low taken.count, touches_none pairs u m high taken.count)

    extra-row : (q α : ℕ) → q < m → α < 2 → (get_or pairs q (0, 0)).0 ≡ u → row_of size extras (2 * q + α) ≡ extra c t f u (get_or pairs q (0, 0)).1 α
    extra-row q α h few e =
        let half : (2 * q + α) / 2 ≡ q = omega arith in
        let rest : (2 * q + α) % 2 ≡ α = omega arith in
        rw (half, rest, e, ← es) at (taken.rows.at (2 * q + α) (omega arith))

    -- one pair more
    pub touch_turn : (q above : ℕ) (met found : Bool) → q < m → above ≡ q + 1
        → met ≡ (eqb (get_or times q 0) u && (meets_row size extras m extras (2 * q) || meets_row size extras m extras (2 * q + 1)))
        → found ≡ (touches c t f (drop above pairs) u low || touches c t f (drop above pairs) u high)
        → (met || found) ≡ (touches c t f (drop q pairs) u low || touches c t f (drop q pairs) u high)
    touch_turn q above met found h ea em ef =
        let same : 2 * q + 0 ≡ 2 * q = omega arith in
        let inside : q < length pairs = rw taken.count h in
        let is = em ∙ met_as size extras m q _ _ u low high (extra c t f u (get_or pairs q (0, 0)).1 0) (extra c t f u (get_or pairs q (0, 0)).1 1) (taken.time q h) el eh
        (λ e. rw same at (extra-row q 0 h (omega arith) e)) (λ e. extra-row q 1 h (omega arith) e) in
        let e = extra c t f u (get_or pairs q (0, 0)).1 0 in
        let g = extra c t f u (get_or pairs q (0, 0)).1 1 in
        rw (is, ef, ea, touches-turn pairs u q low inside, touches-turn pairs u q high inside)
        (gather (eqb (get_or pairs q (0, 0)).0 u) (overlaps low e) (overlaps low g) (overlaps high e) (overlaps high g) (touches c t f (drop (q + 1) pairs) u low) (touches c t f (drop (q + 1) pairs) u high))

  -- all pairs
  pub touch_all : (pairs : List (ℕ × ℕ)) (u q : ℕ) (low high : List ℕ) (found : Bool) → q ≡ 0 → found ≡ (touches c t f (drop q pairs) u low || touches c t f (drop q pairs) u high)
      → found ≡ (touches c t f pairs u low || touches c t f pairs u high)
  touch_all pairs u q low high found e h = rw e at h

-- the rows that code compares
pub meets_as : (size m r : ℕ) (extras table : List ℕ) (a b z : Bool) → size * (2 * m + 1) + size ≤ length extras → size * r + size ≤ length table → z ≡ (a || b)
    → a ≡ overlaps (take size (take (size * (2 * m) + size - size * (2 * m)) (drop (size * (2 * m)) extras))) (take size (take (size * r + size - size * r) (drop (size * r) table)))
    → b ≡ overlaps (take size (take (size * (2 * m + 1) + size - size * (2 * m + 1)) (drop (size * (2 * m + 1)) extras))) (take size (take (size * r + size - size * r) (drop (size * r) table)))
    → z ≡ meets_row size extras m table r
unfolding meets_row
meets_as size m r extras table a b z fits room e ea eb =
    let low = part-taken extras size (2 * m) (2 * m) refl (row_before size (2 * m) (2 * m + 1) _ (omega arith) fits) in
    let high = part-taken extras size (2 * m + 1) (2 * m + 1) refl fits in
    let other = part-taken table size r r refl room in
    e ∙ rw (ea, eb, ← low, ← high, ← other)

-- ---- the tests that need no trial
-- the first of three tests that fails ends them
pub not_taken : (m k u units i size left : ℕ) (list : List ℕ) → ((m < k) × (u < units) × (size ≤ i)) ⊎ (((m < k) × (units ≤ u)) ⊎ (k ≤ m)) → may_take m k u units i size left list ≡ false
unfolding may_take
not_taken m k u units i size left list (inl h) = rw (lt-ltb m k h.0, lt-ltb u units h.1, le-ltb i size h.2)
not_taken m k u units i size left list (inr (inl h)) = rw (lt-ltb m k h.0, le-ltb u units h.1)
not_taken m k u units i size left list (inr (inr h)) = rw (le-ltb m k h)

pub taken_late : (m k u units i size left : ℕ) (list : List ℕ) → (m < k) × (u < units) × (i < size) → leb u left ≡ false → may_take m k u units i size left list ≡ false
unfolding may_take
taken_late m k u units i size left list h late = rw (lt-ltb m k h.0, lt-ltb u units h.1, lt-ltb i size h.2, late)

pub outputs_as : (c t : List ℕ) (f : Fault) (left : ℕ) → OpenUnits c t f left → (u : ℕ) → u < L c t → outputs_left c t f u ≡ leb u left
unfolding outputs_left
outputs_as c t f left reach zero h = sym (le-leb 0 left (omega arith))
outputs_as c t f left reach (suc u) h = elim (dec_le (suc u) left) [
  | yes g ↦ rw (le-leb (suc u) left g) (lt-ltb 0 (nout c t f u) (reach.above u g))
  | no g ↦ rw (lt-leb (suc u) left (omega arith)) (le-ltb 0 (nout c t f u) (omega (arith, reach.zero u (omega arith) (omega arith))))
]

nor : (a b : Bool) → a || b ≡ true → (not a && not b) ≡ false
nor true b e = refl
nor false true e = refl
nor false false e = sym e

both-not : (a b : Bool) → a || b ≡ false → (not a && not b) ≡ true
both-not true b e = sym e
both-not false true e = sym e
both-not false false e = refl

module _ (c t : List ℕ) (f : Fault) (list : List ℕ) (left : ℕ) (rows : Rows (F c) (L c t) list (λ u. state_row c t f u)) (reach : OpenUnits c t f left) (room : L c t * F c ≤ length list)
    (pairs : List (ℕ × ℕ)) (k m u i : ℕ) (em : length pairs ≡ m) where
  bit_as : u < L c t → i < F c → get_or (state_row c t f u) i X ≡ get_or list (F c * u + i) 0
  unfolding row_of
  bit_as h l =
      let fits : F c * u + F c ≤ length list = omega (arith, row_fits (F c) u (L c t) h) in
      let long : length (row_of (F c) list u) ≡ F c = length-row (F c) u list fits in
      ap (λ row. get_or row i X) (sym (rows.at u h)) ∙ get_or_any (row_of (F c) list u) i X 0 (omega arith) ∙ get_or-take (F c) (drop (F c * u) list) i 0 l ∙ get_or-drop (F c * u) list i 0

  abbrev apart : Bool
  apart = not (touches c t f pairs u (extra c t f u i 0)) && not (touches c t f pairs u (extra c t f u i 1))

  next-is : take_next c t f k pairs (u, i) ≡ cond (may_take m k u (L c t) i (F c) left list && apart) (pairs ++ ((u, i) ∷ [])) pairs
  unfolding take_next takes may_take
  next-is = by-test (ltb m k)
      (λ a. by-test (ltb u (L c t))
      (λ b. by-test (ltb i (F c))
      (λ d.
      let bit = bit_as (ltb-true _ _ b) (ltb-true _ _ d) in
      let left_over = outputs_as c t f left reach u (ltb-true _ _ b) in
      by-test (leb u left)
      (λ o. by-test (is_specified (get_or list (F c * u + i) 0)) (λ n. rw (em, a, b, d, bit, left_over, o, n)) (λ n. rw (em, a, b, d, bit, left_over, o, n)))
      (λ o. by-test (is_specified (get_or list (F c * u + i) 0)) (λ n. rw (em, a, b, d, bit, left_over, o, n)) (λ n. rw (em, a, b, d, bit, left_over, o, n))))
      (λ d. rw (em, a, b, d)))
      (λ b. rw (em, a, b)))
      (λ a. rw (em, a))

  pub next-passed : may_take m k u (L c t) i (F c) left list ≡ false → take_next c t f k pairs (u, i) ≡ pairs
  next-passed e = next-is ∙ rw e

  pub next_touched : (touches c t f pairs u (extra c t f u i 0) || touches c t f pairs u (extra c t f u i 1)) ≡ true → take_next c t f k pairs (u, i) ≡ pairs
  next_touched e = next-is ∙ rw (nor _ _ e) (by-test (may_take m k u (L c t) i (F c) left list) (λ h. rw h) (λ h. rw h))

  pub next-taken : may_take m k u (L c t) i (F c) left list ≡ true → (touches c t f pairs u (extra c t f u i 0) || touches c t f pairs u (extra c t f u i 1)) ≡ false
      → take_next c t f k pairs (u, i) ≡ pairs ++ ((u, i) ∷ [])
  next-taken h e = next-is ∙ rw (h, both-not _ _ e)

-- with the sizes that code has
pub may_as : (c t : List ℕ) (m k u units i size left : ℕ) (list : List ℕ) (r : Bool) → units ≡ L c t → size ≡ F c → r ≡ may_take m k u units i size left list
    → may_take m k u (L c t) i (F c) left list ≡ r
may_as c t m k u units i size left list r eu es e = sym (e ∙ rw (eu, es))

-- what a pair that may be taken names
pub may_names : (m k u units i size left : ℕ) (list : List ℕ) → may_take m k u units i size left list ≡ true → (m < k) × (u < units) × (i < size)
unfolding may_take
may_names m k u units i size left list e =
    let more = and_right (ltb m k) _ e in
    let names = and_right (ltb u units) _ more in
    (ltb-true _ _ (and_left (ltb m k) _ e), ltb-true _ _ (and_left (ltb u units) _ more), ltb-true _ _ (and_left (ltb i size) _ names))

-- a value above 1 is not specified
pub above-one : (v : ℕ) → ltb 1 v ≡ not (is_specified v)
above-one v = elim (dec_le v 1) [
  | yes h ↦ rw (le-leb v 1 h, le-ltb 1 v h)
  | no h ↦ rw (lt-leb v 1 (omega arith), lt-ltb 1 v (omega arith))
]
