-- Rows given to rows, place by place; and the list of a sequence, pair by pair from the last to the first.
use mathlib.Core.Path.{◌≡◌, refl, sym, ap, ◌∙◌}
use Prim.Native.Nat.{ℕ, zero, suc, ◌+◌, ◌-◌, ◌*◌, ◌/◌, ◌%◌, ◌^◌, ◌<◌, ◌≤◌}
use mathlib.Core.Bool.{Bool, true, false, cond, true≢false}
use mathlib.Core.List.{List, [], ◌∷◌}
use lib.Dec.{eqb, leb}
use borrow.Author.Tests.{eqb-true, eq-eqb}
use lib.ListN.{get_or, length, take, drop, replicate}
use lib.Seq.{take-length, drop-length, drop-cons}
use lib.Pow.{shr-shr}
use native.Mathlib.Numerals.{add-one}
use native.Mathlib.Omega.{arith}
use native.Mathlib.Nat.{div-one}
use Rattle.lists.specs.Field.{row_of, Rows}
use Rattle.lists.proofs.Tests.{by-test, cond_cases, or_left_false, or_right_false}
use Rattle.lists.proofs.Scan.{get_or_any}
use Rattle.lists.proofs.Field.{part-row, row_fits, length-row}
use Rattle.rows.proofs.Laws.{length-give_row}
use Rattle.model.specs.Inputs.{F, L, Fault}
use Rattle.model.specs.Values.{X, give, give_row, has_conflict}
use Rattle.model.specs.Implication.{give_line, extra}
use Rattle.model.specs.Expansion.{state_row}
use Rattle.model.specs.Sequences.{sequence_row}
use Rattle.lanes.specs.declared.Lanes.{Lanes}
use Rattle.lanes.specs.Lane.{bit, is1, Holds, Conflict, Given, lanes_at, stored, Room, Follows}
use Rattle.lanes.proofs.Laws.{lane-read}
use Rattle.lanes.proofs.Follows.{clear_at, conflict_as, follows-give}
use Rattle.sequences.specs.Ends.{Taken}

-- ---- a row given to a row
give-assoc : (a b d : ℕ) → give (give a b) d ≡ give a (give b d)
unfolding give
give-assoc zero zero zero = refl
give-assoc zero zero (suc zero) = refl
give-assoc zero zero (suc (suc zero)) = refl
give-assoc zero zero (suc (suc (suc d))) = refl
give-assoc zero (suc zero) zero = refl
give-assoc zero (suc zero) (suc zero) = refl
give-assoc zero (suc zero) (suc (suc zero)) = refl
give-assoc zero (suc zero) (suc (suc (suc d))) = refl
give-assoc zero (suc (suc zero)) d = refl
give-assoc zero (suc (suc (suc b))) d = refl
give-assoc (suc zero) zero zero = refl
give-assoc (suc zero) zero (suc zero) = refl
give-assoc (suc zero) zero (suc (suc zero)) = refl
give-assoc (suc zero) zero (suc (suc (suc d))) = refl
give-assoc (suc zero) (suc zero) zero = refl
give-assoc (suc zero) (suc zero) (suc zero) = refl
give-assoc (suc zero) (suc zero) (suc (suc zero)) = refl
give-assoc (suc zero) (suc zero) (suc (suc (suc d))) = refl
give-assoc (suc zero) (suc (suc zero)) d = refl
give-assoc (suc zero) (suc (suc (suc b))) d = refl
give-assoc (suc (suc zero)) b d = refl
give-assoc (suc (suc (suc a))) b d = refl

-- one row after the other, or both at once
give_row-assoc : (vs row new : List ℕ) → length vs ≡ length row → give_row (give_row vs row) new ≡ give_row vs (give_row row new)
unfolding give_row
give_row-assoc [] row new e = refl
give_row-assoc (v ∷ vs) [] new e = absurd (let z : ⊥ = omega arith in z)
give_row-assoc (v ∷ vs) (r ∷ row) [] e = refl
give_row-assoc (v ∷ vs) (r ∷ row) (w ∷ new) e = rw (give-assoc v r w, give_row-assoc vs row new (omega arith))

-- a state that knows nothing becomes the row
pub give_row-unknown : (n : ℕ) (row : List ℕ) → length row ≡ n → give_row (replicate n X) row ≡ row
unfolding give_row give
give_row-unknown zero [] e = refl
give_row-unknown zero (r ∷ row) e = absurd (let z : ⊥ = omega arith in z)
give_row-unknown (suc n) [] e = absurd (let z : ⊥ = omega arith in z)
give_row-unknown (suc n) (r ∷ row) e = ap (◌∷◌ r) (give_row-unknown n row (omega arith))

-- a value given without a conflict
give-old : (v w : ℕ) → leb 3 (give v w) ≡ false → leb 3 v ≡ false
unfolding give
give-old zero w e = refl
give-old (suc zero) w e = refl
give-old (suc (suc zero)) w e = refl
give-old (suc (suc (suc v))) w e = absurd (true≢false e)

give-new : (v w : ℕ) → leb 3 (give v w) ≡ false → leb 3 w ≡ false
unfolding give
give-new zero zero e = refl
give-new zero (suc zero) e = refl
give-new zero (suc (suc zero)) e = refl
give-new zero (suc (suc (suc w))) e = absurd (true≢false e)
give-new (suc zero) zero e = refl
give-new (suc zero) (suc zero) e = refl
give-new (suc zero) (suc (suc zero)) e = refl
give-new (suc zero) (suc (suc (suc w))) e = absurd (true≢false e)
give-new (suc (suc zero)) w e = e
give-new (suc (suc (suc v))) w e = absurd (true≢false e)

pub clear-old : (vs new : List ℕ) → has_conflict (give_row vs new) ≡ false → has_conflict vs ≡ false
unfolding give_row has_conflict
clear-old [] new e = refl
clear-old (v ∷ vs) [] e = e
clear-old (v ∷ vs) (w ∷ new) e = rw (give-old v w (or_left_false (leb 3 (give v w)) _ e)) (clear-old vs new (or_right_false (leb 3 (give v w)) _ e))

clear-new : (vs new : List ℕ) → length new ≤ length vs → has_conflict (give_row vs new) ≡ false → has_conflict new ≡ false
unfolding give_row has_conflict
clear-new [] [] l e = refl
clear-new [] (w ∷ new) l e = absurd (let z : ⊥ = omega arith in z)
clear-new (v ∷ vs) [] l e = refl
clear-new (v ∷ vs) (w ∷ new) l e =
    rw (give-new v w (or_left_false (leb 3 (give v w)) _ e)) (clear-new vs new (omega arith) (or_right_false (leb 3 (give v w)) _ e))

-- ---- place by place
give_row-place : (vs new : List ℕ) (s : ℕ) → s < length vs → s < length new → give_row vs (take (suc s) new) ≡ give_line (give_row vs (take s new)) s (get_or new s X)
unfolding give_row give_line
give_row-place [] new s h g = absurd (let z : ⊥ = omega arith in z)
give_row-place (v ∷ vs) [] s h g = absurd (let z : ⊥ = omega arith in z)
give_row-place (v ∷ []) (w ∷ new) zero h g = refl
give_row-place (v ∷ (a ∷ vs)) (w ∷ new) zero h g = refl
give_row-place (v ∷ vs) (w ∷ new) (suc s) h g = ap (◌∷◌ (give v w)) (give_row-place vs new s (omega arith) (omega arith))

module _ (lane : ℕ) (vs new : List ℕ) where
  pub given-none : (ws : List ℕ) → Follows lane ws vs → Follows lane ws (give_row vs (take 0 new))
  given-none ws h = rw (nothing-given vs) h
    where
      nothing-given : (vs : List ℕ) → give_row vs [] ≡ vs
      nothing-given [] = unfold give_row in refl
      nothing-given (v ∷ vs) = unfold give_row in refl

  -- place s is given its value
  pub given-more : (ws ws' : List ℕ) (s : ℕ) (x y r : Lanes) → s < length vs → s < length new → Room (s + 1) ws → has_conflict new ≡ false → ws' ≡ stored ws s r → y ≡ lanes_at ws s
      → Holds lane x (get_or new s X) → ((t v w : ℕ) → v < 3 → w < 3 → Holds t y v → Holds t x w → Given t r v w) × ((t : ℕ) → Conflict t y → Conflict t r)
      → Follows lane ws (give_row vs (take s new)) → Follows lane ws' (give_row vs (take (s + 1) new))
  given-more ws ws' s x y r hv hn room clear e at holds law old =
      let size : length (give_row vs (take s new)) ≡ length vs = length-give_row vs (take s new) in
      let few : get_or new s X < 3 = clear_at new s clear in
      rw (e, add-one s, give_row-place vs new s hv hn)
      (follows-give lane ws _ old s (get_or new s X) r (omega arith) room
      (λ none. (few, law.0 lane _ _ (clear_at (give_row vs (take s new)) s none) few (lane-read lane ws _ y s s at refl (old.holds none) (omega arith)) holds))
      (λ met. law.1 lane (conflict_as lane _ _ at met)))

  pub given-all : (ws : List ℕ) (s : ℕ) → s ≡ length new → Follows lane ws (give_row vs (take s new)) → Follows lane ws (give_row vs new)
  given-all ws s e h = let all : take s new ≡ new = rw e (take-length new) in rw all at h

-- the lane's byte of one row or the other
pub picked : (lane ones : ℕ) (low high new : List ℕ) (s : ℕ) (x y r : Lanes) → s < length low → s < length high → Holds lane x (get_or low s 0) → Holds lane y (get_or high s 0)
    → ((t v : ℕ) → (bit t ones ≡ false → Holds t x v) → (bit t ones ≡ true → Holds t y v) → Holds t r v) → (bit lane ones ≡ false → new ≡ low) → (bit lane ones ≡ true → new ≡ high)
    → Holds lane r (get_or new s X)
picked lane ones low high new s x y r hl hh l h merge isLow isHigh = merge lane _
    (λ e. let same : get_or new s X ≡ get_or low s 0 = ap (λ row. get_or row s X) (isLow e) ∙ get_or_any low s X 0 hl in rw same l)
    (λ e. let same : get_or new s X ≡ get_or high s 0 = ap (λ row. get_or row s X) (isHigh e) ∙ get_or_any high s X 0 hh in rw same h)

pub picked-long : (lane ones n : ℕ) (low high new : List ℕ) → length low ≡ n → length high ≡ n → (bit lane ones ≡ false → new ≡ low) → (bit lane ones ≡ true → new ≡ high) → length new ≡ n
picked-long lane ones n low high new l h isLow isHigh = by-test (bit lane ones) (λ e. ap length (isHigh e) ∙ h) (λ e. ap length (isLow e) ∙ l)

-- ---- the list of a sequence
-- the part that is lent for row u of a table
pub length_part : (size u : ℕ) (table : List ℕ) → size * u + size ≤ length table → length (take (size * u + size - size * u) (drop (size * u) table)) ≡ size
length_part size u table h = ap length (part-row table size size u refl) ∙ length-row size u table h

module _ (c t : List ℕ) (f : Fault) where
  -- a row of the state list has a place for each flip-flop
  pub length-states : (list : List ℕ) (u : ℕ) → Rows (F c) (L c t) list (state_row c t f) → u < L c t → F c * u + F c ≤ length list → length (state_row c t f u) ≡ F c
  length-states list u rows h room = ap length (sym (rows.at u h)) ∙ length-row (F c) u list room

  pub length_sequence : (pairs : List (ℕ × ℕ)) (b u n : ℕ) → length (state_row c t f u) ≡ n → length (sequence_row c t f pairs b u) ≡ n
  unfolding sequence_row
  length_sequence [] b u n e = e
  length_sequence (q ∷ pairs) b u n e =
      let rest = length_sequence pairs (b / 2) u n e in
      cond_cases (λ (row : List ℕ). length row ≡ n) (eqb q.0 u) (give_row (sequence_row c t f pairs (b / 2) u) (extra c t f u q.1 (b % 2))) _
      (λ _. length-give_row (sequence_row c t f pairs (b / 2) u) (extra c t f u q.1 (b % 2)) ∙ rest) (λ _. rest)

  -- the pairs from q on have no conflict where all have none
  pub clear-part : (pairs : List (ℕ × ℕ)) (b u q : ℕ) → has_conflict (sequence_row c t f pairs b u) ≡ false → has_conflict (sequence_row c t f (drop q pairs) (b / 2 ^ q) u) ≡ false
  clear-part pairs b u zero e = rw (div-one b) e
  clear-part [] b u (suc q) e = unfold sequence_row in e
  clear-part (p ∷ pairs) b u (suc q) e =
      let one : 1 + q ≡ suc q = omega arith in
      let halves : b / 2 / 2 ^ q ≡ b / 2 ^ suc q = rw one at (shr-shr b 1 q) in
      rw halves at (clear-part pairs (b / 2) u q (inner (eqb p.0 u) (unfold sequence_row in e)))
    where
      inner : (here : Bool) → has_conflict (cond here (give_row (sequence_row c t f pairs (b / 2) u) (extra c t f u p.1 (b % 2))) (sequence_row c t f pairs (b / 2) u)) ≡ false
          → has_conflict (sequence_row c t f pairs (b / 2) u) ≡ false
      inner true h = clear-old (sequence_row c t f pairs (b / 2) u) _ h
      inner false h = h

  -- with every pair behind, the state list
  pub sequence_none : (pairs : List (ℕ × ℕ)) (b u m : ℕ) → length pairs ≡ m → sequence_row c t f (drop m pairs) b u ≡ state_row c t f u
  sequence_none pairs b u m e = let end : drop m pairs ≡ [] = rw (← e) (drop-length pairs) in rw end (unfold sequence_row in refl)

  -- the state list has none either
  pub state-clear : (pairs : List (ℕ × ℕ)) (b u : ℕ) → has_conflict (sequence_row c t f pairs b u) ≡ false → has_conflict (state_row c t f u) ≡ false
  state-clear pairs b u e = rw (sequence_none pairs (b / 2 ^ length pairs) u (length pairs) refl) at (clear-part pairs b u (length pairs) e)

  -- one pair more
  pub sequence_turn : (pairs : List (ℕ × ℕ)) (b u q : ℕ) → q < length pairs
      → sequence_row c t f (drop q pairs) (b / 2 ^ q) u
      ≡ cond (eqb (get_or pairs q (0, 0)).0 u) (give_row (sequence_row c t f (drop (q + 1) pairs) (b / 2 ^ (q + 1)) u) (extra c t f u (get_or pairs q (0, 0)).1 (b / 2 ^ q % 2)))
      (sequence_row c t f (drop (q + 1) pairs) (b / 2 ^ (q + 1)) u)
  unfolding sequence_row
  sequence_turn pairs b u q h = let halves : b / 2 ^ q / 2 ≡ b / 2 ^ (q + 1) = shr-shr b q 1 in rw (drop-cons pairs q (0, 0) h, halves, add-one q)

  -- pair q is given at unit u: the extra, and where it is of that unit no conflict in it
  module _ (pairs : List (ℕ × ℕ)) (m : ℕ) (times extras : List ℕ) (taken : Taken c t f pairs m times extras) (b u q : ℕ) (below : q < m) where
    abbrev pub extra_of : List ℕ
    extra_of = extra c t f (get_or pairs q (0, 0)).0 (get_or pairs q (0, 0)).1 (b / 2 ^ q % 2)

    abbrev pub rest_of : List ℕ
    rest_of = sequence_row c t f (drop (q + 1) pairs) (b / 2 ^ (q + 1)) u

    pub extra-row : row_of (F c) extras (2 * q + b / 2 ^ q % 2) ≡ extra_of
    extra-row =
        let digit : b / 2 ^ q % 2 < 2 = omega arith in
        let pair : (2 * q + b / 2 ^ q % 2) / 2 ≡ q = omega arith in
        let value : (2 * q + b / 2 ^ q % 2) % 2 ≡ b / 2 ^ q % 2 = omega arith in
        rw (pair, value) at (taken.rows.at (2 * q + b / 2 ^ q % 2) (omega arith))

    pub extra-clear : length extra_of ≤ length rest_of → has_conflict (sequence_row c t f pairs b u) ≡ false → get_or times q 0 ≡ u → has_conflict extra_of ≡ false
    extra-clear long clear now =
        let time : (get_or pairs q (0, 0)).0 ≡ u = sym (taken.time q below) ∙ now in
        let here : has_conflict (cond (eqb (get_or pairs q (0, 0)).0 u) (give_row rest_of (extra c t f u (get_or pairs q (0, 0)).1 (b / 2 ^ q % 2))) rest_of) ≡ false =
        rw (sequence_turn pairs b u q (rw taken.count below)) at (clear-part pairs b u q clear) in
        clear-new rest_of extra_of long (rw time (rw (eq-eqb _ _ time) at here))

    pub pair-given : (lane : ℕ) (ws vs : List ℕ) → length vs ≡ length rest_of → Follows lane ws (cond (eqb (get_or times q 0) u) (give_row (give_row vs rest_of) extra_of) (give_row vs rest_of))
        → Follows lane ws (give_row vs (sequence_row c t f (drop q pairs) (b / 2 ^ q) u))
    pair-given lane ws vs long h =
        rw (sequence_turn pairs b u q (rw taken.count below)) (by-test (eqb (get_or pairs q (0, 0)).0 u)
        (λ e.
        let time : (get_or pairs q (0, 0)).0 ≡ u = eqb-true _ _ e in
        rw (e, ← give_row-assoc vs rest_of (extra c t f u (get_or pairs q (0, 0)).1 (b / 2 ^ q % 2)) long) (rw time at (rw (eq-eqb _ _ (taken.time q below ∙ time)) at h)))
        (λ e. rw e (rw (taken.time q below, e) at h)))

    -- the loop's turn: k is the number of the pair above
    pub pair_turn : (lane count k : ℕ) (ws ws' vs : List ℕ) → count ≡ F c → k ≡ q + 1 → length vs ≡ F c → length (state_row c t f u) ≡ F c → 2 * m * count ≤ length extras
        → has_conflict (sequence_row c t f pairs b u) ≡ false
        → ((now new : List ℕ) → length now ≡ count → (get_or times q 0 ≡ u → (has_conflict new ≡ false) × (new ≡ row_of count extras (2 * q + b / 2 ^ q % 2)))
        → Follows lane ws now → Follows lane ws' (cond (eqb (get_or times q 0) u) (give_row now new) now))
        → Follows lane ws (give_row vs (sequence_row c t f (drop k pairs) (b / 2 ^ k) u)) → Follows lane ws' (give_row vs (sequence_row c t f (drop q pairs) (b / 2 ^ q) u))
    pair_turn lane count k ws ws' vs e above long size room clear step old =
        let rest : length rest_of ≡ F c = length_sequence (drop (q + 1) pairs) (b / 2 ^ (q + 1)) u (F c) size in
        let all : 2 * m * F c ≤ length extras = rw (← e) room in
        let fits : F c * (2 * q + b / 2 ^ q % 2) + F c ≤ 2 * m * F c = row_fits (F c) (2 * q + b / 2 ^ q % 2) (2 * m) (omega arith) in
        let width : length extra_of ≡ F c = ap length (sym extra-row) ∙ length-row (F c) (2 * q + b / 2 ^ q % 2) extras (omega arith) in
        pair-given lane ws' vs (long ∙ sym rest)
        (step (give_row vs rest_of) extra_of (length-give_row vs rest_of ∙ long ∙ sym e) (λ now. (extra-clear (omega arith) clear now, sym (rw e extra-row))) (rw above at old))

-- ---- the rows of a pair's two values
module _ (lane d count q : ℕ) (x : Lanes) (extras new : List ℕ) (digit : Holds lane x d) (binary : d < 2) (is : new ≡ row_of count extras (2 * q + d)) where
  pub row-of-zero : bit lane x.ones ≡ false → new ≡ take (count * (2 * q) + count - count * (2 * q)) (drop (count * (2 * q)) extras)
  row-of-zero e =
      let zero-digit : 2 * q + d ≡ 2 * q = omega (arith, value d (sym digit.one? ∙ e) binary) in
      is ∙ rw zero-digit (sym (part-row extras count count (2 * q) refl))
    where
      value : (d : ℕ) → is1 d ≡ false → d < 2 → d ≡ 0
      value zero e h = refl
      value (suc zero) e h = absurd (true≢false (unfold is1 in e))
      value (suc (suc d)) e h = absurd (let z : ⊥ = omega arith in z)

  pub row-of-one : bit lane x.ones ≡ true → new ≡ take (count * (2 * q + 1) + count - count * (2 * q + 1)) (drop (count * (2 * q + 1)) extras)
  row-of-one e =
      let one-digit : 2 * q + d ≡ 2 * q + 1 = omega (arith, value d (sym digit.one? ∙ e)) in
      is ∙ rw one-digit (sym (part-row extras count count (2 * q + 1) refl))
    where
      value : (d : ℕ) → is1 d ≡ true → d ≡ 1
      value zero e = absurd (true≢false (sym (unfold is1 in e)))
      value (suc zero) e = refl
      value (suc (suc d)) e = absurd (true≢false (sym (unfold is1 in e)))

pub sequence_all : (c t : List ℕ) (f : Fault) (pairs : List (ℕ × ℕ)) (b u lane : ℕ) (ws vs : List ℕ) (q : ℕ) → q ≡ 0 → Follows lane ws (give_row vs (sequence_row c t f (drop q pairs) (b / 2 ^ q) u))
    → Follows lane ws (give_row vs (sequence_row c t f pairs b u))
sequence_all c t f pairs b u lane ws vs q e h = rw (div-one b) at (rw e at h)
