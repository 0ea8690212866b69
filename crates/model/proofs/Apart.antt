-- The state list and the extras of the pairs taken never specify one bit twice: a pair whose extras would is passed over. So the list of a
-- sequence has no conflict in it.
use mathlib.Core.Path.{◌≡◌, refl, sym, ◌∙◌}
use Prim.Native.Nat.{ℕ, zero, suc, ◌/◌, ◌%◌, ◌≤◌, ◌<◌}
use mathlib.Core.Bool.{Bool, true, false, ◌&&◌, ◌||◌, and_comm, true≢false}
use mathlib.Core.List.{List, [], ◌∷◌, ◌++◌}
use mathlib.Core.Option.{none}
use lib.ListN.{get_or, set}
use lib.Dec.{eqb, leb}
use native.Mathlib.Omega.{arith}
use borrow.Author.Tests.{eqb-true, eq-eqb, leb-false, lt-leb}
use Rattle.lists.proofs.Tests.{and_left, and_right, and-fails, or_left_false, or_right_false, or-is-false, or_cases, cond_cases, clash, is_false}
use Rattle.lists.proofs.Scan.{first_pair-none}
use Rattle.model.specs.Inputs.{F, L, Fault}
use Rattle.model.specs.Accepted.{ThreeValued, ValidTest, ValidFault}
use Rattle.model.specs.Values.{X, is_specified, opposes, some_oppose, give, give_row, has_conflict}
use Rattle.model.specs.Simulation.{power_up, plain_state}
use Rattle.model.specs.Implication.{nothing, where_x, implied_at, marked, extra}
use Rattle.model.specs.Expansion.{row_after, opposed_write, state_row}
use Rattle.model.specs.Sequences.{overlaps, touches, taken, sequence_row}
use Rattle.model.specs.Grade.{stage4}
use Rattle.model.proofs.Total.{bit-total, total-cases}
use Rattle.model.proofs.Stages.{at_pair-none}
use Rattle.model.proofs.Pairs.{taken-all}
use Rattle.model.proofs.Open.{written-cases}
use Rattle.model.proofs.ThreeValued.{unknown-at, power_up-three, next_state-three, state_at-three}

-- ---- rows that overlap nowhere
overlaps-sym : (xs ys : List ℕ) → overlaps xs ys ≡ overlaps ys xs
unfolding overlaps
overlaps-sym [] [] = refl
overlaps-sym [] (y ∷ ys) = refl
overlaps-sym (x ∷ xs) [] = refl
overlaps-sym (x ∷ xs) (y ∷ ys) = rw (and_comm (is_specified x) (is_specified y), overlaps-sym xs ys)

give_open : (b d : ℕ) → is_specified b ≡ false → is_specified d ≡ false → is_specified (give b d) ≡ false
unfolding give
give_open zero d h k = absurd (true≢false h)
give_open (suc zero) d h k = absurd (true≢false h)
give_open (suc (suc zero)) d h k = k
give_open (suc (suc (suc b))) d h k = refl

place-given : (s : Bool) (b d : ℕ) → s && is_specified b ≡ false → s && is_specified d ≡ false → s && is_specified (give b d) ≡ false
place-given true b d h k = give_open b d h k
place-given false b d h k = refl

overlaps-given : (xs ys zs : List ℕ) → overlaps xs ys ≡ false → overlaps xs zs ≡ false → overlaps xs (give_row ys zs) ≡ false
unfolding overlaps give_row
overlaps-given [] ys zs h k = refl
overlaps-given (x ∷ xs) [] zs h k = refl
overlaps-given (x ∷ xs) (y ∷ ys) [] h k = h
overlaps-given (x ∷ xs) (y ∷ ys) (z ∷ zs) h k =
    or-is-false _ _ (place-given (is_specified x) y z (or_left_false _ (overlaps xs ys) h) (or_left_false _ (overlaps xs zs) k))
    (overlaps-given xs ys zs (or_right_false (is_specified x && is_specified y) _ h) (or_right_false (is_specified x && is_specified z) _ k))

apart-agree : (a b : ℕ) → is_specified a && is_specified b ≡ false → opposes b a ≡ false
unfolding opposes
apart-agree a zero e = one a e
  where
    one : (a : ℕ) → is_specified a && true ≡ false → opposes 0 a ≡ false
    one zero e = refl
    one (suc zero) e = absurd (true≢false e)
    one (suc (suc a)) e = refl
apart-agree zero (suc zero) e = absurd (true≢false e)
apart-agree (suc a) (suc zero) e = refl
apart-agree a (suc (suc b)) e = refl

rows_apart : (xs ys : List ℕ) → overlaps xs ys ≡ false → some_oppose ys xs ≡ false
unfolding overlaps some_oppose
rows_apart xs [] e = refl
rows_apart [] (y ∷ ys) e = refl
rows_apart (x ∷ xs) (y ∷ ys) e =
    or-is-false _ _ (apart-agree x y (or_left_false _ (overlaps xs ys) e)) (rows_apart xs ys (or_right_false (is_specified x && is_specified y) _ e))

-- ---- rows with no conflict
give-three : (a b : ℕ) → a ≤ 2 → b ≤ 2 → opposes a b ≡ false → give a b ≤ 2
unfolding give opposes
give-three zero zero h k e = h
give-three zero (suc zero) h k e = absurd (true≢false e)
give-three zero (suc (suc zero)) h k e = h
give-three zero (suc (suc (suc b))) h k e = omega arith
give-three (suc zero) zero h k e = absurd (true≢false e)
give-three (suc zero) (suc zero) h k e = h
give-three (suc zero) (suc (suc zero)) h k e = h
give-three (suc zero) (suc (suc (suc b))) h k e = omega arith
give-three (suc (suc zero)) b h k e = k
give-three (suc (suc (suc a))) b h k e = omega arith

give_row-at : (row new : List ℕ) (m : ℕ) → ((m : ℕ) → get_or row m X ≤ 2) → ((m : ℕ) → get_or new m X ≤ 2) → some_oppose row new ≡ false
    → get_or (give_row row new) m X ≤ 2
unfolding give_row some_oppose
give_row-at [] new m h k e = omega arith
give_row-at (a ∷ row) [] m h k e = h m
give_row-at (a ∷ row) (b ∷ new) zero h k e = give-three a b (h 0) (k 0) (or_left_false _ (some_oppose row new) e)
give_row-at (a ∷ row) (b ∷ new) (suc m) h k e = give_row-at row new m (λ i. h (suc i)) (λ i. k (suc i)) (or_right_false (opposes a b) _ e)

pub give_row-three : (row new : List ℕ) → ThreeValued row → ThreeValued new → some_oppose row new ≡ false → ThreeValued (give_row row new)
give_row-three row new h k e = record { at = λ m. give_row-at row new m h.at k.at e }

where_x-at : (row new : List ℕ) (m : ℕ) → ((m : ℕ) → get_or new m X ≤ 2) → get_or (where_x row new) m X ≤ 2
unfolding where_x
where_x-at [] new m h = omega arith
where_x-at (a ∷ row) [] m h = omega arith
where_x-at (a ∷ row) (b ∷ new) zero h = cond_cases (λ (v : ℕ). v ≤ 2) (eqb a X) b X (λ _. h 0) (λ _. omega arith)
where_x-at (a ∷ row) (b ∷ new) (suc m) h = where_x-at row new m (λ i. h (suc i))

pub where_x-three : (row new : List ℕ) → ThreeValued new → ThreeValued (where_x row new)
where_x-three row new h = record { at = λ m. where_x-at row new m h.at }

set_at : (row : List ℕ) (i a m : ℕ) → ((m : ℕ) → get_or row m X ≤ 2) → a ≤ 2 → get_or (set row i a) m X ≤ 2
set_at [] i a m h k = omega arith
set_at (x ∷ row) zero a zero h k = k
set_at (x ∷ row) zero a (suc m) h k = h (suc m)
set_at (x ∷ row) (suc i) a zero h k = h 0
set_at (x ∷ row) (suc i) a (suc m) h k = set_at row i a m (λ j. h (suc j)) k

clear-three : (row : List ℕ) (m : ℕ) → has_conflict row ≡ false → get_or row m X ≤ 2
unfolding has_conflict
clear-three [] m e = omega arith
clear-three (a ∷ row) zero e = omega (arith, leb-false 3 a (or_left_false _ (has_conflict row) e))
clear-three (a ∷ row) (suc m) e = clear-three row m (or_right_false (leb 3 a) _ e)

pub three-clear : (row : List ℕ) → ((m : ℕ) → get_or row m X ≤ 2) → has_conflict row ≡ false
unfolding has_conflict
three-clear [] h = refl
three-clear (a ∷ row) h = rw (lt-leb 3 a (omega (arith, h 0))) (three-clear row (λ m. h (suc m)))

module _ (c t : List ℕ) (f : Fault) where
  -- ---- the pairs taken
  abbrev meets : ℕ × ℕ → ℕ → List ℕ → Bool
  meets q u new = eqb q.0 u && (overlaps new (extra c t f u q.1 0) || overlaps new (extra c t f u q.1 1))

  -- a pair that does not touch others at its unit overlaps neither extra of any of them
  untouched : (q : ℕ × ℕ) (pairs : List (ℕ × ℕ)) (u i α : ℕ) → touches c t f (q ∷ pairs) u (extra c t f u i α) ≡ false → u ≡ q.0
      → (overlaps (extra c t f q.0 q.1 0) (extra c t f q.0 i α) ≡ false)
      × (overlaps (extra c t f q.0 q.1 1) (extra c t f q.0 i α) ≡ false)
  unfolding touches
  untouched q pairs u i α h e =
      let both : overlaps (extra c t f q.0 i α) (extra c t f q.0 q.1 0) || overlaps (extra c t f q.0 i α) (extra c t f q.0 q.1 1) ≡ false =
      rw e at (and-fails _ _ (or_left_false (meets q u (extra c t f u i α)) _ h) (eq-eqb q.0 u (sym e))) in
      (overlaps-sym _ (extra c t f q.0 i α) ∙ or_left_false _ _ both, overlaps-sym _ (extra c t f q.0 i α) ∙ or_right_false (overlaps (extra c t f q.0 i α) (extra c t f q.0 q.1 0)) _ both)

  -- new is apart from what a sequence has of these pairs
  touches_sequence : (pairs : List (ℕ × ℕ)) (b u : ℕ) (new : List ℕ) → touches c t f pairs u new ≡ false
      → overlaps new (sequence_row c t f pairs b u) ≡ false
  unfolding touches sequence_row
  touches_sequence [] b u new e = e
  touches_sequence (q ∷ pairs) b u new e =
      let rest : overlaps new (sequence_row c t f pairs (b / 2) u) ≡ false = touches_sequence pairs (b / 2) u new (or_right_false (meets q u new) _ e) in
      cond_cases (λ (row : List ℕ). overlaps new row ≡ false) (eqb q.0 u) _ _
      (λ h.
      let both : overlaps new (extra c t f u q.1 0) || overlaps new (extra c t f u q.1 1) ≡ false = and-fails _ _ (or_left_false (meets q u new) _ e) h in
      overlaps-given new _ _ rest
      (total-cases (b % 2) (bit-total _ (omega arith)) (λ z. rw z (or_left_false _ _ both)) (λ z. rw z (or_right_false (overlaps new (extra c t f u q.1 0)) _ both))))
      (λ _. rest)

  -- and stays so with one pair more that does not touch it
  touches-more : (pairs : List (ℕ × ℕ)) (u i v : ℕ) (new : List ℕ) → touches c t f pairs v new ≡ false
      → (u ≡ v → (overlaps new (extra c t f v i 0) ≡ false) × (overlaps new (extra c t f v i 1) ≡ false))
      → touches c t f (pairs ++ ((u, i) ∷ [])) v new ≡ false
  unfolding touches
  touches-more [] u i v new e h = is_false _ (λ z. or_cases _ _ z
      (λ s.
      let given = h (eqb-true u v (and_left _ _ s)) in
      or_cases _ _ (and_right (eqb u v) _ s) (λ w. clash _ w given.0) (λ w. clash _ w given.1))
      (λ s. clash _ s e))
  touches-more (q ∷ pairs) u i v new e h =
      or-is-false (meets q v new) _ (or_left_false (meets q v new) _ e) (touches-more pairs u i v new (or_right_false (meets q v new) _ e) h)

  -- each pair is apart from those behind it
  Apart : List (ℕ × ℕ) → Type 0
  Apart [] = Unit {0}
  Apart (q ∷ pairs) =
      (touches c t f pairs q.0 (extra c t f q.0 q.1 0) ≡ false) × (touches c t f pairs q.0 (extra c t f q.0 q.1 1) ≡ false) × Apart pairs

  apart_more : (pairs : List (ℕ × ℕ)) (u i : ℕ) → touches c t f pairs u (extra c t f u i 0) ≡ false → touches c t f pairs u (extra c t f u i 1) ≡ false
      → Apart pairs → Apart (pairs ++ ((u, i) ∷ []))
  unfolding Apart touches
  apart_more [] u i a b h = (a, b, tt)
  apart_more (q ∷ pairs) u i a b h = (
    touches-more pairs u i q.0 _ h.0 (λ e. ((untouched q pairs u i 0 a e).0, (untouched q pairs u i 1 b e).0)),
    touches-more pairs u i q.0 _ h.1 (λ e. ((untouched q pairs u i 0 a e).1, (untouched q pairs u i 1 b e).1)),
    apart_more pairs u i (or_right_false (meets q u _) _ a) (or_right_false (meets q u _) _ b) h.2,
  )

  taken-apart : (p : List ℕ) (k : ℕ) → Apart (taken c t f p k)
  unfolding Apart
  taken-apart p k = taken-all c t f p k Apart tt (λ pairs u i _ h. apart_more pairs u i h.apart0 h.apart1)

  -- ---- the rows of an accepted job
  module _ (test : ValidTest c t) (fault : ValidFault c f) where
    nothing-three : ThreeValued (nothing c)
    unfolding nothing
    nothing-three = record { at = λ m. rw (unknown-at (F c) m) (omega arith) }

    unmarked-three : (u i α : ℕ) → marked c t f (suc u) i α ≡ false → ThreeValued (implied_at c t f u i α)
    unfolding marked
    unmarked-three u i α e = record { at = λ m. clear-three (implied_at c t f u i α) m (or_left_false (has_conflict (implied_at c t f u i α)) _ e) }

    pub extra-three : (u i α : ℕ) → α ≤ 1 → ThreeValued (extra c t f u i α)
    unfolding extra
    extra-three zero i α h = record { at = λ m. set_at (nothing c) i α m nothing-three.at (omega arith) }
    extra-three (suc u) i α h =
        cond_cases ThreeValued (marked c t f (suc u) i α) _ _ (λ _. nothing-three)
        (λ e. where_x-three _ _ (next_state-three c f (omega (arith, fault.value)) _ (unmarked-three u i α e)))

    row_after-three : (u i : ℕ) → ((j : ℕ) → j < i → opposed_write c t f u j ≡ false) → ThreeValued (row_after c t f u i)
    unfolding row_after opposed_write plain_state
    row_after-three u zero h = state_at-three c f (omega (arith, fault.value)) t (power_up c) u test.bytes (power_up-three c)
    row_after-three u (suc i) h =
        give_row-three _ _ (row_after-three u i (λ j k. h j (omega arith)))
        (written-cases c t f ThreeValued u i (extra-three u i 0 (omega arith)) (extra-three u i 1 (omega arith)) nothing-three) (h i (omega arith))

    sequence_three : (pairs : List (ℕ × ℕ)) (b u : ℕ) → ThreeValued (state_row c t f u) → Apart pairs → ThreeValued (sequence_row c t f pairs b u)
    unfolding sequence_row Apart
    sequence_three [] b u s h = s
    sequence_three (q ∷ pairs) b u s h =
        let rest : ThreeValued (sequence_row c t f pairs (b / 2) u) = sequence_three pairs (b / 2) u s h.2 in
        cond_cases ThreeValued (eqb q.0 u) _ _
        (λ e.
        let at : q.0 ≡ u = eqb-true _ _ e in
        let apart : touches c t f pairs u (extra c t f u q.1 (b % 2)) ≡ false =
        rw (← at) (total-cases (b % 2) (bit-total _ (omega arith)) (λ z. rw z h.0) (λ z. rw z h.1)) in
        give_row-three _ _ rest (extra-three u q.1 (b % 2) (omega arith)) (rows_apart _ _ (touches_sequence pairs (b / 2) u _ apart)))
        (λ _. rest)

    unopposed : stage4 c t f ≡ none → (u i : ℕ) → u < L c t → i < F c → opposed_write c t f u i ≡ false
    unfolding stage4
    unopposed e u i h k = first_pair-none (λ u i. opposed_write c t f u i) (L c t) (F c) u i (at_pair-none _ _ e) h k

    -- the state list
    pub list-three : stage4 c t f ≡ none → (u : ℕ) → u < L c t → ThreeValued (state_row c t f u)
    unfolding state_row
    list-three e u h = row_after-three u (F c) (λ i l. unopposed e u i h l)

    pub sequence_clear : stage4 c t f ≡ none → (p : List ℕ) (k b u : ℕ) → u < L c t → has_conflict (sequence_row c t f (taken c t f p k) b u) ≡ false
    sequence_clear e p k b u h = three-clear _ (sequence_three (taken c t f p k) b u (list-three e u h) (taken-apart p k)).at
