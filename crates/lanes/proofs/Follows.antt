-- A lane that follows values which an implication gives: it holds them until a conflict is met, and then some place holds a conflict.
use mathlib.Core.Path.{◌≡◌, refl, sym, ◌∙◌}
use mathlib.Core.Bool.{true, false, true≢false, or-true}
use mathlib.Core.List.{List, [], ◌∷◌}
use Prim.Native.Nat.{ℕ, zero, suc, ◌+◌, ◌<◌}
use native.Mathlib.Omega.{arith}
use lib.Dec.{leb}
use borrow.Author.Tests.{leb-false, le-leb}
use lib.ListN.{get_or, length, set, length-set}
use lib.Seq.{get_or-set_same, get_or-set_other}
use Rattle.lists.proofs.Tests.{by-test, by-eq, or_left_false, or_right_false}
use Rattle.model.specs.Values.{X, opposes, give, has_conflict}
use Rattle.model.specs.Implication.{give_line}
use Rattle.lanes.specs.declared.Lanes.{Lanes}
use Rattle.lanes.specs.Lane.{is0, is1, Holds, Conflict, lanes_at, stored, Room, Lane, Follows, Given}
use Rattle.lanes.proofs.Laws.{holds_as, stored_same, stored_other, lane-at}

-- ---- conflicts in a row of values
pub clear_at : (vs : List ℕ) (m : ℕ) → has_conflict vs ≡ false → get_or vs m X < 3
unfolding has_conflict
clear_at [] m e = omega arith
clear_at (v ∷ vs) zero e = leb-false 3 v (or_left_false _ _ e)
clear_at (v ∷ vs) (suc m) e = clear_at vs m (or_right_false (leb 3 v) _ e)

-- a value that is set: a conflict, or none where there was none
set-conflict : (vs : List ℕ) (m a : ℕ) → m < length vs → leb 3 a ≡ true → has_conflict (set vs m a) ≡ true
unfolding has_conflict
set-conflict [] m a h e = absurd (let z : ⊥ = omega arith in z)
set-conflict (v ∷ vs) zero a h e = rw e
set-conflict (v ∷ vs) (suc m) a h e = rw (set-conflict vs m a (omega arith) e) (or-true (leb 3 v))

set-clear : (vs : List ℕ) (m a : ℕ) → has_conflict vs ≡ false → leb 3 a ≡ false → has_conflict (set vs m a) ≡ false
unfolding has_conflict
set-clear [] m a e g = refl
set-clear (v ∷ vs) zero a e g = rw (g, or_right_false (leb 3 v) _ e)
set-clear (v ∷ vs) (suc m) a e g = rw (or_left_false (leb 3 v) _ e, set-clear vs m a (or_right_false (leb 3 v) _ e) g)

give-stays : (v w : ℕ) → leb 3 v ≡ true → leb 3 (give v w) ≡ true
unfolding give
give-stays zero w e = absurd (true≢false (sym e))
give-stays (suc zero) w e = absurd (true≢false (sym e))
give-stays (suc (suc zero)) w e = absurd (true≢false (sym e))
give-stays (suc (suc (suc v))) w e = refl

give-opposes : (v w : ℕ) → opposes v w ≡ true → leb 3 (give v w) ≡ true
unfolding give opposes
give-opposes zero zero e = absurd (true≢false (sym e))
give-opposes zero (suc zero) e = refl
give-opposes zero (suc (suc w)) e = absurd (true≢false (sym e))
give-opposes (suc zero) zero e = refl
give-opposes (suc zero) (suc w) e = absurd (true≢false (sym e))
give-opposes (suc (suc v)) w e = absurd (true≢false (sym e))

give-clear : (v w : ℕ) → v < 3 → w < 3 → opposes v w ≡ false → leb 3 (give v w) ≡ false
unfolding give opposes
give-clear zero zero a b e = refl
give-clear zero (suc zero) a b e = absurd (true≢false e)
give-clear zero (suc (suc zero)) a b e = refl
give-clear zero (suc (suc (suc w))) a b e = absurd (let z : ⊥ = omega arith in z)
give-clear (suc zero) zero a b e = absurd (true≢false e)
give-clear (suc zero) (suc zero) a b e = refl
give-clear (suc zero) (suc (suc zero)) a b e = refl
give-clear (suc zero) (suc (suc (suc w))) a b e = absurd (let z : ⊥ = omega arith in z)
give-clear (suc (suc zero)) zero a b e = refl
give-clear (suc (suc zero)) (suc zero) a b e = refl
give-clear (suc (suc zero)) (suc (suc zero)) a b e = refl
give-clear (suc (suc zero)) (suc (suc (suc w))) a b e = absurd (let z : ⊥ = omega arith in z)
give-clear (suc (suc (suc v))) w a b e = absurd (let z : ⊥ = omega arith in z)

-- a conflict stays, whatever the line is given
give-conflict : (vs : List ℕ) (m w : ℕ) → m < length vs → has_conflict vs ≡ true → has_conflict (set vs m (give (get_or vs m X) w)) ≡ true
unfolding has_conflict
give-conflict [] m w h e = absurd (true≢false (sym e))
give-conflict (v ∷ vs) zero w h e = by-test (leb 3 v)
    (λ g. rw (give-stays v w g))
    (λ g. let rest : has_conflict vs ≡ true = (rw g at e) in rw rest (or-true (leb 3 (give v w))))
give-conflict (v ∷ vs) (suc m) w h e = by-test (leb 3 v)
    (λ g. rw g)
    (λ g. let rest : has_conflict vs ≡ true = (rw g at e) in rw (give-conflict vs m w (omega arith) rest) (or-true (leb 3 v)))

-- ---- lanes
pub conflict_as : (t : ℕ) (x y : Lanes) → x ≡ y → Conflict t y → Conflict t x
conflict_as t x y e h = rw e h

-- no value is held where there is a conflict
no_value : (t : ℕ) (x : Lanes) (v : ℕ) → Holds t x v → Conflict t x → ⊥
unfolding is0 is1
no_value t x zero h k = true≢false (sym k.one? ∙ h.one?)
no_value t x (suc v) h k = true≢false (sym k.zero? ∙ h.zero?)

pub follows-start : (t : ℕ) (ws vs : List ℕ) → has_conflict vs ≡ false → Lane t ws vs → Follows t ws vs
follows-start t ws vs e l = record { holds = λ g. l; conflict = λ g. absurd (true≢false (sym g ∙ e)) }

module _ (t : ℕ) (ws vs : List ℕ) (old : Follows t ws vs) where
  -- some place holds a conflict exactly where one was met
  pub follows-met : (m : ℕ) → m < length vs → Conflict t (lanes_at ws m) → has_conflict vs ≡ true
  follows-met m h k = by-test (has_conflict vs) (λ e. e) (λ e. absurd (no_value t (lanes_at ws m) _ (lane-at t ws vs m (old.holds e) h) k))

  -- place m is given w, as `give` on lanes does it
  module _ (m w : ℕ) (r : Lanes) (inside : m < length vs) (room : Room (m + 1) ws)
      (given : has_conflict vs ≡ false → (w < 3) × Given t r (get_or vs m X) w) (stays : Conflict t (lanes_at ws m) → Conflict t r) where
    clear : has_conflict vs ≡ false → opposes (get_or vs m X) w ≡ false → Lane t (stored ws m r) (give_line vs m w)
    unfolding give_line Lane
    clear e g k l =
        let size : length (set vs m (give (get_or vs m X) w)) ≡ length vs = length-set vs m _ in
        by-eq k m
        (λ s. rw s (holds_as t _ _ _ (stored_same ws m r room) (rw (get_or-set_same vs m (give (get_or vs m X) w) X inside) ((given e).1.holds g))))
        (λ s. holds_as t _ _ _ (stored_other ws m k r s) (rw (get_or-set_other vs m k (give (get_or vs m X) w) X s) (lane-at t ws vs k (old.holds e) (omega arith))))

    pub follows-give : Follows t (stored ws m r) (give_line vs m w)
    follows-give = record {
      holds = λ e. by-test (has_conflict vs)
          (λ met. absurd (true≢false (sym (met-stays met) ∙ e)))
          (λ none. by-test (opposes (get_or vs m X) w) (λ g. absurd (true≢false (sym (met-now g) ∙ e))) (λ g. clear none g));
      conflict = λ e. by-test (has_conflict vs)
          (λ met. let at = old.conflict met in by-eq at.0 m
          (λ s. (m, wide inside, conflict_as t _ _ (stored_same ws m r room) (stays (rw s at at.2))))
          (λ s. (at.0, wide at.1, conflict_as t _ _ (stored_other ws m at.0 r s) at.2)))
          (λ none. by-test (opposes (get_or vs m X) w)
          (λ g. (m, wide inside, conflict_as t _ _ (stored_same ws m r room) ((given none).1.conflict g)))
          (λ g. absurd (true≢false (sym e ∙ none-now none g))));
    }
      where
        met-stays : has_conflict vs ≡ true → has_conflict (give_line vs m w) ≡ true
        met-stays met = unfold give_line in give-conflict vs m w inside met

        met-now : opposes (get_or vs m X) w ≡ true → has_conflict (give_line vs m w) ≡ true
        met-now g = unfold give_line in set-conflict vs m _ inside (give-opposes _ _ g)

        none-now : has_conflict vs ≡ false → opposes (get_or vs m X) w ≡ false → has_conflict (give_line vs m w) ≡ false
        none-now none g = unfold give_line in set-clear vs m _ none (give-clear _ _ (clear_at vs m none) (given none).0 g)

        wide : {k : ℕ} → k < length vs → k < length (give_line vs m w)
        wide h = unfold give_line in (let size : length (set vs m (give (get_or vs m X) w)) ≡ length vs = length-set vs m _ in omega arith)

-- ---- X is given: nothing changes
give-X : (v : ℕ) → leb 3 (give v X) ≡ leb 3 v
unfolding give
give-X zero = refl
give-X (suc zero) = refl
give-X (suc (suc zero)) = refl
give-X (suc (suc (suc v))) = sym (le-leb 3 (suc (suc (suc v))) (omega arith))

conflict-X : (vs : List ℕ) (m : ℕ) → has_conflict (set vs m (give (get_or vs m X) X)) ≡ has_conflict vs
unfolding has_conflict
conflict-X [] m = refl
conflict-X (v ∷ vs) zero = rw (give-X v)
conflict-X (v ∷ vs) (suc m) = rw (conflict-X vs m)

same-X : (v : ℕ) → leb 3 v ≡ false → give v X ≡ v
unfolding give
same-X zero e = refl
same-X (suc zero) e = refl
same-X (suc (suc zero)) e = refl
same-X (suc (suc (suc v))) e = absurd (true≢false (sym (le-leb 3 (suc (suc (suc v))) (omega arith)) ∙ e))

row-X : (vs : List ℕ) (m : ℕ) → has_conflict vs ≡ false → set vs m (give (get_or vs m X) X) ≡ vs
unfolding has_conflict
row-X [] m e = refl
row-X (v ∷ vs) zero e = rw (same-X v (or_left_false (leb 3 v) _ e))
row-X (v ∷ vs) (suc m) e = rw (row-X vs m (or_right_false (leb 3 v) _ e))

pub follows-X : (t : ℕ) (ws vs : List ℕ) (m : ℕ) → Follows t ws (give_line vs m X) → Follows t ws vs
unfolding give_line
follows-X t ws vs m h = record {
  holds = λ e. rw (row-X vs m e) at (h.holds (conflict-X vs m ∙ e));
  conflict = λ e.
      let at = h.conflict (conflict-X vs m ∙ e) in
      let size : length (set vs m (give (get_or vs m X) X)) ≡ length vs = length-set vs m _ in
      (at.0, omega (arith, at.1), at.2);
}

-- a conflict that was met stays met
pub conflict-kept : (vs : List ℕ) (m w : ℕ) → m < length vs → has_conflict (give_line vs m w) ≡ false → has_conflict vs ≡ false
unfolding give_line
conflict-kept vs m w h e = by-test (has_conflict vs) (λ met. absurd (true≢false (sym (give-conflict vs m w h met) ∙ e))) (λ none. none)
