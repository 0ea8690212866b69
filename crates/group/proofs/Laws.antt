-- Records are alike where their keys are equal. So the search finds a record's group, and the groups stay known with that record among them.
use mathlib.Core.Path.{◌≡◌, refl, sym, ap, ◌∙◌}
use mathlib.Core.Bool.{true, false, cond, ◌&&◌}
use mathlib.Core.List.{List, [], ◌∷◌, ◌++◌, append-nil, append_assoc}
use Prim.Native.Nat.{ℕ, suc, ◌+◌, ◌*◌, ◌/◌, ◌≤◌, ◌<◌}
use native.Mathlib.Omega.{arith}
use native.Mathlib.Decide.{dec_le}
use lib.Dec.{eqb}
use lib.ListN.{get_or, length, set, length-append}
use lib.Seq.{get_or-set_other, sets}
use borrow.Author.Tests.{eqb-true, eq-eqb, ne_eqb}
use Rattle.lists.specs.Scan.{gather}
use Rattle.lists.specs.Field.{bytes16, overwritten}
use Rattle.lists.proofs.Tests.{and_left, and_right, is_false}
use Rattle.lists.proofs.Scan.{first-lowest, first-fails, length-gather, gather-turn}
use Rattle.lists.proofs.Field.{overwritten-none, overwritten-more}
use Rattle.model.specs.Grade.{record_at}
use Rattle.model.specs.Group.{alike, group_of, group_bytes}
use Rattle.group.specs.Groups.{KeyOf, Groups, Sought, GroupsTo}

-- ---- keys
module _ {vs : List ℕ} {a j k : ℕ} where
  key-alike : KeyOf vs a k → KeyOf vs j k → alike vs a j ≡ true
  unfolding alike
  key-alike p q =
      rw (
        eq-eqb (record_at vs a).verdict (record_at vs j).verdict (omega arith),
        eq-eqb (record_at vs a).time (record_at vs j).time (omega arith),
        eq-eqb (record_at vs a).line (record_at vs j).line (omega arith),
      )

  alike-key : KeyOf vs j k → alike vs a j ≡ true → KeyOf vs a k
  unfolding alike
  alike-key p e =
      let both : eqb (record_at vs a).verdict (record_at vs j).verdict && eqb (record_at vs a).time (record_at vs j).time ≡ true = and_left _ _ e in
      let verdict : (record_at vs a).verdict ≡ (record_at vs j).verdict = eqb-true _ _ (and_left _ _ both) in
      let time : (record_at vs a).time ≡ (record_at vs j).time = eqb-true _ _ (and_right (eqb (record_at vs a).verdict _) _ both) in
      let line : (record_at vs a).line ≡ (record_at vs j).line = eqb-true _ _ (and_right (eqb (record_at vs a).verdict _ && eqb (record_at vs a).time _) _ e) in
      record { verdict = omega arith; time = omega arith; sum = omega arith }

  unlike : KeyOf vs j k → (KeyOf vs a k → ⊥) → alike vs a j ≡ false
  unlike p other = is_false _ (λ e. other (alike-key p e))

-- what holds below n and of n holds below n + 1
with_last : (P : ℕ → Type 0) (n : ℕ) → ((x : ℕ) → x < n → P x) → P n → (x : ℕ) → x < n + 1 → P x
with_last P n below here x h = elim (dec_le (suc x) n) [ yes l ↦ below x l | no l ↦ (let e : x ≡ n = omega arith in rw e here) ]

-- ---- the groups so far
kept : (l : List ℕ) (count v x : ℕ) → x < count → get_or (set l count v) x 0 ≡ get_or l x 0
kept l count v x h = get_or-set_other l count x v 0 (λ e. (let z : ⊥ = omega arith in z))

pub groups_none : (vs keys firsts : List ℕ) → Groups vs 0 0 keys firsts
groups_none vs keys firsts = record {
  few = omega arith;
  below = λ x h. absurd (let z : ⊥ = omega arith in z);
  keyed = λ x h. absurd (let z : ⊥ = omega arith in z);
  lowest = λ x a h l e. omega arith;
  all = λ k a other l e. omega arith;
}

-- what is stored behind them leaves them as they are
pub groups_kept : {vs keys firsts : List ℕ} {j count : ℕ} (k p : ℕ) → Groups vs j count keys firsts → Groups vs j count (set keys count k) (set firsts count p)
groups_kept {keys = keys} {firsts} {count = count} k p g = record {
  few = g.few;
  below = λ x h. rw (kept firsts count p x h) (g.below x h);
  keyed = λ x h. rw (kept keys count k x h, kept firsts count p x h) (g.keyed x h);
  lowest = λ x a h l e. g.lowest x a h (rw (kept firsts count p x h) at l) (rw (kept keys count k x h) at e);
  all = λ m a other l e. g.all m a (λ x h q. other x h (kept keys count k x h ∙ q)) l e;
}

-- record j's key and position stand behind them, and its key is sought
module _ {vs keys firsts : List ℕ} {j count r : ℕ} (g : Groups vs j count keys firsts) (key : KeyOf vs j (get_or keys count 0)) (own : get_or firsts count 0 ≡ j)
    (s : Sought keys count r) where
  -- it is the first with its key
  new : r ≡ count → (a : ℕ) → a < j → KeyOf vs a (get_or keys count 0) → ⊥
  new e a l q = g.all (get_or keys count 0) a (λ x h. s.before x (omega arith)) l q

  -- or the group that is found has its key
  old : r < count → KeyOf vs (get_or firsts r 0) (get_or keys count 0)
  old h = rw (← s.found) (g.keyed r h)

  pub group-found : group_of vs j ≡ get_or firsts r 0
  unfolding group_of
  group-found = elim (dec_le (suc r) count) [
    | yes h ↦ rw (first-lowest (λ a. alike vs a j) j (get_or firsts r 0) record {
      below = g.below r h;
      passes = key-alike (old h) key;
      fails = λ a l. unlike key (λ q. g.lowest r a h l (rw s.found q));
    })
    | no h ↦ (
        let e : r ≡ count = omega (arith, s.within) in
        rw (e, own, first-fails (λ a. alike vs a j) j (λ a l. unlike key (new e a l))))
  ]

  pub groups_more : Groups vs (j + 1) (count + cond (eqb r count) 1 0) keys firsts
  groups_more = elim (dec_le (suc r) count) [
    | yes h ↦ rw (ne_eqb r count (λ e. (let z : ⊥ = omega arith in z))) (same h)
    | no h ↦ (let e : r ≡ count = omega (arith, s.within) in rw (eq-eqb r count e) (more e))
  ]
    where
      same : r < count → Groups vs (j + 1) (count + 0) keys firsts
      same h =
          let e : count + 0 ≡ count = omega arith in rw e record {
            few = omega (arith, g.few);
            below = λ x l. omega (arith, g.below x l);
            keyed = g.keyed;
            lowest = g.lowest;
            all = λ k a other. with_last (λ a. KeyOf vs a k → ⊥) j (λ a l. g.all k a other l) (λ q. other r h (s.found ∙ key.sum ∙ sym q.sum)) a;
          }

      more : r ≡ count → Groups vs (j + 1) (count + 1) keys firsts
      more e = record {
        few = omega (arith, g.few);
        below = with_last (λ x. get_or firsts x 0 < j + 1) count (λ x l. omega (arith, g.below x l)) (omega (arith, own));
        keyed = with_last (λ x. KeyOf vs (get_or firsts x 0) (get_or keys x 0)) count g.keyed (rw own key);
        lowest = λ x a h. with_last (λ x. a < get_or firsts x 0 → KeyOf vs a (get_or keys x 0) → ⊥) count (λ x l. g.lowest x a l) (λ l. new e a (rw own at l)) x h;
        all = λ k a other.
            with_last (λ a. KeyOf vs a k → ⊥) j (λ a l. g.all k a (λ x h. other x (omega arith)) l) (λ q. other count (omega arith) (key.sum ∙ sym q.sum)) a;
      }

-- ---- the groups in the result area
-- bytes written one by one behind those that are written already
behind : (new done old area : List ℕ) (i : ℕ) → area ≡ overwritten done old → length done ≡ i → i + length new ≤ length old
    → sets area i new ≡ overwritten (done ++ new) old
behind [] done old area i a p h = rw (append-nil done) a
behind (v ∷ new) done old area i a p h =
    let step : set area i v ≡ overwritten (done ++ (v ∷ [])) old = ap (λ x. set x i v) a ∙ ap (λ n. set (overwritten done old) n v) (sym p) ∙ overwritten-more done old v (omega arith) in
    behind new (done ++ (v ∷ [])) old (set area i v) (suc i) step (rw length-append (omega arith)) (omega arith)
    ∙ ap (λ x. overwritten x old) (append_assoc done (v ∷ []) new)

pub written_none : (vs area : List ℕ) → GroupsTo vs 0 area area
unfolding gather
written_none vs area = record { all = sym (overwritten-none area) }

-- one more
pub written-more : {vs old area area' : List ℕ} {j : ℕ} (v : ℕ) → GroupsTo vs j old area → group_of vs j ≡ v → area' ≡ sets area (2 * j) (bytes16 v) → 2 * j + 2 ≤ length old
    → GroupsTo vs (j + 1) old area'
unfolding bytes16
written-more {vs} {old} {area} {j = j} v to same e room = record {
  all = e ∙ behind (bytes16 v) (gather (λ j. bytes16 (group_of vs j)) j) old area (2 * j) to.all (length-gather (λ j. bytes16 (group_of vs j)) 2 (λ j. refl) j) room
      ∙ ap (λ x. overwritten x old) (rw (gather-turn (λ j. bytes16 (group_of vs j)) j, same));
}

pub written_all : {vs old area : List ℕ} {n : ℕ} → n ≡ length vs / 16 → GroupsTo vs n old area → area ≡ overwritten (group_bytes vs) old
unfolding group_bytes
written_all e to = rw (← e) to.all
