-- Picks one after another: what a pick changes, and where it ends.
use mathlib.Core.Path.{◌≡◌, refl, sym, ap, ◌∙◌}
use mathlib.Core.Bool.{false, and-false}
use mathlib.Core.List.{List, [], ◌∷◌, ◌++◌}
use mathlib.Core.Option.{none, some}
use Prim.Native.Nat.{ℕ, zero, suc, ◌+◌, ◌*◌, ◌-◌, ◌/◌, ◌%◌, ◌<◌, ◌≤◌}
use native.Mathlib.Omega.{arith}
use native.Mathlib.Decide.{dec_le}
use native.Mathlib.Nat.{mul_comm}
use lib.Dec.{ltb}
use lib.ListN.{get_or, set, length, take, drop, replicate, length-append}
use borrow.Author.Tests.{eq-eqb, ne_eqb, lt-ltb, le-ltb, le-leb, lt-leb}
use Rattle.lists.specs.Field.{bytes16, overwritten}
use Rattle.lists.proofs.Field.{overwritten-none, written_behind, row_fits}
use Rattle.model.specs.Inputs.{F, L, Fault}
use Rattle.model.specs.Accepted.{ValidTest, ThreeValued}
use Rattle.model.specs.Values.{X, is_specified}
use Rattle.lists.proofs.Tests.{by-test, by-eq}
use Rattle.model.specs.Implication.{nothing, extra}
use Rattle.model.specs.Expansion.{nout, state_row}
use Rattle.model.specs.Sequences.{overlaps, outputs_left, touches, takes, take_next}
use Rattle.model.specs.Choose.{next_pair, best_pairs, plan_bytes}
use Rattle.model.proofs.Best.{next_pair-takes}
use Rattle.model.proofs.Choose.{length-plan, plan-more, best_pairs-more, best_pairs-stop}
use Rattle.sequences.specs.Ends.{Taken}
use Rattle.expand.proofs.Begin.{factor-some}
use Rattle.expand.proofs.Place.{position, place-below, unit-inside}
use Rattle.take.specs.Take.{Prepared}
use Rattle.take.proofs.Taken.{taken_as}
use Rattle.take.proofs.Tests.{outputs_as}
use Rattle.best.specs.Weights.{entry_of, Weighed}
use Rattle.best.specs.Best as best
use Rattle.weigh.specs.Weigh.{Weighing, WeighedFrom}
use Rattle.pick.specs.Pick.{reach_of, Touched, Picking, PickedTo, Records}
use Rattle.pick.specs.declared.Span.{Span}

-- ---- how many units may have a pair
pub reach-most : (units left reach : ℕ) → reach ≡ reach_of units left → reach ≤ units
unfolding reach_of
reach-most units left reach e = elim (dec_le (suc left) units) [
  | yes h ↦ (let is : reach ≡ left + 1 = e ∙ rw (lt-ltb left units h) in omega arith)
  | no h ↦ (let is : reach ≡ units = e ∙ rw (le-ltb left units (omega arith)) in omega arith)
]

-- a unit below it has outputs left before it, and one that is not has none
reach-left : (units left reach u : ℕ) → reach ≡ reach_of units left → u < reach → u ≤ left
unfolding reach_of
reach-left units left reach u e l = elim (dec_le (suc left) units) [
  | yes h ↦ (let is : reach ≡ left + 1 = e ∙ rw (lt-ltb left units h) in omega arith)
  | no h ↦ (let is : reach ≡ units = e ∙ rw (le-ltb left units (omega arith)) in omega arith)
]

reach-past : (units left reach u : ℕ) → reach ≡ reach_of units left → reach ≤ u → u < units → left < u
unfolding reach_of
reach-past units left reach u e g l = elim (dec_le (suc left) units) [
  | yes h ↦ (let is : reach ≡ left + 1 = e ∙ rw (lt-ltb left units h) in omega arith)
  | no h ↦ (let is : reach ≡ units = e ∙ rw (le-ltb left units (omega arith)) in absurd (let z : ⊥ = omega arith in z))
]

module _ {c t : List ℕ} {f : Fault} {free states list hits masks merits : List ℕ} {left reach : ℕ} (p : Picking c t f free states list hits masks merits left reach) where
  -- no pair behind them is taken
  pub none-behind : (pairs : List (ℕ × ℕ)) (u i : ℕ) → reach ≤ u → u < L c t → takes c t f pairs u i ≡ false
  unfolding takes
  none-behind pairs u i g l =
      let past : left < u = reach-past (L c t) left reach u p.units g l in
      let none_left : outputs_left c t f u ≡ false = outputs_as c t f left p.ready.above u l ∙ lt-leb u left past in
      by-test (ltb u (L c t)) (λ a. by-test (ltb i (F c)) (λ b. by-test (is_specified (get_or (state_row c t f u) i X)) (λ d. rw (a, b, d)) (λ d. rw (a, b, d, none_left))) (λ b. rw (a, b))) (λ a. rw a)

  -- what weighing asks for
  weighing_of : (test : ValidTest c t) (pairs : List (ℕ × ℕ)) (m : ℕ) (times extras : List ℕ) → Taken c t f pairs m times extras
      → Weighing c t f pairs (F c) (F c * reach) states list m times extras
  weighing_of test pairs m times extras taken = record {
    width = refl;
    test = test;
    fault = p.ready.fault;
    plain = p.ready.plain;
    rows = p.ready.rows;
    three = p.three;
    unit = λ e h. omega (arith, below e h, reach-most (L c t) left reach p.units);
    outputs = λ e h. outputs_as c t f left p.ready.above (e / F c) (omega (arith, below e h, reach-most (L c t) left reach p.units)) ∙ le-leb (e / F c) left (reach-left (L c t) left reach (e / F c) p.units (below e h));
    taken = taken;
  }
    where
      below : (e : ℕ) → e < F c * reach → e / F c < reach
      below e h = unit-inside (F c) reach e (factor-some (F c) reach e h) (omega (arith, mul_comm (F c) reach))

-- ---- a row that says nothing overlaps no other, nor do two that say one bit each, of different flip-flops
open_left : (n : ℕ) (row : List ℕ) → overlaps (replicate n X) row ≡ false
unfolding overlaps
open_left zero row = refl
open_left (suc n) [] = refl
open_left (suc n) (b ∷ row) = open_left n row

open_right : (n : ℕ) (row : List ℕ) → overlaps row (replicate n X) ≡ false
unfolding overlaps
open_right n [] = refl
open_right zero (a ∷ row) = refl
open_right (suc n) (a ∷ row) = rw (and-false (is_specified a)) (open_right n row)

bits-apart : (n i j α β : ℕ) → (i ≡ j → ⊥) → overlaps (set (replicate n X) j α) (set (replicate n X) i β) ≡ false
unfolding overlaps
bits-apart zero i j α β other = refl
bits-apart (suc n) zero zero α β other = absurd (other refl)
bits-apart (suc n) zero (suc j) α β other = open_right n (set (replicate n X) j α)
bits-apart (suc n) (suc i) zero α β other = rw (and-false (is_specified α)) (open_left n (set (replicate n X) i β))
bits-apart (suc n) (suc i) (suc j) α β other = bits-apart n i j α β (λ q. other (ap suc q))

-- ---- what a pick touches
module _ (c t : List ℕ) (f : Fault) where
  -- no row that its extras overlap nowhere
  touches-apart : (pairs : List (ℕ × ℕ)) (u i v : ℕ) (new : List ℕ) → ((β : ℕ) → u ≡ v → overlaps new (extra c t f v i β) ≡ false)
      → touches c t f (pairs ++ ((u, i) ∷ [])) v new ≡ touches c t f pairs v new
  unfolding touches
  touches-apart [] u i v new apart = by-eq u v (λ q. rw (eq-eqb u v q, apart 0 q, apart 1 q)) (λ n. rw (ne_eqb u v n))
  touches-apart (q ∷ pairs) u i v new apart = rw (touches-apart pairs u i v new apart)

  entry-apart : (pairs : List (ℕ × ℕ)) (u i v j : ℕ) → ((α β : ℕ) → u ≡ v → overlaps (extra c t f v j α) (extra c t f v i β) ≡ false)
      → entry_of c t f (pairs ++ ((u, i) ∷ [])) v j ≡ entry_of c t f pairs v j
  unfolding entry_of takes
  entry-apart pairs u i v j apart = rw (touches-apart pairs u i v (extra c t f v j 0) (apart 0), touches-apart pairs u i v (extra c t f v j 1) (apart 1))

  -- so the entries of other units stay
  pub entry_elsewhere : (pairs : List (ℕ × ℕ)) (u i v j : ℕ) → (u ≡ v → ⊥) → entry_of c t f (pairs ++ ((u, i) ∷ [])) v j ≡ entry_of c t f pairs v j
  entry_elsewhere pairs u i v j n = entry-apart pairs u i v j (λ α β q. absurd (n q))

  -- and at unit 0 those of other flip-flops
  pub entry-beside : (pairs : List (ℕ × ℕ)) (i j : ℕ) → (i ≡ j → ⊥) → entry_of c t f (pairs ++ ((0, i) ∷ [])) 0 j ≡ entry_of c t f pairs 0 j
  unfolding extra nothing
  entry-beside pairs i j n = entry-apart pairs 0 i 0 j (λ α β q. bits-apart (F c) i j α β n)

  -- the entries outside of what a pick touches stay
  module _ (pairs : List (ℕ × ℕ)) (u i reach : ℕ) (span : Span) (touched : Touched (F c) u i span) where
    entry-outside : (e : ℕ) → 0 < F c → (span.from ≤ e → e < span.to → ⊥) → entry_of c t f (pairs ++ ((u, i) ∷ [])) (e / F c) (e % F c) ≡ entry_of c t f pairs (e / F c) (e % F c)
    entry-outside e wide outside =
        by-eq u (e / F c) (λ q. by-eq u 0 (beside q) (λ n. absurd (at_unit q (omega arith)))) (entry_elsewhere pairs u i (e / F c) (e % F c))
      where
        place : u ≡ e / F c → e ≡ F c * u + e % F c
        place q = rw q (position (F c) e)

        beside : u ≡ e / F c → u ≡ 0 → entry_of c t f (pairs ++ ((u, i) ∷ [])) (e / F c) (e % F c) ≡ entry_of c t f pairs (e / F c) (e % F c)
        beside q z =
            let low : e ≡ F c * 0 + e % F c = rw z at (place q) in
            rw (← q, z) (entry-beside pairs i (e % F c) (λ same. outside (omega (arith, (touched.own z).0)) (omega (arith, (touched.own z).1))))

        at_unit : u ≡ e / F c → 0 < u → ⊥
        at_unit q late = outside (omega (arith, (touched.unit late).0, place q)) (omega (arith, (touched.unit late).1, place q, place-below (F c) e wide))

    weighed-outside : (from to : ℕ) (table : List ℕ) → Weighed c t f pairs 0 (F c * reach) table → to ≤ F c * reach
        → ((e : ℕ) → from ≤ e → e < to → span.from ≤ e → e < span.to → ⊥) → Weighed c t f (pairs ++ ((u, i) ∷ [])) from to table
    weighed-outside from to table old inside outside = record {
      at = λ e h l.
          let below : e < F c * reach = omega arith in
          old.at e (omega arith) below ∙ sym (entry-outside e (factor-some (F c) reach e below) (outside e h l));
    }

  -- ---- one pick more
  module _ (m k : ℕ) (u i : ℕ) (next : next_pair c t f (best_pairs c t f m) ≡ some (u, i)) where
    more : best_pairs c t f (m + 1) ≡ best_pairs c t f m ++ ((u, i) ∷ [])
    more = best_pairs-more c t f m (u, i) next

    pub taken_next : (times extras times' extras' : List ℕ) (r : ℕ) → m < k → Taken c t f (best_pairs c t f m) m times extras → Taken c t f (take_next c t f k (best_pairs c t f m) (u, i)) r times' extras'
        → Taken c t f (best_pairs c t f (m + 1)) (m + 1) times' extras'
    taken_next times extras times' extras' r h old new =
        let is : take_next c t f k (best_pairs c t f m) (u, i) ≡ best_pairs c t f (m + 1) = unfold take_next in rw (old.count, lt-ltb m k h, next_pair-takes c t f (best_pairs c t f m) (u, i) next, more) in
        let took : Taken c t f (best_pairs c t f (m + 1)) r times' extras' = taken_as c t f _ _ r times' extras' (sym is) new in
        let count : r ≡ m + 1 = sym took.count ∙ ap length more ∙ length-append (best_pairs c t f m) ((u, i) ∷ []) ∙ ap (λ n. n + 1) old.count in
        rw count at took

    pub records-next : (old area end : List ℕ) → length (best_pairs c t f m) ≡ m → area ≡ overwritten (plan_bytes (best_pairs c t f m)) old
        → end ≡ overwritten (bytes16 u ++ bytes16 i) (take (length area - 4 * m) (drop (4 * m) area))
        → take (4 * m) area ++ (end ++ drop (length area - 4 * m) (drop (4 * m) area)) ≡ overwritten (plan_bytes (best_pairs c t f (m + 1))) old
    records-next old area end count done e =
        let long : length (plan_bytes (best_pairs c t f m)) ≡ 4 * m = length-plan (best_pairs c t f m) ∙ ap (λ n. 4 * n) count in
        rw (more, plan-more (best_pairs c t f m) u i) (written_behind (plan_bytes (best_pairs c t f m)) (bytes16 u ++ bytes16 i) old area end (4 * m) done long e)

-- no pick more
pub records-stop : (c t : List ℕ) (f : Fault) {m k reach from to : ℕ} {times extras table old area : List ℕ}
    → next_pair c t f (best_pairs c t f m) ≡ none → m ≤ k → PickedTo c t f reach from to m times extras table old area → Records (best_pairs c t f k) old area m
records-stop c t f {m} {k} {old = old} e h done =
    let all : m + (k - m) ≡ k = omega arith in
    let same : best_pairs c t f k ≡ best_pairs c t f m = ap (best_pairs c t f) (sym all) ∙ best_pairs-stop c t f m (k - m) e in
    record { count = sym done.taken.count ∙ ap length (sym same); area = done.records ∙ ap (λ x. overwritten (plan_bytes x) old) (sym same) }

-- all picks are made
pub records-all : (c t : List ℕ) (f : Fault) {m k reach from to : ℕ} {times extras table old area : List ℕ} → m ≡ k
    → PickedTo c t f reach from to m times extras table old area → Records (best_pairs c t f k) old area m
records-all c t f {old = old} e done = record {
  count = sym done.taken.count ∙ ap (λ n. length (best_pairs c t f n)) e;
  area = done.records ∙ ap (λ n. overwritten (plan_bytes (best_pairs c t f n)) old) e;
}

-- by another name of the width
pub weighed_as : {c t : List ℕ} {f : Fault} {pairs : List (ℕ × ℕ)} {count : ℕ} {table : List ℕ} (reach : ℕ) → count ≡ F c → Weighed c t f pairs 0 (F c * reach) table → Weighed c t f pairs 0 (count * reach) table
weighed_as reach e w = rw e w

-- ---- before the first pick
taken_none : (c t : List ℕ) (f : Fault) (times extras : List ℕ) → Taken c t f (best_pairs c t f 0) 0 times extras
unfolding best_pairs
taken_none c t f times extras = record { count = refl; time = λ q h. absurd (let z : ⊥ = omega arith in z); rows = record { at = λ r h. absurd (let z : ⊥ = omega arith in z) } }

pub picked_none : (c t : List ℕ) (f : Fault) {count reach : ℕ} {times extras table area : List ℕ} → count ≡ F c
    → PickedTo c t f reach 0 (count * reach) 0 times extras table area area
unfolding best_pairs plan_bytes
picked_none c t f {count = count} {reach = reach} {times = times} {extras = extras} {area = area} width = record {
  taken = taken_none c t f times extras;
  before = record { at = λ e h l. absurd (let z : ⊥ = omega arith in z) };
  behind = record { at = λ e h l. absurd (let same : count * reach ≡ F c * reach = ap (λ n. n * reach) width in let z : ⊥ = omega arith in z) };
  records = sym (overwritten-none area);
}

-- the table, once the entries that it is without are written
module _ {c t : List ℕ} {f : Fault} {free states list hits masks merits : List ℕ} {left reach : ℕ}
    (p : Picking c t f free states list hits masks merits left reach) (test : ValidTest c t) where
  pub all-weighed : {from to m : ℕ} {times extras table extras' table' old area : List ℕ} → PickedTo c t f reach from to m times extras table old area
      → WeighedFrom c t free states list hits masks from to m times extras table extras' table' → to ≤ F c * reach → 4 * (F c * reach) ≤ length table
      → PickedTo c t f reach 0 0 m times extras' table' old area
  all-weighed {from} {to} {m} done weighed inside room =
      let new = weighed.entries f (best_pairs c t f m) (F c * reach) left p.ready (weighing_of p test _ _ _ _ done.taken) inside in record {
        taken = new.taken;
        before = record { at = λ e h l. absurd (let z : ⊥ = omega arith in z) };
        behind = record {
          at = λ e h l. elim (dec_le from e) [
            | no g ↦ new.before e (omega arith) (omega arith) ∙ done.before.at e h (omega arith)
            | yes g ↦ elim (dec_le to e) [
              | no q ↦ new.weighed.at e g (omega arith)
              | yes q ↦ new.behind e q (omega arith) ∙ done.behind.at e q l
            ]
          ];
        };
        records = done.records;
      }

-- ---- one pick more
pub picked_next : {c t : List ℕ} {f : Fault} {count reach m k u i r : ℕ} {times extras times' extras' table old area end : List ℕ} {span : Span}
    → count ≡ F c → PickedTo c t f reach 0 0 m times extras table old area → next_pair c t f (best_pairs c t f m) ≡ some (u, i) → u < reach → m < k → Touched count u i span
    → Taken c t f (take_next c t f k (best_pairs c t f m) (u, i)) r times' extras'
    → end ≡ overwritten (bytes16 u ++ bytes16 i) (take (length area - 4 * m) (drop (4 * m) area))
    → PickedTo c t f reach span.from span.to (m + 1) times' extras' table old
    (take (4 * m) area ++ (end ++ drop (length area - 4 * m) (drop (4 * m) area)))
picked_next {c} {t} {f} {count} {reach} {m} {k} {u} {i} {r} {times} {extras} {times'} {extras'} {table} {old} {area} {end} {span}
    width done next below more touched took written = record {
      taken = taken_next c t f m k u i next times extras times' extras' r more done.taken took;
      before = rw (best_pairs-more c t f m (u, i) next) (kept 0 span.from (omega (arith, own.order, last)) (λ e h l g o. omega arith));
      behind = rw (best_pairs-more c t f m (u, i) next) (kept span.to (F c * reach) (omega arith) (λ e h l g o. omega arith));
      records = records-next c t f m k u i next old area end done.taken.count done.records written;
    }
  where
    own : Touched (F c) u i span
    own = rw width at touched

    last : span.to ≤ F c * reach
    last = omega (arith, own.last, row_fits (F c) u reach below, mul_comm (F c) reach)

    kept : (from to : ℕ) → to ≤ F c * reach → ((e : ℕ) → from ≤ e → e < to → span.from ≤ e → e < span.to → ⊥)
        → Weighed c t f (best_pairs c t f m ++ ((u, i) ∷ [])) from to table
    kept from to = weighed-outside c t f (best_pairs c t f m) u i reach span own from to table done.behind

-- ---- what picking asks for, of a fault that stages 1 to 4 leave open
module _ {c t free states list hits masks counts merits : List ℕ} {left count reach : ℕ} (units : reach ≡ reach_of (L c t) left) (width : count ≡ F c) (set : best.MeritsSet reach count states counts merits) where
  pub picking : (f : Fault) → Prepared c t free states list hits masks left f → ((u : ℕ) → u < L c t → ThreeValued (state_row c t f u)) → ((u : ℕ) → u ≤ L c t → get_or counts u 0 ≡ nout c t f u)
      → Picking c t f free states list hits masks merits left reach
  picking f ready three nouts =
      let few = reach-most (L c t) left reach units in record {
        ready = ready;
        three = three;
        units = units;
        worth = set.right c t f width (record { at = λ u h. ready.plain.at u (omega arith) }) (λ u h. nouts u (omega arith));
      }

pub at_most : (bound n m : ℕ) (entries : List ℕ) → m ≤ n → best.AtMost bound n entries → best.AtMost bound m entries
at_most bound n m entries h most = record { at = λ u l. most.at u (omega arith) }
