-- Entries of the table: of a candidate, of a pair that is none, and one after another.
use mathlib.Core.Path.{◌≡◌, refl, sym, ap, ◌∙◌}
use mathlib.Core.Bool.{Bool, true, false, cond, not, ◌&&◌, ◌||◌}
use mathlib.Core.List.{List, ◌++◌}
use Prim.Native.Nat.{ℕ, zero, suc, ◌+◌, ◌*◌, ◌-◌, ◌/◌, ◌%◌, ◌<◌, ◌≤◌, min, max}
use native.Mathlib.Omega.{arith}
use native.Mathlib.Decide.{dec_le}
use lib.Dec.{eqb, ltb}
use lib.ListN.{get_or, length, take, drop}
use lib.Seq.{get_or-take, get_or-drop}
use borrow.Author.Tests.{eq-eqb, ne_eqb, eqb-true, eqb-false, lt-ltb, le-leb, lt-leb}
use Rattle.lists.specs.Field.{bytes16, overwritten, row_of, Rows}
use Rattle.lists.proofs.Field.{part-taken}
use Rattle.lists.proofs.Scan.{get_or_any}
use Rattle.lists.proofs.Tests.{by-test, by-eq, cond_cases}
use Rattle.model.specs.Inputs.{N, F, O, L, Fault}
use Rattle.model.specs.Values.{X, is_specified}
use Rattle.model.specs.Simulation.{next_state, plain_state, free_outputs}
use Rattle.model.specs.Implication.{extra}
use Rattle.model.specs.Expansion.{row_after, state_row}
use Rattle.rows.proofs.Laws.{length-give_row}
use Rattle.trial.specs.declared.Pair.{Pair}
use Rattle.trial.proofs.Laws.{state-size}
use Rattle.model.specs.Sequences.{touches, takes}
use Rattle.model.specs.Choose.{size, smaller_extra, larger_extra}
use Rattle.lanes.specs.Lane.{Lane}
use Rattle.unit.specs.Unit.{Stuck}
use Rattle.trial.specs.Trial.{Tried}
use Rattle.sequences.specs.Ends.{Taken}
use Rattle.expand.specs.Expand.{is_x, pair_at, Filled, WordOf}
use Rattle.expand.proofs.Tries.{word_of}
use Rattle.expand.proofs.Place.{position, place-below, unit-inside, first-unit}
use Rattle.take.specs.Take.{with_row, with_pair, LaneExtra}
use Rattle.take.proofs.Table.{row_with, row_room, lent_row}
use Rattle.take.proofs.Extras.{Says, lanes-made}
use Rattle.take.proofs.Taken.{low-row, high-row, taken-kept}
use Rattle.best.specs.Weights.{weight_bytes, entry_of}
use Rattle.stages.specs.Stages.{RowRoom}
use Rattle.weigh.specs.Weigh.{UnitRows, Candidate, EntryMade, Weighing, EntryAt, Entries}

-- ---- room for the row of the unit of a position
pub unit-rows : {c t table : List ℕ} (count next : ℕ) → count ≡ F c → 0 < count → next ≤ L c t * F c → RowRoom c t table → UnitRows count next table
unit-rows {c} {t} count next es some last rows = record {
  room = λ e h. row_room count (F c) (e / count) (L c t) _ es (unit-inside count (L c t) e some (rw es (omega arith))) rows.room;
}

-- a position is in that row
pub row_inside : (count e l : ℕ) → 0 < count → count * (e / count) + count ≤ l → e < l
row_inside count e l some row = omega (arith, position count e, place-below count e some)

-- ---- what stage 5 would take
neither : (a b : Bool) → a || b ≡ false → not a && not b ≡ true
neither true b e = sym e
neither false true e = sym e
neither false false e = refl

either-fails : (a b : Bool) → a || b ≡ true → not a && not b ≡ false
either-fails true b e = refl
either-fails false true e = refl
either-fails false false e = sym e

module _ (c t : List ℕ) (f : Fault) (pairs : List (ℕ × ℕ)) (u i : ℕ) where
  takes-is : Candidate c t f u i → takes c t f pairs u i ≡ (not (touches c t f pairs u (extra c t f u i 0)) && not (touches c t f pairs u (extra c t f u i 1)))
  unfolding takes
  takes-is h = rw (lt-ltb u (L c t) h.unit, lt-ltb i (F c) h.bit, h.unknown, h.outputs)

  takes-not : is_specified (get_or (state_row c t f u) i X) ≡ true → takes c t f pairs u i ≡ false
  unfolding takes
  takes-not e = by-test (ltb u (L c t)) (λ a. by-test (ltb i (F c)) (λ b. rw (a, b, e)) (λ b. rw (a, b))) (λ a. rw a)

  -- ---- the entry of a candidate, by what its extras touch
  module _ (candidate : Candidate c t f u i) (r : Bool) (said : r ≡ (touches c t f pairs u (extra c t f u i 0) || touches c t f pairs u (extra c t f u i 1))) where
    pub entry_touched : r ≡ true → weight_bytes 0 0 ≡ entry_of c t f pairs u i
    unfolding entry_of
    entry_touched e = rw (takes-is candidate, either-fails _ _ (sym said ∙ e))

    pub entry_free : r ≡ false → (low high small large : ℕ) → low ≡ size (extra c t f u i 0) → high ≡ size (extra c t f u i 1) → small ≡ min low high → large ≡ max low high
        → weight_bytes (small + 1) large ≡ entry_of c t f pairs u i
    unfolding entry_of smaller_extra larger_extra
    entry_free e low high small large el eh es eg = rw (takes-is candidate, neither _ _ (sym said ∙ e), es, eg, el, eh)

  pub entry-none : is_specified (get_or (state_row c t f u) i X) ≡ true → weight_bytes 0 0 ≡ entry_of c t f pairs u i
  unfolding entry_of
  entry-none e = rw (takes-not e)

  pub length-entry : length (entry_of c t f pairs u i) ≡ 4
  unfolding entry_of weight_bytes bytes16
  length-entry = cond_cases (λ (row : List ℕ). length row ≡ 4) (takes c t f pairs u i) _ _ (λ _. refl) (λ _. refl)

-- the sizes of rows that code has cut out
pub sized : (count r : ℕ) (extras : List ℕ) (n : ℕ) → count * r + count ≤ length extras → n ≡ size (take count (take (count * r + count - count * r) (drop (count * r) extras)))
    → n ≡ size (row_of count extras r)
sized count r extras n fits e = e ∙ ap size (sym (part-taken extras count r r refl fits))

-- ---- entries one after another
module _ (c t : List ℕ) (f : Fault) (pairs : List (ℕ × ℕ)) (m : ℕ) (times : List ℕ) where
  pub entries_none : (from : ℕ) (table extras : List ℕ) → Taken c t f pairs m times extras → Entries c t f pairs m times from from table extras table
  entries_none from table extras taken = record {
    weighed = record { at = λ e h l. absurd (let z : ⊥ = omega arith in z) };
    before = λ d h l. refl;
    behind = λ d h l. refl;
    taken = taken;
  }

  pub entries-turn : (from e : ℕ) (table table' table'' extras' extras'' : List ℕ) → from ≤ e → 4 * e + 4 ≤ length table → length table' ≡ length table → Entries c t f pairs m times from e table extras' table'
      → EntryAt c t f pairs m times e table' extras'' table'' → Entries c t f pairs m times from (e + 1) table extras'' table''
  entries-turn from e table table' table'' extras' extras'' h fits long old new = record {
    weighed = record {
      at = λ d g l. by-eq d e
          (λ q. rw q (here e (omega arith) ∙ rw (eq-eqb e e refl)))
          (λ n. here d (omega arith) ∙ rw (ne_eqb d e n) (old.weighed.at d g (less d n l)));
    };
    before = λ d g l. here d (omega arith) ∙ rw (ne_eqb d e (λ q. (let z : ⊥ = omega arith in z))) (old.before d g l);
    behind = λ d g l. here d (omega arith) ∙ rw (ne_eqb d e (λ q. (let z : ⊥ = omega arith in z))) (old.behind d (omega arith) l);
    taken = new.taken;
  }
    where
      here : (d : ℕ) → 4 * d + 4 ≤ length table → row_of 4 table'' d ≡ cond (eqb d e) (entry_of c t f pairs (e / F c) (e % F c)) (row_of 4 table' d)
      here d l = ap (λ x. row_of 4 x d) new.written ∙ row_with 4 e table' (entry_of c t f pairs (e / F c) (e % F c)) (rw long fits) (length-entry c t f pairs _ _) d (rw long l)

      less : (d : ℕ) → (d ≡ e → ⊥) → d < e + 1 → d < e
      less d n l = elim (dec_le (suc d) e) [ yes g ↦ g | no g ↦ absurd (n (omega arith)) ]

  -- two stretches, one behind the other
  pub entries-join : {from middle to : ℕ} {table table' table'' extras' extras'' : List ℕ} → Entries c t f pairs m times from middle table extras' table'
      → Entries c t f pairs m times middle to table' extras'' table'' → from ≤ middle → middle ≤ to → length table' ≡ length table → 4 * to ≤ length table
      → Entries c t f pairs m times from to table extras'' table''
  entries-join {middle = middle} old new h g long room = record {
    weighed = record {
      at = λ d l r. elim (dec_le (suc d) middle) [
        | yes q ↦ new.before d q (rw long (omega arith)) ∙ old.weighed.at d l q
        | no q ↦ new.weighed.at d (omega arith) r
      ];
    };
    before = λ d l r. new.before d (omega arith) (rw long r) ∙ old.before d l r;
    behind = λ d l r. new.behind d l (rw long r) ∙ old.behind d (omega arith) r;
    taken = new.taken;
  }

-- what the byte of a position tells
pub byte-known : (list : List ℕ) (e : ℕ) → (get_or list e 0 ≡ 2 → ⊥) → is_x list e ≡ false
unfolding is_x
byte-known list e h = ne_eqb _ _ h

pub byte-unknown : (list : List ℕ) (e : ℕ) → get_or list e 0 ≡ 2 → is_x list e ≡ true
unfolding is_x
byte-unknown list e h = eq-eqb _ _ h

-- a row of the state list has a place for each flip-flop
length-after : (c t : List ℕ) (f : Fault) (u i : ℕ) → length (row_after c t f u i) ≡ F c
unfolding row_after
length-after c t f u zero = state-size c t f u _ refl
length-after c t f u (suc i) = length-give_row _ _ ∙ length-after c t f u i

-- ---- the pair at position e
module _ {c t : List ℕ} {f : Fault} {pairs : List (ℕ × ℕ)} {count stop : ℕ} {states list : List ℕ} {m : ℕ} {times extras : List ℕ}
    (w : Weighing c t f pairs count stop states list m times extras) (some : 0 < F c) (e : ℕ) (inside : e < stop) where
  -- its bit in the state list
  bit_is : get_or (state_row c t f (e / F c)) (e % F c) X ≡ get_or list e 0
  unfolding state_row row_of
  bit_is =
      let low : e % F c < F c = place-below (F c) e some in
      get_or_any (state_row c t f (e / F c)) (e % F c) X 0 (rw (length-after c t f (e / F c) (F c)) low) ∙ ap (λ r. get_or r (e % F c) 0) (sym (w.rows.at (e / F c) (w.unit e inside)))
      ∙ get_or-take (F c) (drop (F c * (e / F c)) list) (e % F c) 0 low ∙ get_or-drop (F c * (e / F c)) list (e % F c) 0 ∙ ap (λ k. get_or list k 0) (sym (position (F c) e))

  pub known_at : is_x list e ≡ false → weight_bytes 0 0 ≡ entry_of c t f pairs (e / F c) (e % F c)
  unfolding is_x
  known_at n = entry-none c t f pairs (e / F c) (e % F c) (le-leb (get_or (state_row c t f (e / F c)) (e % F c) X) 1 (omega (arith, (w.three (e / F c) (w.unit e inside)).at (e % F c), bit_is, eqb-false (get_or list e 0) X n)))

  pub candidate_at : is_x list e ≡ true → Candidate c t f (e / F c) (e % F c)
  unfolding is_x
  candidate_at x = record {
    unit = w.unit e inside;
    bit = place-below (F c) e some;
    unknown = lt-leb (get_or (state_row c t f (e / F c)) (e % F c) X) 1 (omega (arith, bit_is, eqb-true (get_or list e 0) X x));
    outputs = w.outputs e inside;
  }

-- the same with other extras behind those of the pairs taken, and by another name of the width
pub weighing_again : {c t : List ℕ} {f : Fault} {pairs : List (ℕ × ℕ)} {count width stop : ℕ} {states list : List ℕ} {m : ℕ} {times extras extras' : List ℕ} → Weighing c t f pairs count stop states list m times extras
    → width ≡ F c → Taken c t f pairs m times extras' → Weighing c t f pairs width stop states list m times extras'
weighing_again w width taken = record {
  width = width;
  test = w.test;
  fault = w.fault;
  plain = w.plain;
  rows = w.rows;
  three = w.three;
  unit = w.unit;
  outputs = w.outputs;
  taken = taken;
}

-- the lanes of a pair of a word
module _ {c t : List ℕ} {f : Fault} {pairs : List (ℕ × ℕ)} {count stop : ℕ} {states list : List ℕ} {m : ℕ} {times extras : List ℕ}
    (w : Weighing c t f pairs count stop states list m times extras) (some : 0 < F c) (at next marks : ℕ) (after : List ℕ) (word : WordOf c t f list at next marks after)
    (first : F c ≤ at) (e : ℕ) (h : at ≤ e) (l : e < next) (inside : e < stop) (x : is_x list e ≡ true) where
  late : 0 < e / F c
  late = first-unit (F c) e some (omega arith)

  binary : f.value < 2
  binary = omega (arith, w.fault.value)

  says : (lane α : ℕ) → lane ≡ 2 * pair_at list at e + α → α < 2 → Says c t f states (e / F c) (e % F c) marks after binary late (w.unit e inside) w.plain lane α
  says lane α q few = record { mark = rw q (word.mark e α h l x few); shown = λ off. rw q (word.shown e α h l x few off) }

  pub pair-extras : (p : ℕ) (extras' extras'' : List ℕ) → p ≡ pair_at list at e → LaneExtra count states (e / count) after marks (2 * p) (2 * m) extras extras'
      → LaneExtra count states (e / count) after marks (2 * p + 1) (2 * m + 1) extras' extras'' → extras'' ≡ with_pair (F c) m (extra c t f (e / F c) (e % F c) 0) (extra c t f (e / F c) (e % F c) 1) extras
  pair-extras p extras' extras'' q low high =
      lanes-made c t f states (e / F c) (e % F c) marks after binary late (w.unit e inside) w.plain (2 * p) (2 * p + 1) (F c) m extras extras' extras''
      (says (2 * p) 0 (omega arith) (omega arith)) (says (2 * p + 1) 1 (omega arith) (omega arith)) refl (rw w.width at low) (rw w.width at high)

-- the entry, once the extras of the pair (u, i) at position e are made
module _ {c t : List ℕ} {f : Fault} {pairs : List (ℕ × ℕ)} {count stop : ℕ} {states list : List ℕ} {m : ℕ} {times extras : List ℕ}
    (w : Weighing c t f pairs count stop states list m times extras) (fits : F c * (2 * m + 1) + F c ≤ length extras) (e : ℕ) (candidate : Candidate c t f (e / F c) (e % F c))
    (extras' : List ℕ) (made : extras' ≡ with_pair (F c) m (extra c t f (e / F c) (e % F c) 0) (extra c t f (e / F c) (e % F c) 1) extras) where
  pub entry_at : (u : ℕ) (table end : List ℕ) → u ≡ e / F c → 4 * e ≤ length table → EntryMade count list u times m extras' (take (length table - 4 * e) (drop (4 * e) table)) end
      → EntryAt c t f pairs m times e table extras' (take (4 * e) table ++ (end ++ drop (length table - 4 * e) (drop (4 * e) table)))
  entry_at u table end eu room entry = record {
    written = lent_row 4 e table end _ room (entry.is c t f pairs (e % F c) w.width (rw eu candidate) kept
        (rw (w.width, eu) (w.rows.at (e / F c) candidate.unit))
        (rw (w.width, eu) (low-row c t f pairs m times extras w.taken (e / F c) (e % F c) extras' made fits))
        (rw (w.width, eu) (high-row c t f pairs m times extras w.taken (e / F c) (e % F c) extras' made fits)) ∙ rw eu);
    taken = kept;
  }
    where
      kept : Taken c t f pairs m times extras'
      kept = taken-kept c t f pairs m times extras w.taken (e / F c) (e % F c) extras' made fits

-- the entry of a pair that is no candidate
pub entry-passed : {c t : List ℕ} {f : Fault} {pairs : List (ℕ × ℕ)} {m : ℕ} {times extras : List ℕ} (e : ℕ) (table end : List ℕ) → 4 * e ≤ length table → Taken c t f pairs m times extras
    → weight_bytes 0 0 ≡ entry_of c t f pairs (e / F c) (e % F c) → end ≡ overwritten (weight_bytes 0 0) (take (length table - 4 * e) (drop (4 * e) table))
    → EntryAt c t f pairs m times e table extras (take (4 * e) table ++ (end ++ drop (length table - 4 * e) (drop (4 * e) table)))
entry-passed e table end room taken is made = record { written = lent_row 4 e table end _ room made ∙ ap (λ x. with_row 4 e x table) is; taken = taken }

-- what a word says that is filled by the state list, with the sizes that code has
pub word_as : (c t : List ℕ) (f : Fault) (free states list : List ℕ) (pairs : List Pair) (hits masks : List ℕ) (width at next count marks : ℕ) (words after : List ℕ) → width ≡ F c → 0 < width → width ≤ at → next ≤ L c t * F c
    → Filled width list pairs at next count → 32 ≤ length pairs → ((lane : ℕ) → lane < 64 → Stuck lane hits masks f) → Rows (F c) (L c t) states (λ u. plain_state c t f u) → Rows (O c) (L c t) free (λ u. free_outputs c t u)
    → Tried c t free states (take count pairs) hits masks marks words
    → ((lane : ℕ) (f : Fault) (vs : List ℕ) → Stuck lane hits masks f → Lane lane words vs → length vs ≡ N c → Lane lane after (next_state c f vs)) → WordOf c t f list at next marks after
word_as c t f free states list pairs hits masks width at next count marks words after es some first last filled room stuck plain frees tried shown =
    let own : Filled (F c) list pairs at next count = (rw es at filled) in
    word_of c t list pairs at next count (omega arith) (omega arith) last own room f free states hits masks marks words after stuck plain frees tried shown
