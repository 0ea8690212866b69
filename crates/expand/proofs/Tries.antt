-- A word that is filled and tried. Its pairs are those whose bit is X in one table, the plain states or the state list; each is tried in its plain
-- state.
use mathlib.Core.Path.{◌≡◌, sym, ap, ◌∙◌}
use mathlib.Core.Bool.{true, false}
use mathlib.Core.List.{List}
use Prim.Native.Nat.{ℕ, suc, ◌+◌, ◌*◌, ◌-◌, ◌/◌, ◌%◌, ◌<◌, ◌≤◌}
use native.Mathlib.Omega.{arith}
use lib.ListN.{length, take}
use lib.Seq.{get_or-take, length-take-le}
use Rattle.lists.specs.Field.{Rows}
use Rattle.lists.proofs.Field.{row_fits}
use Rattle.model.specs.Inputs.{N, F, O, L, Fault}
use Rattle.model.specs.Accepted.{ValidTest}
use Rattle.model.specs.Simulation.{next_state, plain_state, free_outputs}
use Rattle.model.specs.Implication.{implied_at, marked}
use Rattle.lanes.specs.Lane.{bit, Lane}
use Rattle.unit.specs.Unit.{Stuck}
use Rattle.trial.specs.declared.Pair.{Pair}
use Rattle.trial.specs.Trial.{pair_of, Tried, PairsOf}
use Rattle.trial.proofs.Laws.{length-implied}
use Rattle.expand.specs.Expand.{is_x, pair_at, pair_for, Filled, TriedTo, WordOf, Settling, Ready}
use Rattle.expand.proofs.Place.{first-unit, place-below, unit-inside}
use Rattle.expand.proofs.Word.{pair-lower}

module _ (c t table : List ℕ) (pairs : List Pair) (at next count : ℕ) (some : 0 < F c) (first : F c ≤ at) (last : next ≤ L c t * F c) (filled : Filled (F c) table pairs at next count) where
  -- the unit of a pair
  inside : (e : ℕ) → e < next → e / F c < L c t
  inside e h = unit-inside (F c) (L c t) e some (omega arith)

  late : (e : ℕ) → at ≤ e → 1 ≤ e / F c
  late e h = first-unit (F c) e some (omega arith)

  -- room for the row of a pair's unit
  pub row_room : (e : ℕ) → at ≤ e → e < next → is_x table e ≡ true → L c t ≤ 1024 → (list : List ℕ) → L c t * F c ≤ length list
      → ((pair_of pairs (pair_at table at e)).unit < 1024) × (F c * ((pair_of pairs (pair_at table at e)).unit + 1) + F c ≤ length list)
  row_room e h l x most list room =
      let unit : (pair_of pairs (pair_at table at e)).unit + 1 ≡ e / F c = ap (λ p. p.unit + 1) (filled.pair e h l x) ∙ (let z : e / F c - 1 + 1 ≡ e / F c = omega (arith, late e h) in z) in
      let fits : F c * (e / F c) + F c ≤ L c t * F c = row_fits (F c) (e / F c) (L c t) (inside e l) in
      (omega (arith, unit, inside e l), rw unit (omega arith))

  -- the pairs are those of the job
  module _ (room : 32 ≤ length pairs) where
    all : length (take count pairs) ≡ count
    all = length-take-le count pairs (omega (arith, filled.few))

    pair : (e : ℕ) → at ≤ e → e < next → is_x table e ≡ true → pair_of (take count pairs) (pair_at table at e) ≡ pair_for (F c) e
    pair e h l x = get_or-take count pairs (pair_at table at e) _ (omega (arith, pair-lower table at e next h l x, filled.all)) ∙ filled.pair e h l x

    found-at : (p : ℕ) → p < length (take count pairs) → (e : ℕ) × (at ≤ e) × (e < next) × (pair_of (take count pairs) p ≡ pair_for (F c) e)
    found-at p h =
        let found = filled.below p (omega (arith, all)) in
        (found.0, found.1, found.2, ap (pair_of (take count pairs)) (sym found.4) ∙ pair found.0 found.1 found.2 found.3)

    pub pairs_of_lem : PairsOf c t (take count pairs)
    pairs_of_lem = record {
      few = omega (arith, filled.few, all);
      unit = λ p h. let found = found-at p h in rw found.3 (omega (arith, inside found.0 found.2, late found.0 found.1));
      bit = λ p h. let found = found-at p h in rw found.3 (place-below (F c) found.0 some);
    }

    -- what the word says
    module _ (f : Fault) (free states hits masks : List ℕ) (marks : ℕ) (words after : List ℕ) (stuck : (lane : ℕ) → lane < 64 → Stuck lane hits masks f)
        (plain : Rows (F c) (L c t) states (λ u. plain_state c t f u)) (frees : Rows (O c) (L c t) free (λ u. free_outputs c t u)) (tried : Tried c t free states (take count pairs) hits masks marks words)
        (shown : (lane : ℕ) (f : Fault) (vs : List ℕ) → Stuck lane hits masks f → Lane lane words vs → length vs ≡ N c → Lane lane after (next_state c f vs)) where
      -- the lane of position e with α
      module _ (e α : ℕ) (h : at ≤ e) (l : e < next) (x : is_x table e ≡ true) (few : α < 2) where
        low : pair_at table at e < count
        low = omega (arith, pair-lower table at e next h l x, filled.all)

        half : (2 * pair_at table at e + α) / 2 ≡ pair_at table at e
        half = omega arith

        rest : (2 * pair_at table at e + α) % 2 ≡ α
        rest = omega arith

        wide : 2 * pair_at table at e + α < 64
        wide = omega (arith, low, filled.few)

        here : pair_of (take count pairs) ((2 * pair_at table at e + α) / 2) ≡ pair_for (F c) e
        here = ap (pair_of (take count pairs)) half ∙ pair e h l x

        unit : suc (pair_of (take count pairs) ((2 * pair_at table at e + α) / 2)).unit ≡ e / F c
        unit = ap (λ p. suc p.unit) here ∙ (let z : suc (e / F c - 1) ≡ e / F c = omega (arith, late e h) in z)

        before : (pair_of (take count pairs) ((2 * pair_at table at e + α) / 2)).unit ≡ e / F c - 1
        before = ap (λ p. p.unit) here

        flop : (pair_of (take count pairs) ((2 * pair_at table at e + α) / 2)).bit ≡ e % F c
        flop = ap (λ p. p.bit) here

        said : let lane = 2 * pair_at table at e + α in
            (bit lane marks ≡ marked c t f (suc (pair_of (take count pairs) (lane / 2)).unit) (pair_of (take count pairs) (lane / 2)).bit (lane % 2))
            × (marked c t f (suc (pair_of (take count pairs) (lane / 2)).unit) (pair_of (take count pairs) (lane / 2)).bit (lane % 2) ≡ false → Lane lane words (implied_at c t f (pair_of (take count pairs) (lane / 2)).unit (pair_of (take count pairs) (lane / 2)).bit (lane % 2)))
        said = tried.lane f stuck plain.at frees.at (2 * pair_at table at e + α) (rw half (omega (arith, low, all))) wide

      pub word_of : WordOf c t f table at next marks after
      word_of = record {
        mark = λ e α h l x few. (said e α h l x few).0 ∙ rw (unit e α h l x few, flop e α h l x few, rest e α h l x few);
        shown = λ e α h l x few off.
            let lane = 2 * pair_at table at e + α in
            let unmarked : marked c t f (suc (pair_of (take count pairs) (lane / 2)).unit) (pair_of (take count pairs) (lane / 2)).bit (lane % 2) ≡ false = rw (unit e α h l x few, flop e α h l x few, rest e α h l x few) off in
            rw (before e α h l x few, flop e α h l x few, rest e α h l x few)
            at (shown lane f _ (stuck lane (wide e α h l x few)) ((said e α h l x few).1 unmarked) (length-implied c t f _ _ _));
      }

-- ---- the same with the sizes that code has
module _ (c t states : List ℕ) (pairs : List Pair) (width at next count : ℕ) (es : width ≡ F c) (some : 0 < width) (first : width ≤ at) (last : next ≤ L c t * F c)
    (filled : Filled width states pairs at next count) where
  pub pairs_as : 32 ≤ length pairs → PairsOf c t (take count pairs)
  pairs_as room = pairs_of_lem c t states pairs at next count (omega arith) (omega arith) last (rw es at filled) room

  pub room_as : (e : ℕ) → at ≤ e → e < next → is_x states e ≡ true → L c t ≤ 1024 → (list : List ℕ) → L c t * F c ≤ length list
      → ((pair_of pairs (pair_at states at e)).unit < 1024) × (width * ((pair_of pairs (pair_at states at e)).unit + 1) + width ≤ length list)
  room_as e h l x most list room = rw es (row_room c t states pairs at next count (omega arith) (omega arith) last (rw es at filled) e h l x most list room)

pub settling_of : (c t free states : List ℕ) (pairs : List Pair) (hits masks : List ℕ) (left : ℕ) (f : Fault) (width stop at next count marks : ℕ) (words after : List ℕ)
    → ValidTest c t → Ready c t free states hits masks left f → width ≡ F c → 0 < width → width ≤ at → next ≤ stop → TriedTo c t f stop states → Filled width states pairs at next count
    → 32 ≤ length pairs → Tried c t free states (take count pairs) hits masks marks words
    → ((lane : ℕ) (f : Fault) (vs : List ℕ) → Stuck lane hits masks f → Lane lane words vs → length vs ≡ N c → Lane lane after (next_state c f vs))
    → Settling c t f width stop states pairs at next marks after
settling_of c t free states pairs hits masks left f width stop at next count marks words after test ready es some first last tried filled room said shown =
    let own : Filled (F c) states pairs at next count = (rw es at filled) in record {
      test = test;
      fault = ready.fault;
      size = es;
      some = omega arith;
      first = omega arith;
      last = last;
      plain = ready.plain;
      tried = tried;
      word = word_of c t states pairs at next count (omega arith) (omega arith) (omega (arith, tried.most)) own room f free states hits masks marks words after ready.stuck ready.plain ready.frees said shown;
      unit = λ e h l x. ap (λ p. p.unit) (filled.pair e h l x);
    }
