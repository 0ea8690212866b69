-- One pair of a word is settled: the walk stands one position further.
use Rattle.std.specs.Prelude.{None}
use mathlib.Core.Path.{◌≡◌, refl, sym, ap, ◌∙◌}
use mathlib.Core.Bool.{true, false, cond}
use mathlib.Core.List.{List, ◌++◌}
use Prim.Native.Nat.{ℕ, ◌+◌, ◌*◌, ◌-◌, ◌/◌, ◌%◌, ◌<◌, ◌≤◌}
use native.Mathlib.Omega.{arith}
use lib.Dec.{eqb}
use lib.ListN.{length, take, drop, length-drop}
use lib.Seq.{length-take-le}
use borrow.Author.Tests.{eq-eqb, ne_eqb}
use Rattle.lists.specs.Field.{overwritten, row_of, Rows}
use Rattle.lists.proofs.Field.{row_fits}
use Rattle.lists.proofs.Table.{row_written}
use Rattle.lists.proofs.Tests.{by-test, by-eq}
use Rattle.model.specs.Inputs.{F, L, Fault}
use Rattle.model.specs.Accepted.{ThreeValued}
use Rattle.model.specs.Values.{give_row, some_oppose}
use Rattle.model.specs.Simulation.{next_state, plain_state}
use Rattle.model.specs.Implication.{nothing, where_x, implied_at, marked, extra}
use Rattle.model.specs.Expansion.{tried, both_marked, written, row_after, opposed_write}
use Rattle.model.proofs.Runs.{length-next_state}
use Rattle.model.proofs.ThreeValued.{next_state-three}
use Rattle.model.proofs.Apart.{give_row-three, where_x-three}
use Rattle.lanes.specs.Lane.{bit, Lane}
use Rattle.rows.proofs.Laws.{length-give_row, give_row-nothing, some_oppose-nothing}
use Rattle.trial.proofs.Laws.{extra-shown, implied-three}
use Rattle.trial.specs.declared.Pair.{Pair}
use Rattle.trial.specs.Trial.{pair_of}
use Rattle.expand.specs.declared.Walk.{Walk}
use Rattle.expand.specs.Expand.{is_x, pair_at, Written, Settled, both_at, writes_at, row_to, Walked, Settling}
use Rattle.expand.proofs.Place.{first-unit, unit-inside}
use Rattle.expand.proofs.Steps.{untried_both, untried_written, one-both, both-both, none_written, zero-written, one_written, row_here, row_next, row_other, by-option, walked_both, walked-past, walked-opposed, walked-written}

module _ (c t : List ℕ) (f : Fault) (e : ℕ) (list : List ℕ) (w : Walk) (some : 0 < F c) (inside : e / F c < L c t) (old : Walked c t f e list w) where
  -- the pair writes nothing
  pub turn-nothing : both_marked c t f (e / F c) (e % F c) ≡ false → written c t f (e / F c) (e % F c) ≡ nothing c → Walked c t f (e + 1) list w
  turn-nothing b n =
      walked-written c t f e list w old list (unfold both_at in b) opposes
      (λ l g. (record { at = λ v h. (old.rows l g).at v h ∙ sym (same l g v) }, λ v h. rw (same l g v) (old.three l g v h)))
    where
      opposes : writes_at c t f e ≡ false
      opposes = unfold writes_at opposed_write in rw n (some_oppose-nothing c (row_after c t f (e / F c) (e % F c)))

      same : w.both ≡ None → w.opposed ≡ None → (v : ℕ) → row_to c t f (e + 1) v ≡ row_to c t f e v
      same l g v = by-eq v (e / F c)
          (λ s. rw (s, row_next c t f e some, n, row_here c t f e some)
          (give_row-nothing c (row_after c t f (e / F c) (e % F c)) (rw (row_here c t f e some) at (old.three l g (e / F c) inside))))
          (λ s. row_other c t f e some v s)

  -- the pair writes row `new`
  module _ (states : List ℕ) (room : L c t * F c ≤ length list) (b : both_marked c t f (e / F c) (e % F c) ≡ false) (list' : List ℕ) (r : Walk)
      (after : List ℕ) (lane : ℕ) (st : List ℕ) (plain : row_of (F c) states (e / F c) ≡ plain_state c t f (e / F c))
      (holds : Lane lane after st) (long : length st ≡ F c) (three : ThreeValued st)
      (is : written c t f (e / F c) (e % F c) ≡ where_x (plain_state c t f (e / F c)) st)
      (wrote : Written (F c) states after (e / F c) lane e list w list' r) where
    here : w.both ≡ None → w.opposed ≡ None → row_of (F c) list (e / F c) ≡ row_after c t f (e / F c) (e % F c)
    here l g = (old.rows l g).at (e / F c) inside ∙ row_here c t f e some

    three-row : w.both ≡ None → w.opposed ≡ None → ThreeValued (row_after c t f (e / F c) (e % F c))
    three-row l g = rw (row_here c t f e some) at (old.three l g (e / F c) inside)

    pub turn-written : w.both ≡ None → Walked c t f (e + 1) list' r
    turn-written l = by-option w.opposed
        (λ g.
        let row = here l g in
        let made = wrote.made g st holds long three (rw row (three-row l g)) in
        let said : some_oppose (row_of (F c) list (e / F c)) (where_x (row_of (F c) states (e / F c)) st) ≡ writes_at c t f e = unfold writes_at opposed_write in rw (row, plain, is) in
        by-test (writes_at c t f e)
        (λ o. rw (made.0 (said ∙ o)) (walked-opposed c t f e list w old list' (unfold both_at in b) g o))
        (λ o. let done = made.1 (said ∙ o) in rw done.0 (walked-written c t f e list w old list' (unfold both_at in b) o (λ l g. rows-now l g done.1 o))))
        (λ p h. let past = wrote.past p h in rw past.0 (walked-past c t f e list w old list' p (unfold both_at in b) h))
      where
        rows-now : w.both ≡ None → w.opposed ≡ None
            → list' ≡ take (F c * (e / F c)) list ++ overwritten (give_row (row_of (F c) list (e / F c)) (where_x (row_of (F c) states (e / F c)) st)) (drop (F c * (e / F c)) list)
            → writes_at c t f e ≡ false
            → Rows (F c) (L c t) list' (λ v. row_to c t f (e + 1) v) × ((v : ℕ) → v < L c t → ThreeValued (row_to c t f (e + 1) v))
        rows-now l g q o = (
          record { at = λ v h. ap (λ x. row_of (F c) x v) q ∙ row_written (F c) (e / F c) list _ (fits (e / F c) inside) size v (fits v h) ∙ each v h },
          λ v h. by-eq v (e / F c) (λ s. rw (s, now) (give_row-three _ _ (three-row l g) (where_x-three _ _ three) clear)) (λ s. rw (row_other c t f e some v s) (old.three l g v h)),
        )
          where
            fits : (v : ℕ) → v < L c t → F c * v + F c ≤ length list
            fits v h = let z : F c * v + F c ≤ L c t * F c = row_fits (F c) v (L c t) h in omega arith

            row : row_of (F c) list (e / F c) ≡ row_after c t f (e / F c) (e % F c)
            row = here l g

            now : row_to c t f (e + 1) (e / F c) ≡ give_row (row_after c t f (e / F c) (e % F c)) (where_x (plain_state c t f (e / F c)) st)
            now = row_next c t f e some ∙ ap (give_row (row_after c t f (e / F c) (e % F c))) is

            clear : some_oppose (row_after c t f (e / F c) (e % F c)) (where_x (plain_state c t f (e / F c)) st) ≡ false
            clear = unfold writes_at opposed_write in (rw is at o)

            size : length (give_row (row_of (F c) list (e / F c)) (where_x (row_of (F c) states (e / F c)) st)) ≡ F c
            size = length-give_row _ _ ∙ unfold row_of in (length-take-le (F c) (drop (F c * (e / F c)) list) (rw length-drop (omega (arith, fits (e / F c) inside))))

            each : (v : ℕ) → v < L c t
                → cond (eqb v (e / F c)) (give_row (row_of (F c) list (e / F c)) (where_x (row_of (F c) states (e / F c)) st)) (row_of (F c) list v) ≡ row_to c t f (e + 1) v
            each v h = by-eq v (e / F c)
                (λ s. rw (eq-eqb v (e / F c) s, s, row, plain) (sym now))
                (λ s. rw (ne_eqb v (e / F c) s) ((old.rows l g).at v h ∙ sym (row_other c t f e some v s)))

-- ---- by the word
module _ (c t : List ℕ) (f : Fault) (stop : ℕ) (states : List ℕ) (pairs : List Pair) (at next marks : ℕ) (after : List ℕ) (e : ℕ) (list list' : List ℕ) (w r : Walk)
    (settling : Settling c t f (F c) stop states pairs at next marks after) (begun : at ≤ e) (before : e < next) (room : L c t * F c ≤ length list) (old : Walked c t f e list w) where
  soon : e < stop
  soon = omega (arith, settling.last)

  inside : e / F c < L c t
  inside = unit-inside (F c) (L c t) e settling.some (omega (arith, soon, settling.tried.most))

  late : 1 ≤ e / F c
  late = first-unit (F c) e settling.some (omega (arith, settling.first))

  pub turn-known : is_x states e ≡ false → Walked c t f (e + 1) list w
  turn-known n =
      let off : tried c t f (e / F c) (e % F c) ≡ false = settling.tried.inside e (omega (arith, settling.first)) soon ∙ n in
      turn-nothing c t f e list w settling.some inside old (untried_both c t f _ _ off) (untried_written c t f _ _ off)

  module _ (p : ℕ) (x : is_x states e ≡ true) (ep : p ≡ pair_at states at e) (free : w.both ≡ None) where
    on : tried c t f (e / F c) (e % F c) ≡ true
    on = settling.tried.inside e (omega (arith, settling.first)) soon ∙ x

    mark : (α : ℕ) → α < 2 → bit (2 * p + α) marks ≡ marked c t f (e / F c) (e % F c) α
    mark α h = rw ep (settling.word.mark e α begun before x h)

    first : bit (2 * p) marks ≡ marked c t f (e / F c) (e % F c) 0
    first = let same : 2 * p + 0 ≡ 2 * p = omega arith in rw (← same) (mark 0 (omega arith))

    -- α alone is unmarked
    other : (α lane : ℕ) → α < 2 → lane ≡ 2 * p + α → marked c t f (e / F c) (e % F c) α ≡ false → written c t f (e / F c) (e % F c) ≡ extra c t f (e / F c) (e % F c) α
        → Written (F c) states after (e / F c) lane e list w list' r → Walked c t f (e + 1) list' r
    other α lane h el m is wrote =
        turn-written c t f e list w settling.some inside old states room (one-both c t f _ _ α h m) list' r after lane
        (next_state c f (implied_at c t f (e / F c - 1) (e % F c) α)) (settling.plain.at (e / F c) inside) (rw (el, ep) (settling.word.shown e α begun before x h m)) (length-next_state c f _)
        (next_state-three c f (omega (arith, settling.fault.value)) _ (implied-three c t f (e / F c) (e % F c) α late m)) (is ∙ extra-shown c t f (e / F c) (e % F c) α late m) wrote free

    pub turn-settled : Settled (F c) states after marks (e / F c) p e list w list' r → Walked c t f (e + 1) list' r
    turn-settled s = by-test (bit (2 * p) marks)
        (λ a. by-test (bit (2 * p + 1) marks)
        (λ b. rw (s.both a b) (walked_both c t f e list w old list' free (unfold both_at in both-both c t f _ _ on (sym first ∙ a) (sym (mark 1 (omega arith)) ∙ b))))
        (λ b. let off = sym (mark 1 (omega arith)) ∙ b in other 1 (2 * p + 1) (omega arith) refl off (zero-written c t f _ _ on (sym first ∙ a) off) (s.zero a b)))
        (λ a. by-test (bit (2 * p + 1) marks)
        (λ b. let off = sym first ∙ a in other 0 (2 * p) (omega arith) (omega arith) off (one_written c t f _ _ on off (sym (mark 1 (omega arith)) ∙ b)) (s.one a b))
        (λ b.
        let same = s.none a b in
        let off = sym first ∙ a in
        rw (same.0, same.1) (turn-nothing c t f e list w settling.some inside old (one-both c t f _ _ 0 (omega arith) off) (none_written c t f _ _ off (sym (mark 1 (omega arith)) ∙ b)))))

-- with a size by another name, and the unit as a word has it
pub turn_at : (c t : List ℕ) (f : Fault) (width stop : ℕ) (states : List ℕ) (pairs : List Pair) (at next marks : ℕ) (after : List ℕ) (e u p : ℕ) (list list' : List ℕ) (w r : Walk)
    → Settling c t f width stop states pairs at next marks after → at ≤ e → e < next → L c t * F c ≤ length list → is_x states e ≡ true → p ≡ pair_at states at e → w.both ≡ None
    → u ≡ (pair_of pairs p).unit + 1 → Settled width states after marks u p e list w list' r → Walked c t f e list w → Walked c t f (e + 1) list' r
turn_at c t f width stop states pairs at next marks after e u p list list' w r settling begun before room x ep free eu s old =
    let own : Settling c t f (F c) stop states pairs at next marks after = (rw settling.size at settling) in
    let late : 1 ≤ e / F c = first-unit (F c) e own.some (omega (arith, own.first)) in
    let unit : u ≡ e / F c = eu ∙ rw (ep, own.unit e begun before x) (let z : e / F c - 1 + 1 ≡ e / F c = omega arith in z) in
    let same : Settled (F c) states after marks (e / F c) p e list w list' r = (rw (settling.size, unit) at s) in
    turn-settled c t f stop states pairs at next marks after e list list' w r own begun before room old p x ep free same

pub pass-at : (c t : List ℕ) (f : Fault) (width stop : ℕ) (states : List ℕ) (pairs : List Pair) (at next marks : ℕ) (after : List ℕ) (e : ℕ) (list : List ℕ) (w : Walk)
    → Settling c t f width stop states pairs at next marks after → at ≤ e → e < next → L c t * F c ≤ length list → is_x states e ≡ false → Walked c t f e list w → Walked c t f (e + 1) list w
pass-at c t f width stop states pairs at next marks after e list w settling begun before room n old =
    turn-known c t f stop states pairs at next marks after e list list w w (rw settling.size at settling) begun before room old n
