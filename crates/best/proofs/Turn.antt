-- What one pair, one unit, and the end of the scan add to what is known of the best so far.
use mathlib.Core.Path.{◌≡◌, refl, sym, ap, subst, ◌∙◌}
use Prim.Native.Nat.{ℕ, zero, suc, ◌+◌, ◌*◌, ◌-◌, ◌/◌, ◌%◌, ◌≤◌, ◌<◌}
use mathlib.Core.Bool.{Bool, true, false, cond}
use mathlib.Core.List.{List}
use mathlib.Core.Option.{Option, none, some, some-injective, none-ne-some, some-ne-none}
use Rattle.std.specs.Prelude.{Some, None}
use Rattle.std.specs.Prelude as std
use Rattle.std.proofs.lemmas.Option.{none-some, same_Some}
use lib.Arith.{digits_div, digits_mod}
use lib.Dec.{ltb}
use lib.ListN.{get_or}
use native.Mathlib.Numerals.{add-one}
use native.Mathlib.Omega.{arith}
use native.Mathlib.Decide.{dec_le}
use native.Mathlib.Nat.{mul_comm}
use borrow.Author.Tests.{ltb-true, ltb-false}
use Rattle.lists.specs.Field.{word16, bytes16, row_of}
use Rattle.lists.proofs.Field.{word_back, word_of_part, row_fits}
use Rattle.lists.proofs.Tests.{by-test, by-eq}
use Rattle.model.specs.Inputs.{F, L, Fault}
use Rattle.model.specs.Sequences.{takes}
use Rattle.model.specs.Choose.{smaller_extra, larger_extra, better, best_of, best_at, best_below, next_pair}
use Rattle.best.specs.Weights.{weight_bytes, entry_of, Weighed, merit}
use Rattle.best.specs.Best.{score_of, pair_score, scored, Merits, Compared, Inside, Standing, Scanned, Picked}
use Rattle.best.specs.declared.Best.{Best}
use Rattle.best.proofs.Bounds.{smaller-bound, larger-bound}
use Rattle.best.proofs.Score.{better-score}

-- ---- an entry of the table
-- its fields
fields : (table : List ℕ) (e a b : ℕ) → a < 65536 → b < 65536 → row_of 4 table e ≡ weight_bytes a b → (word16 table (4 * e) ≡ a) × (word16 table (4 * e + 2) ≡ b)
unfolding row_of weight_bytes bytes16 word16
fields table e a b h k r =
    let first : 4 * e + 0 ≡ 4 * e = omega arith in (
      (rw first at (word_of_part table (4 * e) 4 0 (omega arith))) ∙ ap (λ x. word16 x 0) r ∙ word_back a h,
      word_of_part table (4 * e) 4 2 (omega arith) ∙ ap (λ x. word16 x 2) r ∙ word_back b k,
    )

-- the entry of (u, i)
entry_at : (c t : List ℕ) (f : Fault) (pairs : List (ℕ × ℕ)) (from to : ℕ) (table : List ℕ) (size u i : ℕ) → Weighed c t f pairs from to table → size ≡ F c → i < size → from ≤ size * u + i → size * u + i < to
    → row_of 4 table (size * u + i) ≡ entry_of c t f pairs u i
entry_at c t f pairs from to table size u i weighed es inside low high =
    let turned : size * u + i ≡ u * F c + i = ap (λ n. n + i) (mul_comm size u ∙ ap (◌*◌ u) es) in
    let unit : (size * u + i) / F c ≡ u = ap (λ n. n / F c) turned ∙ digits_div u (rw es at inside) in
    let bit : (size * u + i) % F c ≡ i = ap (λ n. n % F c) turned ∙ digits_mod u (rw es at inside) in
    weighed.at (size * u + i) low high ∙ rw (unit, bit)

-- ---- one pair, as it is compared
module _ (best : std.Option Best) (m u i a b first second : ℕ) (ea : first ≡ a) (eb : second ≡ b) where
  pub kept : (old : Best) → best ≡ Some old → (m * 512 + (first - 1)) * 512 + second + 1 ≤ old.score → Compared best m u i a b (Some old)
  unfolding score_of
  kept old is h = record {
    passed = λ _. sym is;
    stays = λ _ _ _ _. sym is;
    replaced = λ _ more. absurd (let l : old.score < score_of m a b = more old is in let z : ⊥ = omega arith in z);
  }

  pub replaced : (first ≡ 0 → ⊥) → ((old : Best) → best ≡ Some old → old.score < (m * 512 + (first - 1)) * 512 + second + 1)
      → Compared best m u i a b (Some (record { score = (m * 512 + (first - 1)) * 512 + second + 1; unit = u; bit = i }))
  unfolding score_of
  replaced above more = record {
    passed = λ e. absurd (above (ea ∙ e));
    stays = λ _ old is h. absurd (let l : old.score < (m * 512 + (first - 1)) * 512 + second + 1 = more old is in let z : ⊥ = omega arith in z);
    replaced = λ _ _. rw (ea, eb);
  }

-- the best so far stays, or the pair replaces it
compared-cases : {A : Type 0} (best : std.Option Best) (m u i a b : ℕ) (r : std.Option Best) → Compared best m u i a b r → (r ≡ best → A) → (r ≡ Some (record { score = score_of m a b; unit = u; bit = i }) → A) → A
compared-cases None m u i a b r said stays replaces = by-eq a 0
    (λ e. stays (said.passed e))
    (λ n. replaces (said.replaced (omega (arith, n)) (λ old is. absurd (none-some old is))))
compared-cases (Some x) m u i a b r said stays replaces = by-eq a 0
    (λ e. stays (said.passed e))
    (λ n.
    let some : 0 < a = omega (arith, n) in
    elim (dec_le (suc x.score) (score_of m a b)) [
      | yes h ↦ replaces (said.replaced some (λ old is. subst (λ (y : Best). y.score < score_of m a b) (same_Some x old is) h))
      | no h ↦ stays (said.stays some x refl (let z : score_of m a b ≤ x.score = omega arith in z))
    ])

pub inside-turn : (best : std.Option Best) (m u i a b : ℕ) (r : std.Option Best) (units size : ℕ) → Compared best m u i a b r → u < units → i < size → Inside units size best → Inside units size r
inside-turn best m u i a b r units size said low small before =
    compared-cases best m u i a b r said
    (λ e. subst (λ (x : std.Option Best). Inside units size x) (sym e) before)
    (λ e. record {
      unit = λ x is. subst (λ (y : Best). y.unit < units) (same_Some _ x (sym e ∙ is)) low;
      bit = λ x is. subst (λ (y : Best). y.bit < size) (same_Some _ x (sym e ∙ is)) small;
    })

-- ---- the best of the pairs before a place
module _ (c t : List ℕ) (f : Fault) where
  pub standing-none : Standing c t f none 0 0 None
  standing-none = record {
    absent = λ _. refl;
    present = λ q g. absurd (none-ne-some q g);
    early = λ q g. absurd (none-ne-some q g);
    earlier = λ q g. absurd (none-ne-some q g);
  }

  -- the place moves on
  passes : (o : Option (ℕ × ℕ)) (u i : ℕ) (r : std.Option Best) → Standing c t f o u i r → Standing c t f o u (i + 1) r
  passes o u i r s = record {
    absent = s.absent;
    present = s.present;
    early = s.early;
    earlier = λ q g e. let l : q.1 < i = s.earlier q g e in omega arith;
  }

  pub next-unit : (o : Option (ℕ × ℕ)) (u i : ℕ) (r : std.Option Best) → Standing c t f o u i r → Standing c t f o (u + 1) 0 r
  next-unit o u i r s = record {
    absent = s.absent;
    present = s.present;
    early = λ q g. omega (arith, s.early q g);
    earlier = λ q g e. absurd (let l : q.0 ≤ u = s.early q g in let z : ⊥ = omega arith in z);
  }

  -- the pair at the place is the best
  stands : (u i : ℕ) (r : std.Option Best) → r ≡ Some (scored c t f (u, i)) → Standing c t f (some (u, i)) u (i + 1) r
  stands u i r is = record {
    absent = λ g. absurd (some-ne-none (u, i) g);
    present = λ q g. is ∙ ap (λ (p : ℕ × ℕ). Some (scored c t f p)) (some-injective (u, i) q g);
    early = λ q g. let e : u ≡ q.0 = ap (λ (p : ℕ × ℕ). p.0) (some-injective (u, i) q g) in omega arith;
    earlier = λ q g _. let e : i ≡ q.1 = ap (λ (p : ℕ × ℕ). p.1) (some-injective (u, i) q g) in omega arith;
  }

  module _ (pairs : List (ℕ × ℕ)) where
    -- ---- the scan of the model, step by step
    of-passed : (o : Option (ℕ × ℕ)) (u i : ℕ) → takes c t f pairs u i ≡ false → best_of c t f pairs o u i ≡ o
    unfolding best_of
    of-passed none u i e = rw e
    of-passed (some q) u i e = rw e

    of-first : (u i : ℕ) → takes c t f pairs u i ≡ true → best_of c t f pairs none u i ≡ some (u, i)
    unfolding best_of
    of-first u i e = rw e

    of-better : (q : ℕ × ℕ) (u i : ℕ) (d : Bool) → takes c t f pairs u i ≡ true → better c t f u i q.0 q.1 ≡ d → best_of c t f pairs (some q) u i ≡ cond d (some (u, i)) (some q)
    unfolding best_of
    of-better q u i d e b = rw (e, b)

    pub at_none : (u : ℕ) (o : Option (ℕ × ℕ)) → best_at c t f pairs u 0 o ≡ o
    unfolding best_at
    at_none u o = refl

    pub at_more : (u i : ℕ) (o : Option (ℕ × ℕ)) → best_at c t f pairs u (i + 1) o ≡ best_of c t f pairs (best_at c t f pairs u i o) u i
    unfolding best_at
    at_more u i o = rw (add-one i)

    pub below_none : best_below c t f pairs 0 ≡ none
    unfolding best_below
    below_none = refl

    pub below_more : (u : ℕ) → best_below c t f pairs (u + 1) ≡ best_at c t f pairs u (F c) (best_below c t f pairs u)
    unfolding best_below
    below_more u = rw (add-one u)

    -- units of which no pair can be taken
    at-passed : (u i : ℕ) (o : Option (ℕ × ℕ)) → ((i : ℕ) → takes c t f pairs u i ≡ false) → best_at c t f pairs u i o ≡ o
    unfolding best_at
    at-passed u zero o h = refl
    at-passed u (suc i) o h = of-passed _ u i (h i) ∙ at-passed u i o h

    below_rest : (units n : ℕ) → units ≤ n → ((u i : ℕ) → units ≤ u → u < n → takes c t f pairs u i ≡ false) → best_below c t f pairs n ≡ best_below c t f pairs units
    unfolding best_below
    below_rest units zero l h = let z : units ≡ 0 = omega arith in rw z
    below_rest units (suc n) l h = elim (dec_le units n) [
      | yes g ↦ at-passed n (F c) _ (λ i. h n i g (omega arith)) ∙ below_rest units n g (λ u i a b. h u i a (omega arith))
      | no g ↦ (let z : units ≡ suc n = omega arith in rw z)
    ]

    -- ---- one pair more
    module _ (table : List ℕ) (e u i : ℕ) (best r : std.Option Best) (few : F c ≤ 256) (entry : row_of 4 table e ≡ entry_of c t f pairs u i)
        (said : Compared best (merit c t f u) u i (word16 table (4 * e)) (word16 table (4 * e + 2)) r) where
      passed : takes c t f pairs u i ≡ false → r ≡ best
      unfolding entry_of
      passed no-take = said.passed (fields table e 0 0 (omega arith) (omega arith) (entry ∙ rw no-take)).0

      weighed : takes c t f pairs u i ≡ true → Compared best (merit c t f u) u i (smaller_extra c t f u i + 1) (larger_extra c t f u i) r
      unfolding entry_of
      weighed take =
          let s : smaller_extra c t f u i ≤ F c = smaller-bound c t f u i in
          let l : larger_extra c t f u i ≤ F c = larger-bound c t f u i in
          let read : (word16 table (4 * e) ≡ smaller_extra c t f u i + 1) × (word16 table (4 * e + 2) ≡ larger_extra c t f u i) = fields table e _ _ (omega arith) (omega arith) (entry ∙ rw take) in
          subst (λ (b : ℕ). Compared best (merit c t f u) u i (smaller_extra c t f u i + 1) b r) read.1
          (subst (λ (a : ℕ). Compared best (merit c t f u) u i a (word16 table (4 * e + 2)) r) read.0 said)

      replaces : takes c t f pairs u i ≡ true → ((old : Best) → best ≡ Some old → old.score < pair_score c t f u i) → Standing c t f (some (u, i)) u (i + 1) r
      unfolding pair_score
      replaces take more = stands u i r ((weighed take).replaced (omega arith) more)

      keeps : takes c t f pairs u i ≡ true → (old : Best) → best ≡ Some old → pair_score c t f u i ≤ old.score → r ≡ best
      unfolding pair_score
      keeps take old is h = (weighed take).stays (omega arith) old is h

      stays : (o : Option (ℕ × ℕ)) → r ≡ best → Standing c t f o u i best → Standing c t f o u (i + 1) r
      stays o same s = passes o u i r (subst (λ (x : std.Option Best). Standing c t f o u i x) (sym same) s)

      pub turn : (o : Option (ℕ × ℕ)) → Standing c t f o u i best → Standing c t f (best_of c t f pairs o u i) u (i + 1) r
      turn none s = by-test (takes c t f pairs u i)
          (λ y. rw (of-first u i y) (replaces y (λ old is. absurd (none-some old (sym (s.absent refl) ∙ is)))))
          (λ n. rw (of-passed none u i n) (stays none (passed n) s))
      turn (some q) s =
          let old = pair_score c t f q.0 q.1 in
          let new = pair_score c t f u i in
          by-test (takes c t f pairs u i)
          (λ y.
          let same : better c t f u i q.0 q.1 ≡ ltb old new = better-score c t f u i q.0 q.1 few (s.early q refl) (s.earlier q refl) in
          by-test (ltb old new)
          (λ l. rw (of-better q u i true y (same ∙ l)) (replaces y (λ x is. subst (λ (b : Best). b.score < new) (same_Some (scored c t f q) x (sym (s.present q refl) ∙ is)) (ltb-true old new l))))
          (λ l. rw (of-better q u i false y (same ∙ l)) (stays (some q) (keeps y (scored c t f q) (s.present q refl) (ltb-false old new l)) s)))
          (λ n. rw (of-passed (some q) u i n) (stays (some q) (passed n) s))

    -- ---- a turn of each loop
    pub bit-turn : (table : List ℕ) (size m u i : ℕ) (o : Option (ℕ × ℕ)) (best r : std.Option Best) → size ≤ 256 → i < size → size ≡ F c → m ≡ merit c t f u → Weighed c t f pairs (size * u) (size * u + size) table
        → Compared best m u i (word16 table (4 * (size * u + i))) (word16 table (4 * (size * u + i) + 2)) r → Standing c t f (best_at c t f pairs u i o) u i best → Standing c t f (best_at c t f pairs u (i + 1) o) u (i + 1) r
    bit-turn table size m u i o best r few inside es em weights said s =
        rw (at_more u i o)
        (turn table (size * u + i) u i best r (rw es at few) (entry_at c t f pairs (size * u) (size * u + size) table size u i weights es inside (omega arith) (omega arith))
        (subst (λ (n : ℕ). Compared best n u i (word16 table (4 * (size * u + i))) (word16 table (4 * (size * u + i) + 2)) r) em said) (best_at c t f pairs u i o) s)

    pub unit-turn : (merits table : List ℕ) (units size m u : ℕ) (best r : std.Option Best) → u < units → size ≡ F c → m ≡ get_or merits u 0 → Merits c t f units merits → Weighed c t f pairs 0 (size * units) table
        → Scanned u size m table best r → Standing c t f (best_below c t f pairs u) u 0 best → Standing c t f (best_below c t f pairs (u + 1)) (u + 1) 0 r
    unit-turn merits table units size m u best r inside es em known weights said s =
        let fits : size * u + size ≤ size * units = omega (arith, row_fits size u units inside, mul_comm units size) in
        rw (below_more u, ← es)
        (said.next c t f pairs (best_below c t f pairs u) es (em ∙ known.at u inside) (record { at = λ e low high. weights.at e (omega arith) (omega arith) }) s)

    -- ---- the end of the scan
    answer : (o : Option (ℕ × ℕ)) (u i : ℕ) (r : std.Option Best) → next_pair c t f pairs ≡ o → Standing c t f o u i r → Picked c t f pairs r
    answer none u i r e s = record {
      absent = λ _. s.absent refl;
      present = λ q g. absurd (none-ne-some q (sym e ∙ g));
      nothing = λ _. e;
      found = λ x is. absurd (none-some x (sym (s.absent refl) ∙ is));
    }
    answer (some q) u i r e s = record {
      absent = λ g. absurd (some-ne-none q (sym e ∙ g));
      present = λ p g. s.present q refl ∙ ap (λ (x : ℕ × ℕ). Some (scored c t f x)) (some-injective q p (sym e ∙ g));
      nothing = λ g. absurd (none-some (scored c t f q) (sym g ∙ s.present q refl));
      found = λ x is. e ∙ ap (λ (b : Best). some (b.unit, b.bit)) (same_Some (scored c t f q) x (sym (s.present q refl) ∙ is));
    }

    pub picked : (units : ℕ) (r : std.Option Best) → units ≤ L c t → ((u i : ℕ) → units ≤ u → u < L c t → takes c t f pairs u i ≡ false) → Standing c t f (best_below c t f pairs units) units 0 r → Picked c t f pairs r
    unfolding next_pair
    picked units r l rest s = answer (best_below c t f pairs units) units 0 r (below_rest units (L c t) l rest) s
