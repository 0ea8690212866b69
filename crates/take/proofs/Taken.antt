-- The table of the pairs taken: none, one more, and one passed over.
use mathlib.Core.Path.{◌≡◌, refl, sym, ap, ◌∙◌}
use mathlib.Core.List.{List, [], ◌∷◌, ◌++◌}
use Prim.Native.Nat.{ℕ, zero, suc, ◌+◌, ◌*◌, ◌/◌, ◌%◌, ◌<◌, ◌≤◌}
use native.Mathlib.Omega.{arith}
use native.Mathlib.Numerals.{add-one}
use native.Mathlib.Decide.{dec_le}
use lib.ListN.{get_or, length, set, length-append, get_or-append}
use lib.Seq.{get_or-set_same, get_or-set_other}
use Rattle.lists.specs.Field.{row_of, word16}
use Rattle.lists.proofs.Tests.{by-eq}
use Rattle.model.specs.Inputs.{F, Fault, plan_pair, plan_count}
use Rattle.model.specs.Implication.{extra}
use Rattle.model.specs.Sequences.{take_next, taken_of, taken}
use Rattle.sequences.specs.Ends.{Taken}
use Rattle.take.specs.Take.{with_pair}
use Rattle.take.proofs.Table.{pair-low, pair-high, pair-below}
use Rattle.take.proofs.Extras.{length-extra}

last-pair : (pairs : List (ℕ × ℕ)) (q d : ℕ × ℕ) (m : ℕ) → length pairs ≡ m → get_or (pairs ++ (q ∷ [])) m d ≡ q
last-pair [] q d zero e = refl
last-pair [] q d (suc m) e = absurd (let z : ⊥ = omega arith in z)
last-pair (p ∷ pairs) q d zero e = absurd (let z : ⊥ = omega arith in z)
last-pair (p ∷ pairs) q d (suc m) e = last-pair pairs q d m (omega arith)

module _ (c t : List ℕ) (f : Fault) where
  pub taken_none : (plan : List ℕ) (k : ℕ) (times extras : List ℕ) → Taken c t f (taken_of c t f plan k 0) 0 times extras
  unfolding taken_of
  taken_none plan k times extras = record { count = refl; time = λ q h. absurd (let z : ⊥ = omega arith in z); rows = record { at = λ r h. absurd (let z : ⊥ = omega arith in z) } }

  pub taken_as : (pairs pairs' : List (ℕ × ℕ)) (m : ℕ) (times extras : List ℕ) → pairs' ≡ pairs → Taken c t f pairs m times extras → Taken c t f pairs' m times extras
  taken_as pairs pairs' m times extras e h = rw e h

  -- the plan's next pair
  pub plan-turn : (plan : List ℕ) (k n u i m : ℕ) (times extras : List ℕ) → u ≡ word16 plan (4 * n) → i ≡ word16 plan (4 * n + 2)
      → Taken c t f (take_next c t f k (taken_of c t f plan k n) (u, i)) m times extras → Taken c t f (taken_of c t f plan k (n + 1)) m times extras
  unfolding taken_of plan_pair
  plan-turn plan k n u i m times extras eu ei h = rw (add-one n, ← eu, ← ei) h

  pub plan-all : (plan : List ℕ) (k n m : ℕ) (times extras : List ℕ) → n ≡ plan_count plan → Taken c t f (taken_of c t f plan k n) m times extras → Taken c t f (taken c t f plan k) m times extras
  unfolding taken
  plan-all plan k n m times extras e h = rw (← e) h

  module _ (pairs : List (ℕ × ℕ)) (m : ℕ) (times extras : List ℕ) (old : Taken c t f pairs m times extras) (u i : ℕ) (extras' : List ℕ)
      (made : extras' ≡ with_pair (F c) m (extra c t f u i 0) (extra c t f u i 1) extras) (fits : F c * (2 * m + 1) + F c ≤ length extras) where
    kept_row : (r : ℕ) → r < 2 * m → row_of (F c) extras' r ≡ row_of (F c) extras r
    kept_row r h = ap (λ x. row_of (F c) x r) made ∙ pair-below (F c) m extras (extra c t f u i 0) (extra c t f u i 1) fits (length-extra c t f u i 0) (length-extra c t f u i 1) r h

    pub low-row : row_of (F c) extras' (2 * m) ≡ extra c t f u i 0
    low-row = ap (λ x. row_of (F c) x (2 * m)) made ∙ pair-low (F c) m extras (extra c t f u i 0) (extra c t f u i 1) fits (length-extra c t f u i 0) (length-extra c t f u i 1)

    pub high-row : row_of (F c) extras' (2 * m + 1) ≡ extra c t f u i 1
    high-row = ap (λ x. row_of (F c) x (2 * m + 1)) made ∙ pair-high (F c) m extras (extra c t f u i 0) (extra c t f u i 1) fits (length-extra c t f u i 0) (length-extra c t f u i 1)

    -- the pair is passed over
    pub taken-kept : Taken c t f pairs m times extras'
    taken-kept = record { count = old.count; time = old.time; rows = record { at = λ r h. kept_row r h ∙ old.rows.at r h } }

    -- the pair is taken
    pub taken_more : (times' : List ℕ) → times' ≡ set times m u → m < length times → Taken c t f (pairs ++ ((u, i) ∷ [])) (m + 1) times' extras'
    taken_more times' et room = record {
      count = length-append pairs ((u, i) ∷ []) ∙ ap (λ n. n + 1) old.count;
      time = λ q h. rw et (by-eq q m
          (λ e. rw (e, last) (get_or-set_same times m u 0 room))
          (λ n. let low : q < m = less q n h in get_or-set_other times m q u 0 n ∙ old.time q low ∙ ap (λ p. p.0) (sym (before q low))));
      rows = record {
        at = λ r h. elim (dec_le (suc r) (2 * m)) [
          | yes g ↦ kept_row r g ∙ old.rows.at r g ∙ rw (before (r / 2) (omega arith))
          | no g ↦ by-eq r (2 * m)
              (λ e. let half : r / 2 ≡ m = omega arith in let rest : r % 2 ≡ 0 = omega arith in rw (half, rest, last, e) low-row)
              (λ n.
              let e : r ≡ 2 * m + 1 = above r n g h in
              let half : r / 2 ≡ m = omega arith in
              let rest : r % 2 ≡ 1 = omega arith in
              rw (half, rest, last, e) high-row)
        ];
      };
    }
      where
        last : get_or (pairs ++ ((u, i) ∷ [])) m (0, 0) ≡ (u, i)
        last = last-pair pairs (u, i) (0, 0) m old.count

        before : (q : ℕ) → q < m → get_or (pairs ++ ((u, i) ∷ [])) q (0, 0) ≡ get_or pairs q (0, 0)
        before q h = get_or-append pairs ((u, i) ∷ []) (0, 0) q (rw old.count h)

        less : (q : ℕ) → (q ≡ m → ⊥) → q < m + 1 → q < m
        less q n h = elim (dec_le (suc q) m) [ yes g ↦ g | no g ↦ absurd (n (omega arith)) ]

        above : (r : ℕ) → (r ≡ 2 * m → ⊥) → (suc r ≤ 2 * m → ⊥) → r < 2 * (m + 1) → r ≡ 2 * m + 1
        above r n g h = elim (dec_le (2 * m + 1) r) [ yes k ↦ omega arith | no k ↦ absurd (n (omega arith)) ]
