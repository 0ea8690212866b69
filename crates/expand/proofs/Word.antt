-- The pairs that fill a word.
use mathlib.Core.Path.{◌≡◌, sym, ◌∙◌}
use mathlib.Core.Bool.{true, false, cond}
use mathlib.Core.List.{List}
use Prim.Native.Nat.{ℕ, zero, suc, ◌+◌, ◌-◌, ◌<◌, ◌≤◌}
use native.Mathlib.Omega.{arith}
use native.Mathlib.Decide.{dec_le}
use lib.ListN.{length, set}
use lib.Seq.{get_or-set_same, get_or-set_other}
use Rattle.lists.specs.Scan.{count_below}
use Rattle.lists.proofs.Tests.{by-test, clash}
use Rattle.trial.specs.declared.Pair.{Pair}
use Rattle.trial.specs.Trial.{pair_of}
use Rattle.expand.specs.Expand.{is_x, pair_at, pair_for, Filled}

module _ (states : List ℕ) (at : ℕ) where
  pub pair-none : pair_at states at at ≡ 0
  unfolding pair_at count_below
  pair-none = let none : at - at ≡ 0 = omega arith in rw none

  pub pair_turn : (e : ℕ) → at ≤ e → pair_at states at (e + 1) ≡ pair_at states at e + cond (is_x states e) 1 0
  unfolding pair_at count_below
  pair_turn e h =
      let more : e + 1 - at ≡ suc (e - at) = omega arith in
      let here : at + (e - at) ≡ e = omega arith in
      rw (more, here)

  pair-order : (e k : ℕ) → at ≤ e → pair_at states at e ≤ pair_at states at (e + k)
  pair-order e zero h = let same : e + 0 ≡ e = omega arith in rw same (omega arith)
  pair-order e (suc k) h =
      let more : e + suc k ≡ (e + k) + 1 = omega arith in
      rw (more, pair_turn (e + k) (omega arith)) (omega (arith, pair-order e k h))

  pub pair-upto : (e g : ℕ) → at ≤ e → e ≤ g → pair_at states at e ≤ pair_at states at g
  pair-upto e g h l = let far : e + (g - e) ≡ g = omega arith in rw far at (pair-order e (g - e) h)

  -- an earlier pair has a lower number
  pub pair-lower : (e g : ℕ) → at ≤ e → e < g → is_x states e ≡ true → pair_at states at e < pair_at states at g
  pair-lower e g h l x =
      let far : e + 1 + (g - (e + 1)) ≡ g = omega arith in
      let turn : pair_at states at (e + 1) ≡ pair_at states at e + 1 = pair_turn e h ∙ rw x in
      let order : pair_at states at (e + 1) ≤ pair_at states at (e + 1 + (g - (e + 1))) = pair-order (e + 1) (g - (e + 1)) (omega arith) in
      let reach : pair_at states at (e + 1) ≤ pair_at states at g = (rw far at order) in
      omega arith

module _ (size : ℕ) (states : List ℕ) (at : ℕ) where
  pub filled_none : (pairs : List Pair) → Filled size states pairs at at 0
  filled_none pairs = record {
    order = omega arith;
    all = sym (pair-none states at);
    few = omega arith;
    pair = λ e h l x. absurd (let z : ⊥ = omega arith in z);
    below = λ p h. absurd (let z : ⊥ = omega arith in z);
  }

  module _ (pairs : List Pair) (e count : ℕ) (room : count < 32) (old : Filled size states pairs at e count) where
    skipped : is_x states e ≡ false → Filled size states pairs at (e + 1) count
    skipped n = record {
      order = omega (arith, old.order);
      all = old.all ∙ sym (pair_turn states at e old.order ∙ rw n (let z : pair_at states at e + 0 ≡ pair_at states at e = omega arith in z));
      few = omega arith;
      pair = λ g h l x. old.pair g h (earlier g l x) x;
      below = λ p h. let found = old.below p h in (found.0, found.1, omega (arith, found.2), found.3, found.4);
    }
      where
        earlier : (g : ℕ) → g < e + 1 → is_x states g ≡ true → g < e
        earlier g l x = elim (dec_le (suc g) e) [
          | yes q ↦ q
          | no q ↦ (let here : g ≡ e = omega arith in clash (is_x states e) (rw here at x) n)
        ]

    -- place `count` is set, where the pairs before it stay
    one_more : count < length pairs → is_x states e ≡ true → (g : ℕ) → at ≤ g → g < e + 1 → is_x states g ≡ true → pair_of (set pairs count (pair_for size e)) (pair_at states at g) ≡ pair_for size g
    one_more long x g h l y = elim (dec_le (suc g) e) [
      | yes q ↦ get_or-set_other pairs count (pair_at states at g) (pair_for size e) _ (λ s. (let z : ⊥ = omega (arith, pair-lower states at g e h q y, old.all) in z)) ∙ old.pair g h q y
      | no q ↦ (let here : g ≡ e = omega arith in rw (here, ← old.all) (get_or-set_same pairs count (pair_for size e) _ long))
    ]

    added : count < length pairs → is_x states e ≡ true → Filled size states (set pairs count (pair_for size e)) at (e + 1) (count + 1)
    added long x = record {
      order = omega (arith, old.order);
      all = sym (pair_turn states at e old.order ∙ rw (x, old.all));
      few = omega arith;
      pair = one_more long x;
      below = λ p h. elim (dec_le (suc p) count) [
        | yes q ↦ (let found = old.below p q in (found.0, found.1, omega (arith, found.2), found.3, found.4))
        | no q ↦ (let last : p ≡ count = omega arith in (e, old.order, omega arith, x, sym old.all ∙ sym last))
      ];
    }

    pub filled-turn : (pairs' : List Pair) (r : ℕ) → count < length pairs → r ≡ count + cond (is_x states e) 1 0 → pairs' ≡ cond (is_x states e) (set pairs count (pair_for size e)) pairs
        → Filled size states pairs' at (e + 1) r
    filled-turn pairs' r long er ep = by-test (is_x states e)
        (λ x. rw (er, ep, x) (added long x))
        (λ n. rw (er, ep, n) (let same : count + 0 ≡ count = omega arith in rw same (skipped n)))
