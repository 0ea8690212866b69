-- Choose's next pair is one that stage 5 would take next, and none that it would take is better by the six criteria.
use mathlib.Core.Path.{◌≡◌, refl, sym, subst, ◌∙◌}
use Prim.Native.Nat.{ℕ, zero, suc, ◌<◌}
use mathlib.Core.Bool.{Bool, true, false, ◌&&◌}
use mathlib.Core.List.{List}
use mathlib.Core.Option.{Option, none, some}
use native.Mathlib.Omega.{arith}
use native.Mathlib.Decide.{dec_le}
use borrow.Author.Tests.{lt-ltb, le-ltb}
use Rattle.lists.proofs.Tests.{and_left, and_right, and-fails, cond_cases, clash, is_false}
use Rattle.model.specs.Inputs.{F, L, Fault}
use Rattle.model.specs.Expansion.{nsv, nout}
use Rattle.model.specs.Sequences.{takes}
use Rattle.model.specs.Choose.{larger, smaller, smaller_extra, larger_extra, better, best_of, best_at, best_below, next_pair}
use Rattle.model.proofs.Pairs.{Takeable, takeable}

-- ---- one criterion
larger-more : (a b : ℕ) (rest : Bool) → b < a → larger a b rest ≡ true
unfolding larger
larger-more a b rest h = rw (lt-ltb b a h)

pub larger-less : (a b : ℕ) (rest : Bool) → a < b → larger a b rest ≡ false
unfolding larger
larger-less a b rest h = rw (le-ltb b a (omega arith), lt-ltb a b h)

pub larger-same : (a b : ℕ) (rest : Bool) → a ≡ b → larger a b rest ≡ rest
unfolding larger
larger-same a b rest h = rw (le-ltb b a (omega arith), le-ltb a b (omega arith))

-- a criterion that says so: the number is larger, or the same and the rest says so
larger-cases {ℓ} : {A : Type ℓ} (a b : ℕ) (rest : Bool) → larger a b rest ≡ true → (b < a → A) → (a ≡ b → rest ≡ true → A) → A
larger-cases a b rest e f g = elim (dec_le (suc b) a) [
  | yes h ↦ f h
  | no h ↦ elim (dec_le (suc a) b) [
    | yes l ↦ clash _ e (larger-less a b rest l)
    | no l ↦ (let same : a ≡ b = omega arith in g same (sym (larger-same a b rest same) ∙ e))
  ]
]

larger-trans : (a b d : ℕ) (r s q : Bool) → larger a b r ≡ true → larger b d s ≡ true → (r ≡ true → s ≡ true → q ≡ true) → larger a d q ≡ true
larger-trans a b d r s q e g rest =
    larger-cases a b r e
    (λ h. larger-cases b d s g (λ l. larger-more a d q (omega arith)) (λ l _. larger-more a d q (omega arith)))
    (λ h x. larger-cases b d s g (λ l. larger-more a d q (omega arith)) (λ l y. larger-same a d q (h ∙ l) ∙ rest x y))

smaller-trans : (a b d : ℕ) (r s q : Bool) → smaller a b r ≡ true → smaller b d s ≡ true → (r ≡ true → s ≡ true → q ≡ true) → smaller a d q ≡ true
unfolding smaller
smaller-trans a b d r s q e g rest =
    larger-cases b a r e
    (λ h. larger-cases d b s g (λ l. larger-more d a q (omega arith)) (λ l _. larger-more d a q (omega arith)))
    (λ h x. larger-cases d b s g (λ l. larger-more d a q (omega arith)) (λ l y. larger-same d a q (l ∙ h) ∙ rest x y))

module _ (c t : List ℕ) (f : Fault) where
  -- ---- the six criteria
  better-trans : (u i v j w l : ℕ) → better c t f u i v j ≡ true → better c t f v j w l ≡ true → better c t f u i w l ≡ true
  unfolding better
  better-trans u i v j w l e g =
      larger-trans (nout c t f u) (nout c t f v) (nout c t f w) _ _ _ e g (λ e g.
      smaller-trans (nsv c t f u) (nsv c t f v) (nsv c t f w) _ _ _ e g (λ e g.
      larger-trans (smaller_extra c t f u i) (smaller_extra c t f v j) (smaller_extra c t f w l) _ _ _ e g (λ e g.
      larger-trans (larger_extra c t f u i) (larger_extra c t f v j) (larger_extra c t f w l) _ _ _ e g (λ e g.
      smaller-trans u v w _ _ _ e g (λ e g.
      smaller-trans i j l _ _ _ e g (λ e _. e))))))

  better-self : (u i : ℕ) → better c t f u i u i ≡ false
  unfolding better smaller
  better-self u i =
      larger-same (nout c t f u) (nout c t f u) _ refl ∙ larger-same (nsv c t f u) (nsv c t f u) _ refl
      ∙ larger-same (smaller_extra c t f u i) (smaller_extra c t f u i) _ refl ∙ larger-same (larger_extra c t f u i) (larger_extra c t f u i) _ refl
      ∙ larger-same u u _ refl ∙ larger-same i i _ refl

  -- ---- the scan: of the pairs seen, none that can be taken is better than the best so far
  Beaten : List (ℕ × ℕ) → Option (ℕ × ℕ) → ℕ → ℕ → Type 0
  Beaten pairs none v j = takes c t f pairs v j ≡ false
  Beaten pairs (some q) v j = takes c t f pairs v j ≡ true → better c t f v j q.0 q.1 ≡ false

  best_of-keeps : (pairs : List (ℕ × ℕ)) (o : Option (ℕ × ℕ)) (u i v j : ℕ) → Beaten pairs o v j → Beaten pairs (best_of c t f pairs o u i) v j
  unfolding best_of Beaten
  best_of-keeps pairs none u i v j h =
      cond_cases (λ (o : Option (ℕ × ℕ)). Beaten pairs o v j) (takes c t f pairs u i) _ none (λ _ g. clash _ g h) (λ _. h)
  best_of-keeps pairs (some q) u i v j h =
      cond_cases (λ (o : Option (ℕ × ℕ)). Beaten pairs o v j) _ (some (u, i)) _
      (λ e g. is_false _ (λ b. clash _ (better-trans v j u i q.0 q.1 b (and_right (takes c t f pairs u i) _ e)) (h g)))
      (λ _. h)

  best_of_beats : (pairs : List (ℕ × ℕ)) (o : Option (ℕ × ℕ)) (u i : ℕ) → Beaten pairs (best_of c t f pairs o u i) u i
  unfolding best_of Beaten
  best_of_beats pairs none u i =
      cond_cases (λ (o : Option (ℕ × ℕ)). Beaten pairs o u i) _ _ none (λ _ _. better-self u i) (λ e. e)
  best_of_beats pairs (some q) u i =
      cond_cases (λ (o : Option (ℕ × ℕ)). Beaten pairs o u i) _ _ (some q)
      (λ _ _. better-self u i) (λ e g. and-fails (takes c t f pairs u i) _ e g)

  best_at-keeps : (pairs : List (ℕ × ℕ)) (u i : ℕ) (o : Option (ℕ × ℕ)) (v j : ℕ) → Beaten pairs o v j → Beaten pairs (best_at c t f pairs u i o) v j
  unfolding best_at
  best_at-keeps pairs u zero o v j h = h
  best_at-keeps pairs u (suc i) o v j h = best_of-keeps pairs _ u i v j (best_at-keeps pairs u i o v j h)

  best_at_beats : (pairs : List (ℕ × ℕ)) (u i : ℕ) (o : Option (ℕ × ℕ)) (j : ℕ) → j < i → Beaten pairs (best_at c t f pairs u i o) u j
  unfolding best_at
  best_at_beats pairs u zero o j h = absurd (let z : ⊥ = omega arith in z)
  best_at_beats pairs u (suc i) o j h = elim (dec_le (suc j) i) [
    | yes g ↦ best_of-keeps pairs _ u i u j (best_at_beats pairs u i o j g)
    | no g ↦ (let q : j ≡ i = omega arith in rw q (best_of_beats pairs (best_at c t f pairs u i o) u i))
  ]

  best_below_beats : (pairs : List (ℕ × ℕ)) (u v j : ℕ) → v < u → j < F c → Beaten pairs (best_below c t f pairs u) v j
  unfolding best_below
  best_below_beats pairs zero v j h l = absurd (let z : ⊥ = omega arith in z)
  best_below_beats pairs (suc u) v j h l = elim (dec_le (suc v) u) [
    | yes g ↦ best_at-keeps pairs u (F c) _ v j (best_below_beats pairs u v j g l)
    | no g ↦ (let q : v ≡ u = omega arith in rw q (best_at_beats pairs u (F c) (best_below c t f pairs u) j l))
  ]

  -- no pair that could be taken is better than the next
  pub next_pair-best : (pairs : List (ℕ × ℕ)) (q : ℕ × ℕ) → next_pair c t f pairs ≡ some q → (v j : ℕ) → takes c t f pairs v j ≡ true
      → better c t f v j q.0 q.1 ≡ false
  unfolding next_pair Beaten
  next_pair-best pairs q e v j h =
      let r : Takeable c t f pairs v j = takeable c t f pairs v j h in
      subst (λ (o : Option (ℕ × ℕ)). Beaten pairs o v j) e (best_below_beats pairs (L c t) v j r.unit r.bit) h

  -- there is no next pair only where none could be taken
  pub next_pair-none : (pairs : List (ℕ × ℕ)) → next_pair c t f pairs ≡ none → (v j : ℕ) → takes c t f pairs v j ≡ false
  unfolding next_pair Beaten
  next_pair-none pairs e v j = is_false _ (λ h.
      let r : Takeable c t f pairs v j = takeable c t f pairs v j h in
      clash _ h (subst (λ (o : Option (ℕ × ℕ)). Beaten pairs o v j) e (best_below_beats pairs (L c t) v j r.unit r.bit)))

  -- ---- the next pair can be taken
  Taking : List (ℕ × ℕ) → Option (ℕ × ℕ) → Type 0
  Taking pairs none = Unit {0}
  Taking pairs (some q) = takes c t f pairs q.0 q.1 ≡ true

  best_of_taking : (pairs : List (ℕ × ℕ)) (o : Option (ℕ × ℕ)) (u i : ℕ) → Taking pairs o → Taking pairs (best_of c t f pairs o u i)
  unfolding best_of Taking
  best_of_taking pairs none u i h = cond_cases (Taking pairs) _ (some (u, i)) none (λ e. e) (λ _. tt)
  best_of_taking pairs (some q) u i h =
      cond_cases (Taking pairs) (takes c t f pairs u i && better c t f u i q.0 q.1) _ _
      (λ e. and_left _ _ e) (λ _. h)

  best_at_taking : (pairs : List (ℕ × ℕ)) (u i : ℕ) (o : Option (ℕ × ℕ)) → Taking pairs o → Taking pairs (best_at c t f pairs u i o)
  unfolding best_at
  best_at_taking pairs u zero o h = h
  best_at_taking pairs u (suc i) o h = best_of_taking pairs _ u i (best_at_taking pairs u i o h)

  best_below_taking : (pairs : List (ℕ × ℕ)) (u : ℕ) → Taking pairs (best_below c t f pairs u)
  unfolding best_below Taking
  best_below_taking pairs zero = tt
  best_below_taking pairs (suc u) = best_at_taking pairs u (F c) _ (best_below_taking pairs u)

  pub next_pair-takes : (pairs : List (ℕ × ℕ)) (q : ℕ × ℕ) → next_pair c t f pairs ≡ some q → takes c t f pairs q.0 q.1 ≡ true
  unfolding next_pair Taking
  next_pair-takes pairs q e = subst (Taking pairs) e (best_below_taking pairs (L c t))
