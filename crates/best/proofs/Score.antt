-- A pair is better than one before it where its score is larger: each criterion is a digit of the score, and the last two, the lowest unit and
-- the lowest flip-flop, speak for the earlier pair.
use mathlib.Core.Path.{◌≡◌, refl, sym, ap, ◌∙◌}
use Prim.Native.Nat.{ℕ, suc, ◌+◌, ◌*◌, ◌-◌, ◌<◌, ◌≤◌}
use mathlib.Core.Bool.{Bool, true, false, cond}
use mathlib.Core.List.{List}
use lib.Dec.{ltb}
use native.Mathlib.Omega.{arith}
use native.Mathlib.Decide.{dec_le}
use native.Mathlib.Nat.{suc-mul, mul-le-mul_right}
use borrow.Author.Tests.{ltb-true, ltb-false, lt-ltb, le-ltb}
use Rattle.lists.proofs.Tests.{by-test}
use Rattle.model.proofs.Best.{larger-less, larger-same}
use Rattle.model.specs.Inputs.{F, Fault}
use Rattle.model.specs.Expansion.{nsv, nout}
use Rattle.model.specs.Choose.{larger, smaller, smaller_extra, larger_extra, better}
use Rattle.best.specs.Weights.{merit}
use Rattle.best.specs.Best.{score_of, pair_score}
use Rattle.best.proofs.Bounds.{nsv-bound, smaller-bound, larger-bound}

-- ---- one criterion
same-order : (a b x y : ℕ) → (a < b → x < y) → (x < y → a < b) → ltb a b ≡ ltb x y
same-order a b x y f g = by-test (ltb a b)
    (λ e. e ∙ sym (lt-ltb x y (f (ltb-true a b e))))
    (λ e. e ∙ sym (le-ltb x y (elim (dec_le (suc x) y) [
      | yes h ↦ absurd (let l : a < b = g h in let m : b ≤ a = ltb-false a b e in let z : ⊥ = omega arith in z)
      | no h ↦ (let m : y ≤ x = omega arith in m)
    ])))

-- a number in front of one below B
digit : (B a b x y : ℕ) → x < B → y < B → larger a b (ltb y x) ≡ ltb (b * B + y) (a * B + x)
unfolding larger
digit B a b x y h k = elim (dec_le (suc b) a) [
  | yes g ↦ (
      let up : suc b * B ≤ a * B = mul-le-mul_right B g in
      rw (lt-ltb b a g) (sym (lt-ltb (b * B + y) (a * B + x) (omega (arith, suc-mul b B)))))
  | no g ↦ elim (dec_le (suc a) b) [
    | yes l ↦ (
        let up : suc a * B ≤ b * B = mul-le-mul_right B l in
        rw (le-ltb b a (omega arith), lt-ltb a b l) (sym (le-ltb (b * B + y) (a * B + x) (omega (arith, suc-mul a B)))))
    | no l ↦ (
        let same : a ≡ b = omega arith in
        larger-same a b (ltb y x) same ∙ same-order y x (b * B + y) (a * B + x) (λ m. rw same (omega arith)) (λ m. let z : b * B + y < b * B + x = rw same at m in omega arith))
  ]
]

-- the last digit
last : (a b : ℕ) (rest : Bool) → rest ≡ false → larger a b rest ≡ ltb b a
unfolding larger
last a b rest e = rw e (by-test (ltb b a) (λ g. rw g) (λ g. rw g (none (ltb a b))))
  where
    none : (t : Bool) → cond t false false ≡ false
    none true = refl
    none false = refl

-- the smaller of two numbers up to 256, as the larger of what is left to 256
left_over : (a b : ℕ) (rest : Bool) → a ≤ 256 → b ≤ 256 → smaller a b rest ≡ larger (256 - a) (256 - b) rest
unfolding smaller larger
left_over a b rest h k =
    rw (same-order a b (256 - b) (256 - a) (λ l. omega arith) (λ l. omega arith), same-order b a (256 - a) (256 - b) (λ l. omega arith) (λ l. omega arith))

-- ---- the score
module _ (c t : List ℕ) (f : Fault) where
  pub score-digits : (u i : ℕ)
      → pair_score c t f u i ≡ suc (nout c t f u * 134217728 + ((256 - nsv c t f u) * 262144 + (smaller_extra c t f u i * 512 + larger_extra c t f u i)))
  unfolding pair_score score_of merit
  score-digits u i = omega arith

  -- the last two criteria
  stays : (u i v j : ℕ) → v ≤ u → (v ≡ u → j < i) → smaller u v (smaller i j false) ≡ false
  unfolding smaller
  stays u i v j early earlier = elim (dec_le (suc v) u) [
    | yes h ↦ larger-less v u _ h
    | no h ↦ (let same : v ≡ u = omega arith in larger-same v u _ same ∙ larger-less j i false (earlier same))
  ]

  pub better-score : (u i v j : ℕ) → F c ≤ 256 → v ≤ u → (v ≡ u → j < i) → better c t f u i v j ≡ ltb (pair_score c t f v j) (pair_score c t f u i)
  unfolding better
  better-score u i v j few early earlier =
      let su = smaller_extra c t f u i in
      let sv = smaller_extra c t f v j in
      let lu = larger_extra c t f u i in
      let lv = larger_extra c t f v j in
      let nu = nsv c t f u in
      let nv = nsv c t f v in
      let ubs : su ≤ F c = smaller-bound c t f u i in
      let vbs : sv ≤ F c = smaller-bound c t f v j in
      let ubl : lu ≤ F c = larger-bound c t f u i in
      let vbl : lv ≤ F c = larger-bound c t f v j in
      let ubn : nu ≤ F c = nsv-bound c t f u in
      let vbn : nv ≤ F c = nsv-bound c t f v in
      let extras : larger su sv (larger lu lv (smaller u v (smaller i j false))) ≡ ltb (sv * 512 + lv) (su * 512 + lu) =
      ap (larger su sv) (last lu lv _ (stays u i v j early earlier)) ∙ digit 512 su sv lu lv (omega arith) (omega arith) in
      ap (larger (nout c t f u) (nout c t f v))
      (ap (smaller nu nv) extras ∙ left_over nu nv _ (omega arith) (omega arith) ∙ digit 262144 (256 - nu) (256 - nv) (su * 512 + lu) (sv * 512 + lv) (omega arith) (omega arith))
      ∙ digit 134217728 (nout c t f u) (nout c t f v) ((256 - nu) * 262144 + (su * 512 + lu)) ((256 - nv) * 262144 + (sv * 512 + lv)) (omega arith) (omega arith)
      ∙ same-order (nout c t f v * 134217728 + ((256 - nv) * 262144 + (sv * 512 + lv))) (nout c t f u * 134217728 + ((256 - nu) * 262144 + (su * 512 + lu))) (pair_score c t f v j) (pair_score c t f u i)
      (λ h. omega (arith, score-digits u i, score-digits v j)) (λ h. omega (arith, score-digits u i, score-digits v j))
