-- The lines that pins name, one more; and what a passed check says.
use mathlib.Core.Path.{◌≡◌, refl, sym, ap, ◌∙◌}
use mathlib.Core.Bool.{Bool, true, false, not, cond, ◌&&◌}
use mathlib.Core.List.{List}
use mathlib.Core.Option.{none, some-ne-none}
use mathlib.Mathlib.Data.Option.Basic.{or_else-eq-none}
use Prim.Native.Nat.{ℕ, suc, ◌+◌, ◌<◌, ◌≤◌}
use native.Mathlib.Omega.{arith}
use native.Mathlib.Decide.{dec_le}
use lib.ListN.{get_or, length, set}
use lib.Seq.{get_or-set_same, get_or-set_other}
use Rattle.std.specs.Prelude.{Result}
use Rattle.lists.specs.Scan.{◌else◌}
use Rattle.model.specs.Refusals.{refuse}
use Rattle.model.proofs.Accepted.{refuse-none}
use Rattle.rules.specs.declared.Refusal.{Refusal}
use Rattle.rules.specs.Check.{refusal_of}
use Rattle.rules.proofs.Laws.{HandsOn}
use Rattle.sentences.specs.declared.Sort.{Sort}
use Rattle.sentences.specs.declared.Sort.TheVariants.{Defines, Output, Nothing, Malformed}
use Rattle.parts.specs.declared.Part.{Part}
use Rattle.sentences.specs.declared.Line.{Line}
use Rattle.sentences.specs.Line.{is_malformed, sort_of, Tells}
use Rattle.bench_text.specs.Sentence.{Sentence}
use Rattle.bench_line.specs.Pins.{reach_from, reach_of}
use Rattle.lists.proofs.Tests.{by-test}
use borrow.Author.Tests.{le-leb}
use lib.Dec.{leb}

-- one more line is put behind the first i
pub found-more : (lines : List ℕ) (g : ℕ → ℕ) (i n : ℕ) → i < length lines → n ≡ g i → ((k : ℕ) → k < i → get_or lines k 0 ≡ g k)
    → (k : ℕ) → k < i + 1 → get_or (set lines i n) k 0 ≡ g k
found-more lines g i n room e found k h = elim (dec_le (suc k) i) [
  | yes l ↦ get_or-set_other lines i k n 0 (λ z. (let w : ⊥ = omega arith in w)) ∙ found k l
  | no l ↦ (let here : k ≡ i = omega arith in rw here (get_or-set_same lines i n 0 room ∙ e))
]

-- where none of three rows is broken, the last is not
pub last-passed : (a b c : Bool) (m n k at : ℕ) → (refuse a m at else refuse b n at else refuse c k at) ≡ none → c ≡ false
last-passed a b c m n k at e =
    let behind = ((or_else-eq-none (refuse a m at) (refuse b n at else refuse c k at)).0 e).1 in
    refuse-none c k at ((or_else-eq-none (refuse b n at) (refuse c k at)).0 behind).1

-- what hands on a refusal isn't passed
pub not_passed : {T : Type 0} {r : Result T Refusal} {e : Refusal} → HandsOn r e → refusal_of r ≡ none → ⊥
unfolding refusal_of
not_passed h passed = some-ne-none _ (sym (ap refusal_of h.1) ∙ passed)

pub not-not : (t : Bool) → not (not t) ≡ t
not-not true = refl
not-not false = refl

pub not_malformed : (sort : Sort) → (sort ≡ Malformed → ⊥) → is_malformed sort ≡ false
not_malformed (Defines kind) h = refl
not_malformed Output h = refl
not_malformed Nothing h = refl
not_malformed Malformed h = absurd (h refl)

-- where the lines that a text line may name end, by the number of its sort
reach_as : (sort : Sort) (above count : ℕ) → ((k : ℕ) → sort ≡ Defines k → k ≤ 9) → reach_from sort above count ≡ cond (leb 2 (sort_of sort) && leb (sort_of sort) 9) above count
unfolding reach_from
reach_as (Defines k) above count low = rw (le-leb k 9 (low k refl)) (by-test (leb 2 k) (λ e. rw e) (λ e. rw e))
reach_as Output above count low = refl
reach_as Nothing above count low = refl
reach_as Malformed above count low = refl

pub reach-sort : {parts : List Part} {s : Sentence} {l : Line} → Tells parts s l → (above count : ℕ) → reach_of l above count ≡ cond (leb 2 s.sort && leb s.sort 9) above count
reach-sort {parts} {s} {l} tells above count = rw (← tells.sort) (reach_as l.sort above count tells.kind)
