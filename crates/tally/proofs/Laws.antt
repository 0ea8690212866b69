-- Numbers in blocks: those from base on that pass are the lanes in a word, counted and searched after those below base.
use mathlib.Core.Path.{◌≡◌, sym, ap, ◌∙◌}
use mathlib.Core.Bool.{Bool, ◌&&◌}
use mathlib.Core.Option.{none, some}
use Prim.Native.Nat.{ℕ, ◌+◌, ◌<◌, ◌≤◌}
use native.Mathlib.Omega.{arith}
use lib.Dec.{ltb}
use Rattle.lists.specs.Scan.{first, count_below}
use Rattle.lists.proofs.Scan.{first_some, first_part, first-none-more, first-some-more, count_below-part, count_below-add}
use Rattle.lanes.specs.Lane.{bit}

-- a word with those that pass of the numbers base, .. , base + d - 1: all lanes stand for one where d is 64
module _ (P : ℕ → Bool) (base d word : ℕ) (fits : d ≤ 64) (has : (t : ℕ) → t < 64 → bit t word ≡ (ltb t d && P (base + t))) where
  pub count-more : count_below P (base + d) ≡ count_below P base + count_below (λ t. bit t word) 64
  count-more = count_below-add P base d ∙ ap (λ k. count_below P base + k) (sym (count_below-part (λ t. P (base + t)) (λ t. bit t word) d 64 fits has))

  first-here : first (λ t. P (base + t)) d ≡ first (λ t. bit t word) 64
  first-here = sym (first_part (λ t. P (base + t)) (λ t. bit t word) d 64 fits has)

  module _ (before : first P base ≡ none) where
    -- no lane is in the word: the search goes on
    pub none_more : first (λ t. bit t word) 64 ≡ none → first P (base + d) ≡ none
    none_more e = first-none-more P base d before (first-here ∙ e)

    -- the lowest lane in the word: the search ends
    pub first_found : (n lane : ℕ) → base + d ≤ n → first (λ t. bit t word) 64 ≡ some lane → first P n ≡ some (base + lane)
    first_found n lane l e =
        let found : first (λ t. P (base + t)) d ≡ some lane = first-here ∙ e in
        let below : lane < d = (first_some (λ t. P (base + t)) d lane found).below in
        first-some-more P base d before n lane found (omega arith)
