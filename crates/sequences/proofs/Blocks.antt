-- The sequences of a block, added to those counted below its base.
use mathlib.Core.Path.{◌≡◌, refl, sym, ap, ◌∙◌}
use Prim.Native.Nat.{ℕ, ◌+◌, ◌-◌, ◌*◌, ◌%◌, ◌^◌, ◌<◌, ◌≤◌}
use mathlib.Core.Bool.{◌&&◌}
use mathlib.Core.List.{List}
use lib.Dec.{eqb, ltb}
use lib.ListN.{length}
use lib.Pow.{pow_mono}
use native.Mathlib.Omega.{arith}
use native.Mathlib.Decide.{dec_le}
use Rattle.lists.specs.Scan.{count_below}
use Rattle.lists.proofs.Scan.{count_below-bound}
use Rattle.model.specs.Inputs.{Fault}
use Rattle.model.specs.Sequences.{end_of, count_ending, ends_differing, ends_clashing, ends_surviving}
use Rattle.lanes.specs.Lane.{bit}
use Rattle.tally.proofs.Laws.{count-more}
use Rattle.sequences.specs.declared.Ends.{Ends}
use Rattle.sequences.specs.declared.Endings.{Endings}
use Rattle.sequences.specs.Ends.{Ended, Added}

-- 2^m in a word
pub few_sequences : (m : ℕ) → m ≤ 12 → 2 ^ m ≤ 4096
few_sequences m h = pow_mono h

pub shifted : (m : ℕ) → m ≤ 12 → 1 * 2 ^ m % 0x10000000000000000 ≡ 2 ^ m
shifted m h = omega (arith, few_sequences m h)

-- no count is above the number of sequences
pub record Few (n : ℕ) (found : Endings) : Type 0 where
  pub differing : found.differing ≤ n
  pub clashing : found.clashing ≤ n
  pub surviving : found.surviving ≤ n

pub few-more : (n : ℕ) (found found' : Endings) (ends : Ends) → Added found ends found' → Few n found → Few (n + 64) found'
few-more n found found' ends added few = record {
  differing = omega (arith, added.differing, few.differing, count_below-bound (λ t. bit t ends.differing) 64);
  clashing = omega (arith, added.clashing, few.clashing, count_below-bound (λ t. bit t ends.clashing) 64);
  surviving = omega (arith, added.surviving, few.surviving, count_below-bound (λ t. bit t ends.surviving) 64);
}

-- where more sequences follow a block, it had 64
module _ (base size total : ℕ) (before : base < total) (fits : size ≤ 64) (last : size < 64 → size ≡ total - base) where
  pub next_block : (found found' : Endings) (ends : Ends) → base % 64 ≡ 0 → Few base found → Added found ends found' → base + size < total → ((base + size) % 64 ≡ 0) × Few (base + size) found'
  next_block found found' ends whole few added h =
      let full : size ≡ 64 = elim (dec_le 64 size) [
        | yes g ↦ omega arith
        | no g ↦ (let all : size ≡ total - base = last (omega arith) in omega arith)
      ] in
      rw full (omega arith, few-more base found found' ends added few)

module _ (c t : List ℕ) (f : Fault) (pairs : List (ℕ × ℕ)) where
  -- how many sequences below n end so
  pub record CountedBelow (n : ℕ) (found : Endings) : Type 0 where
    pub differing : found.differing ≡ count_below (λ b. eqb (end_of c t f pairs b) ends_differing) n
    pub clashing : found.clashing ≡ count_below (λ b. eqb (end_of c t f pairs b) ends_clashing) n
    pub surviving : found.surviving ≡ count_below (λ b. eqb (end_of c t f pairs b) ends_surviving) n

  pub counted_none : CountedBelow 0 record { differing = 0; clashing = 0; surviving = 0 }
  unfolding count_below
  counted_none = record { differing = refl; clashing = refl; surviving = refl }

  pub counted-more : (base size wanted : ℕ) (found found' : Endings) (ends : Ends) → size ≤ 64 → ((lane : ℕ) → lane < 64 → bit lane wanted ≡ ltb lane size)
      → ((lane : ℕ) → lane < 64 → Ended lane wanted (end_of c t f pairs (base + lane)) ends) → Added found ends found' → CountedBelow base found → CountedBelow (base + size) found'
  counted-more base size wanted found found' ends fits lanes ended added below = record {
    differing = more ends_differing found.differing found'.differing ends.differing (λ lane h. (ended lane h).differing) added.differing below.differing;
    clashing = more ends_clashing found.clashing found'.clashing ends.clashing (λ lane h. (ended lane h).clashing) added.clashing below.clashing;
    surviving = more ends_surviving found.surviving found'.surviving ends.surviving (λ lane h. (ended lane h).surviving) added.surviving below.surviving;
  }
    where
      more : (end was is word : ℕ) → ((lane : ℕ) → lane < 64 → bit lane word ≡ (bit lane wanted && eqb (end_of c t f pairs (base + lane)) end)) → is ≡ was + count_below (λ t. bit t word) 64
          → was ≡ count_below (λ b. eqb (end_of c t f pairs b) end) base → is ≡ count_below (λ b. eqb (end_of c t f pairs b) end) (base + size)
      more end was is word here e old =
          e ∙ ap (λ n. n + count_below (λ t. bit t word) 64) old
          ∙ sym (count-more (λ b. eqb (end_of c t f pairs b) end) base size word fits (λ lane h. here lane h ∙ ap (λ w. w && eqb (end_of c t f pairs (base + lane)) end) (lanes lane h)))

  pub counted-all : (n m : ℕ) (found : Endings) → length pairs ≡ m → n ≡ 2 ^ m → CountedBelow n found
      → (found.differing ≡ count_ending c t f pairs ends_differing) × (found.clashing ≡ count_ending c t f pairs ends_clashing) × (found.surviving ≡ count_ending c t f pairs ends_surviving)
  unfolding count_ending
  counted-all n m found long e all =
      let whole : n ≡ 2 ^ length pairs = e ∙ ap (λ k. 2 ^ k) (sym long) in
      (rw whole at all.differing, rw whole at all.clashing, rw whole at all.surviving)
