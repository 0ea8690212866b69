-- The counts by verdict, one record more at a time, and the line that seven of them make.
use mathlib.Core.Path.{◌≡◌, refl, sym, ap, ◌∙◌}
use mathlib.Core.List.{List}
use Prim.Native.Nat.{ℕ, ◌+◌, ◌*◌, ◌/◌, ◌≤◌, ◌<◌}
use native.Mathlib.Omega.{arith}
use lib.Dec.{eqb}
use lib.ListN.{length, get_or, set, take, drop, replicate, length-set}
use lib.Seq.{ext_get_or, get_or-set_same, get_or-set_other}
use borrow.Author.Tests.{eq-eqb, ne_eqb}
use Rattle.lists.specs.Scan.{count_below, tabulate}
use Rattle.lists.proofs.Tests.{by-eq}
use Rattle.lists.proofs.Scan.{length-tabulate, get_or_tabulate, count_below-bound, count_below-turn}
use Rattle.model.specs.Grade.{record_at}
use Rattle.model.specs.Listing.{number_line, with_verdict, seven_counts}
use Rattle.decimals.specs.Put.{Below}
use Rattle.decimals.proofs.Laws.{line-short}

module _ (records : List ℕ) where
  -- how many of the first n records have verdict v
  abbrev among : ℕ → ℕ → ℕ
  among n v = count_below (λ j. eqb (record_at records j).verdict v) n

  -- that for each of the 256 values of a byte
  unfoldable pub counts_of : ℕ → List ℕ
  counts_of n = tabulate (among n) 0 256

  pub counts-none : replicate 256 0 ≡ counts_of 0
  unfolding counts_of tabulate count_below
  counts-none = refl

  length-counts : (n : ℕ) → length (counts_of n) ≡ 256
  unfolding counts_of
  length-counts n = length-tabulate _ 0 256

  count_at : (n v : ℕ) → v < 256 → get_or (counts_of n) v 0 ≡ among n v
  unfolding counts_of
  count_at n v h = let here : 0 + v ≡ v = omega arith in get_or_tabulate (among n) 0 256 v 0 h ∙ ap (among n) here

  module _ (n v : ℕ) (counts : List ℕ) (same : counts ≡ counts_of n) (h : v < 256) where
    pub count_low : get_or counts v 0 ≤ n
    count_low = rw (same, count_at n v h) (count_below-bound _ n)

    -- one record more, with verdict v
    pub counts-more : v ≡ get_or records (16 * n) 0 → set counts v (get_or counts v 0 + 1) ≡ counts_of (n + 1)
    unfolding record_at
    counts-more e =
        let long : length counts ≡ 256 = ap length same ∙ length-counts n in
        let more = set counts v (get_or counts v 0 + 1) in
        let verdict : (record_at records n).verdict ≡ v = sym e in
        ext_get_or 0 more (counts_of (n + 1)) (length-set counts v _ ∙ long ∙ sym (length-counts (n + 1))) (λ w l.
        let low : w < 256 = omega (arith, length-set counts v (get_or counts v 0 + 1)) in
        by-eq w v
        (λ q. rw q (get_or-set_same counts v _ 0 (omega arith) ∙ rw (same, count_at n v h, count_at (n + 1) v h, count_below-turn, verdict, eq-eqb v v refl)))
        (λ q. get_or-set_other counts v w _ 0 q ∙ rw (same, count_at n w low, count_at (n + 1) w low, count_below-turn, verdict, ne_eqb v w (λ z. q (sym z))) (omega arith)))

  module _ (counts : List ℕ) where
    pub counts_all : (n : ℕ) → n ≡ length records / 16 → counts ≡ counts_of n → counts ≡ tabulate (λ v. with_verdict records v) 0 256
    unfolding counts_of with_verdict
    counts_all n e same = rw e at same

    -- the line of those for verdicts 1 to 7
    module _ (e : counts ≡ tabulate (λ v. with_verdict records v) 0 256) where
      pub seven : take 7 (drop 1 counts) ≡ seven_counts records
      unfolding seven_counts tabulate
      seven = ap (λ (c : List ℕ). take 7 (drop 1 c)) e

      pub seven-long : length (take 7 (drop 1 counts)) ≡ 7
      unfolding seven_counts
      seven-long = ap length seven ∙ length-tabulate _ 1 7

      -- none of them has more than five digits
      pub total-fits : length records ≤ 65536 → length (number_line (take 7 (drop 1 counts))) ≤ 42
      unfolding seven_counts with_verdict tabulate Below
      total-fits h =
          let low : (v : ℕ) → with_verdict records v < 100000 = λ v. omega (arith, count_below-bound (λ j. eqb (record_at records j).verdict v) (length records / 16)) in
          rw seven (line-short 4 (seven_counts records) (omega arith) (low 1, (low 2, (low 3, (low 4, (low 5, (low 6, (low 7, tt))))))))
