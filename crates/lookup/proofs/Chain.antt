-- The search for a name goes down the chain of the lines that have its hash, and so it meets every line that has the name.
use mathlib.Core.Path.{◌≡◌, refl, sym, ap, ◌∙◌}
use mathlib.Core.Bool.{true, false}
use mathlib.Core.List.{List}
use Rattle.std.specs.Prelude.{Option, Some, None, MatchOption, unwrap_or}
use Rattle.std.proofs.Math.Option.{none, some}
use Prim.Native.Nat.{ℕ, suc, ◌+◌, ◌*◌, ◌-◌, ◌≤◌, ◌<◌}
use native.Mathlib.Decide.{dec_le}
use native.Mathlib.Omega.{arith}
use lib.Dec.{eqb}
use lib.ListN.{get_or}
use borrow.Author.Tests.{eqb-true, eq-eqb}
use Rattle.lists.specs.Scan.{first}
use Rattle.lists.proofs.Tests.{clash, is_false}
use Rattle.lists.proofs.Scan.{first-lowest, first-fails}
use Rattle.bench_text.specs.Text.{bytes_of, same}
use Rattle.bench_text.specs.Bench.{named}
use Rattle.parts.specs.Hash.{hash_of}
use Rattle.bench_text.proofs.Laws.{same-eq}
use Rattle.lookup.specs.Lookup.{last, row_part, line_hash, Held}
use Rattle.lookup.proofs.Last.{last-bound, last-passes, last-skips}
use Rattle.lookup.proofs.Laws.{held-part}

-- `found` is the lowest line from `at` on that has the name, if one has it; the chain goes on at the line before `at`
pub record Sought (text name : List ℕ) (count at : ℕ) (found : Option ℕ) : Type 0 where
  pub has : (n : ℕ) → found ≡ Some n → (n < count) × (named text name n ≡ true)
  pub others : (n : ℕ) → at ≤ n → n < unwrap_or found count → named text name n ≡ false
  pub next : at ≤ count
  pub chained : 0 < at → line_hash text (at - 1) ≡ hash_of name

-- a line that has the name has its hash
named_hash : (text name : List ℕ) (n : ℕ) → named text name n ≡ true → line_hash text n ≡ hash_of name
unfolding named line_hash
named_hash text name n e = ap hash_of (same-eq _ _ e)

-- `at` tells the highest line below n that has the name's hash
record Link (text name : List ℕ) (n at : ℕ) : Type 0 where
  bound : at ≤ n
  chained : 0 < at → line_hash text (at - 1) ≡ hash_of name
  skips : (m : ℕ) → at ≤ m → m < n → named text name m ≡ false

is-link : (text name : List ℕ) (hash n at : ℕ) → hash ≡ hash_of name → at ≡ last (λ m. eqb (line_hash text m) hash) n → Link text name n at
is-link text name hash n at e l = rw l record {
  bound = last-bound _ n;
  chained = λ h. eqb-true _ _ (last-passes (λ m. eqb (line_hash text m) hash) n h) ∙ e;
  skips = λ m h below. is_false _ (λ y. clash _ (eq-eqb (line_hash text m) hash (named_hash text name m y ∙ sym e)) (last-skips (λ m. eqb (line_hash text m) hash) n m below h));
}

module _ {text names heads name : List ℕ} {count : ℕ} (held : Held text names heads count) where
  -- at the beginning of the chain nothing is found
  pub sought-top : (hash : ℕ) → hash ≡ hash_of name → hash < 4096 → Sought text name count (get_or heads hash 0) None
  sought-top hash e h =
      let top = is-link text name hash count _ e (held.tops hash h) in
      record { has = λ n e. absurd (cc); others = top.skips; next = top.bound; chained = top.chained }

  -- the line before `at` is looked at
  module _ {at : ℕ} {found : Option ℕ} (s : Sought text name count at found) (h : 0 < at) where
    low : at - 1 < count
    low = omega (arith, s.next)

    link : Link text name (at - 1) (get_or names (3 * (at - 1) + 2) 0)
    link = is-link text name (line_hash text (at - 1)) (at - 1) _ (s.chained h) (held.links (at - 1) low)

    row_named : same (bytes_of text (row_part names (at - 1))) name ≡ named text name (at - 1)
    unfolding named
    row_named = ap (λ part. same (bytes_of text part) name) (held-part held (at - 1) low)

    -- it has the name
    pub sought-here : same (bytes_of text (row_part names (at - 1))) name ≡ true → Sought text name count (get_or names (3 * (at - 1) + 2) 0) (Some (at - 1))
    sought-here e = record {
      has = λ n is. (let own : n ≡ at - 1 = cc in rw own (low, sym row_named ∙ e));
      others = link.skips;
      next = omega (arith, low, link.bound);
      chained = link.chained;
    }

    -- it has another
    pub sought-on : same (bytes_of text (row_part names (at - 1))) name ≡ false → Sought text name count (get_or names (3 * (at - 1) + 2) 0) found
    sought-on e = record {
      has = s.has;
      others = λ m above below. elim (dec_le at m) [
        | yes g ↦ s.others m g below
        | no g ↦ elim (dec_le (suc m) (at - 1)) [ yes k ↦ link.skips m above k | no k ↦ (let own : m ≡ at - 1 = omega arith in rw own (sym row_named ∙ e)) ]
      ];
      next = omega (arith, low, link.bound);
      chained = link.chained;
    }

    -- the chain goes down
    pub link-below : get_or names (3 * (at - 1) + 2) 0 < at
    link-below = omega (arith, link.bound)

-- at its end
pub sought-all : {text name : List ℕ} {count at : ℕ} (found : Option ℕ) → Sought text name count at found → at ≡ 0
    → MatchOption found (first (λ n. named text name n) count ≡ none) (λ n. first (λ n. named text name n) count ≡ some n)
sought-all {text} {name} {count} None s e = first-fails (λ n. named text name n) count (λ n l. s.others n (omega arith) l)
sought-all {text} {name} {count} (Some n) s e =
    let has = s.has n refl in
    first-lowest (λ n. named text name n) count n record { below = has.0; passes = has.1; fails = λ m l. s.others m (omega arith) l }
