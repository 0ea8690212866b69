-- The lines of an accepted job: what Group writes is read back as the group of each record.
use mathlib.Core.Path.{◌≡◌, refl, ap, ◌∙◌}
use mathlib.Core.List.{List}
use Prim.Native.Nat.{ℕ, zero, suc, ◌+◌, ◌*◌, ◌/◌, ◌≤◌, ◌<◌}
use native.Mathlib.Omega.{arith}
use lib.ListN.{length}
use Rattle.lists.specs.Scan.{first, gather}
use Rattle.lists.specs.Field.{word16, bytes16, overwritten, row_of}
use Rattle.lists.proofs.Scan.{given-cases, first_some}
use Rattle.lists.proofs.Field.{word_back, word_of_part, rows_written}
use Rattle.model.specs.Inputs.{fault_count}
use Rattle.model.specs.Group.{alike, group_of, group_bytes}
use Rattle.model.specs.Listing.{fault_line, graded_lines}
use Rattle.listing.specs.Print.{fault_fields, lines_below}

-- a group is a position no higher than the record's own
group-low : (vs : List ℕ) (j : ℕ) → group_of vs j ≤ j
unfolding group_of
group-low vs j = given-cases (λ g. g ≤ j) (first (λ a. alike vs a j) j) j (λ m e. omega (arith, (first_some (λ a. alike vs a j) j m e).below)) (λ _. omega arith)

-- the 16-bit numbers of the area that holds the groups
group-read : (vs old area : List ℕ) (j : ℕ) → area ≡ overwritten (group_bytes vs) old → j < length vs / 16 → j < 65536 → word16 area (2 * j) ≡ group_of vs j
unfolding group_bytes row_of word16 bytes16
group-read vs old area j e h low =
    let here : 2 * j ≡ 2 * j + 0 = omega arith in
    let row : row_of 2 area j ≡ bytes16 (group_of vs j) = (rows_written (λ j. bytes16 (group_of vs j)) 2 (length vs / 16) area old (λ u. refl) e).at j h in
    ap (word16 area) here ∙ word_of_part area (2 * j) 2 0 (omega arith) ∙ ap (λ x. word16 x 0) row ∙ word_back (group_of vs j) (omega (arith, group-low vs j))

gather-same : (g h : ℕ → List ℕ) (n : ℕ) → ((j : ℕ) → j < n → g j ≡ h j) → gather g n ≡ gather h n
unfolding gather
gather-same g h zero same = refl
gather-same g h (suc n) same = rw (gather-same g h n (λ j l. same j (omega arith)), same n (omega arith))

-- the lines that are written are the definition's
pub graded-lines : (fs vs old area : List ℕ) (n : ℕ) → n ≡ fault_count fs → length vs ≡ 16 * n → n ≤ 4096 → area ≡ overwritten (group_bytes vs) old → lines_below fs vs area n ≡ graded_lines fs vs
unfolding lines_below graded_lines fault_fields fault_line
graded-lines fs vs old area n count long few e = rw (← count) (gather-same _ _ n (λ j h. rw (group-read vs old area j e (omega arith) (omega arith))))

pub fault-bytes : (fs : List ℕ) (n : ℕ) → n ≡ fault_count fs → 4 * n ≤ length fs
unfolding fault_count
fault-bytes fs n e = omega arith
