-- Laws of the print.
use mathlib.Core.Path.{◌≡◌, refl, sym, ap, ◌∙◌}
use mathlib.Core.List.{List, [], ◌++◌, append-nil}
use Prim.Native.Nat.{ℕ, ◌+◌, ◌≤◌}
use native.Mathlib.Omega.{arith}
use lib.ListN.{length, take, length-append}
use lib.Seq.{take_at, length-take-le}
use Rattle.lists.specs.Scan.{gather}
use Rattle.lists.proofs.Scan.{gather-turn}
use Rattle.model.specs.Grade.{eight_fields}
use Rattle.model.specs.Listing.{number_line}
use Rattle.decimals.specs.Put.{Put}
use Rattle.decimals.proofs.Laws.{line-short, put_then}
use Rattle.listing.specs.Print.{fault_fields, FieldsOf, lines_below}

-- what is appended may be written another way
pub put_same : {at r : ℕ} {a b old out : List ℕ} → a ≡ b → Put at r a old out → Put at r b old out
put_same e p = rw e at p

-- nothing is appended yet
pub put-none : (at : ℕ) (old : List ℕ) → Put at at [] old old
put-none at old = record { end = omega arith; bytes = sym (append-nil (take at old)) }

-- ---- the line of a fault
pub fields-long : {fs records groups fields : List ℕ} {j : ℕ} → FieldsOf fs records groups j fields → length fields ≡ 12
unfolding fault_fields eight_fields
fields-long of = ap length of.same

pub line-fits : {fs records groups fields : List ℕ} {j : ℕ} → FieldsOf fs records groups j fields → length (number_line fields) ≤ 72
line-fits {fields = fields} of = omega (arith, fields-long of, line-short 4 fields (omega (arith, fields-long of)) of.small)

-- one line more
pub lines_more : {at r : ℕ} {old mid out : List ℕ} (fs records groups : List ℕ) (j : ℕ) → Put 0 at (lines_below fs records groups j) old mid
    → Put at r (number_line (fault_fields fs records groups j)) mid out → Put 0 r (lines_below fs records groups (j + 1)) old out
unfolding lines_below
lines_more fs records groups j p q = rw (gather-turn (λ j. number_line (fault_fields fs records groups j)) j) (put_then p q)

pub lines_none : (fs records groups old : List ℕ) → Put 0 0 (lines_below fs records groups 0) old old
unfolding lines_below gather
lines_none fs records groups old = put-none 0 old
