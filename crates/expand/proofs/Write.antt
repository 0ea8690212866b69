-- A row that is given an extra.
use mathlib.Core.Path.{◌≡◌, refl, sym, ◌∙◌}
use mathlib.Core.Bool.{Bool}
use mathlib.Core.List.{List, ◌++◌, append-nil}
use Prim.Native.Nat.{ℕ, ◌+◌, ◌*◌, ◌-◌, ◌≤◌}
use native.Mathlib.Omega.{arith}
use lib.ListN.{length, take, drop, length-drop, drop_of_length-le}
use lib.Seq.{take_at}
use Rattle.lists.specs.Field.{overwritten, row_of}
use Rattle.lists.proofs.Field.{lent, part-taken, length-row}
use Rattle.model.specs.Accepted.{ThreeValued}
use Rattle.model.specs.Values.{give_row, some_oppose}
use Rattle.model.specs.Implication.{where_x}
use Rattle.rows.proofs.Laws.{length-where_x}

-- ---- a row that is lent
module _ (size u : ℕ) (list : List ℕ) (fits : size * u + size ≤ length list) where
  pub lent_row : take size (take (length list - size * u) (drop (size * u) list)) ≡ row_of size list u
  unfolding row_of
  lent_row = rw (lent list (size * u))

  pub lent-over : (end new : List ℕ) → end ≡ overwritten new (take (length list - size * u) (drop (size * u) list))
      → take (size * u) list ++ (end ++ drop (length list - size * u) (drop (size * u) list)) ≡ take (size * u) list ++ overwritten new (drop (size * u) list)
  lent-over end new e =
      rw (drop_of_length-le (drop (size * u) list) {i = length list - size * u} (rw length-drop (omega arith)), append-nil end, e, lent list (size * u))

-- the extra that was made in a row
pub extra-made : (size u : ℕ) (states st row row' : List ℕ) → size * u + size ≤ length states → length st ≡ size
    → row' ≡ overwritten (where_x (take size (take (size * u + size - size * u) (drop (size * u) states))) st) row → take size row' ≡ where_x (row_of size states u) st
unfolding overwritten
extra-made size u states st row row' fits long e =
    let part = part-taken states size u u refl fits in
    let all : length (row_of size states u) ≡ size = length-row size u states fits in
    rw (e, ← part) (take_at (where_x (row_of size states u) st) _ size (length-where_x (row_of size states u) st (all ∙ sym long) ∙ all))

-- the same of equal rows
pub opposes_as : (r : Bool) (a a' b b' : List ℕ) → r ≡ some_oppose a b → a ≡ a' → b ≡ b' → some_oppose a' b' ≡ r
opposes_as r a a' b b' e ea eb = sym (e ∙ rw (ea, eb))

pub given_as : (end part a a' b b' : List ℕ) → end ≡ overwritten (give_row a b) part → a ≡ a' → b ≡ b' → end ≡ overwritten (give_row a' b') part
given_as end part a a' b b' e ea eb = e ∙ rw (ea, eb)

pub three_as : (a a' : List ℕ) → a ≡ a' → ThreeValued a' → ThreeValued a
three_as a a' e h = rw e h
