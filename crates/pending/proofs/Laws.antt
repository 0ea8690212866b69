-- What one place, and one unit, adds.
use mathlib.Core.Path.{◌≡◌, refl, sym, ap, ◌∙◌}
use Prim.Native.Nat.{ℕ, zero, suc, ◌+◌, ◌*◌, ◌-◌, ◌≤◌, ◌<◌}
use mathlib.Core.Bool.{Bool, true, false, cond, ◌&&◌}
use mathlib.Core.List.{List, [], ◌∷◌}
use lib.ListN.{get_or, length, set, take, drop}
use lib.Seq.{get_or-set_same, get_or-set_other}
use lib.Dec.{eqb}
use mir.Val.{bool_byte}
use native.Mathlib.Omega.{arith}
use native.Mathlib.Nat.{mul-suc}
use Rattle.lists.specs.Field.{row_of}
use Rattle.lists.proofs.Tests.{by-eq}
use Rattle.lists.proofs.Field.{part-row, length-row}
use Rattle.model.specs.Inputs.{L, Fault}
use Rattle.model.specs.Values.{X, is_specified}
use Rattle.model.specs.Simulation.{plain_outputs, free_outputs}
use Rattle.model.specs.Expansion.{count_open, nout}
use Rattle.model.proofs.Pending.{nout-step, nout-end}
use Rattle.pending.specs.Pending.{Responses}

-- ---- the loop over the places
-- a test's number
pub test-number : (b : Bool) → bool_byte b ≡ cond b 1 0
test-number true = refl
test-number false = refl

pub number-most : (b : Bool) → bool_byte b ≤ 1
number-most true = omega arith
number-most false = omega arith

pub open_none : (free faulty : List ℕ) → 0 ≡ count_open (take 0 free) (take 0 faulty)
unfolding count_open
open_none free faulty = refl

pub open_more : (free faulty : List ℕ) (places opened here : ℕ) → places < length free → places < length faulty
    → here ≡ cond (is_specified (get_or free places 0) && eqb (get_or faulty places 0) X) 1 0
    → opened ≡ count_open (take places free) (take places faulty) → opened + here ≡ count_open (take (places + 1) free) (take (places + 1) faulty)
unfolding count_open
open_more [] faulty places opened here h k e p = absurd (let z : ⊥ = omega arith in z)
open_more (a ∷ free) [] places opened here h k e p = absurd (let z : ⊥ = omega arith in z)
open_more (a ∷ free) (b ∷ faulty) zero opened here h k e p = rw (e, p) (omega arith)
open_more (a ∷ free) (b ∷ faulty) (suc places) opened here h k e p =
    let next : suc places + 1 ≡ suc (places + 1) = omega arith in
    let tail : count_open (take places free) (take places faulty) + here ≡ count_open (take (places + 1) free) (take (places + 1) faulty) =
    open_more free faulty places _ here (omega arith) (omega arith) e refl in
    rw next (omega (arith, p, tail))

-- ---- the loop over the units
-- the row of unit u, as it is lent: it ends where the next begins
module _ (outputs u next to : ℕ) (after : next ≡ suc u) (ends : to ≡ outputs * next) where
  pub row_ends : to ≡ outputs * u + outputs
  row_ends = ends ∙ rw after (omega (arith, mul-suc outputs u))

  pub row-of : (table : List ℕ) → take (to - outputs * u) (drop (outputs * u) table) ≡ row_of outputs table u
  row-of table = rw row_ends (part-row table outputs outputs u refl)

  pub row-length : (table : List ℕ) → to ≤ length table → length (take (to - outputs * u) (drop (outputs * u) table)) ≡ outputs
  row-length table h = ap length (row-of table) ∙ length-row outputs u table (omega (arith, row_ends))

-- Nout of unit u, and in the table that of every unit from u on
pub record From (units : ℕ) (table : List ℕ) (u later : ℕ) (c t : List ℕ) (f : Fault) : Type 0 where
  pub here : later ≡ nout c t f u
  pub at : (v : ℕ) → u ≤ v → v ≤ units → get_or table v 0 ≡ nout c t f v

module _ {c t : List ℕ} {f : Fault} (units outputs : ℕ) (free faulty : List ℕ) (given : Responses units outputs free faulty c t f) where
  pub from_end : (table : List ℕ) → units < length table → From units (set table units 0) units 0 c t f
  from_end table h =
      let none : nout c t f units ≡ 0 = ap (nout c t f) given.all ∙ nout-end c t f in
      record { here = sym none; at = λ v p q. let e : v ≡ units = omega arith in rw e (get_or-set_same table units 0 0 h ∙ sym none) }

  pub from_more : (table : List ℕ) (u next to later added : ℕ) → next ≡ suc u → to ≡ outputs * next → u < units → u < length table → From units table next later c t f
      → added ≡ count_open (take (to - outputs * u) (drop (outputs * u) free)) (take (to - outputs * u) (drop (outputs * u) faulty))
      → From units (set table u (later + added)) u (later + added) c t f
  from_more table u next to later added n ends h room done e =
      let rows : added ≡ count_open (free_outputs c t u) (plain_outputs c t f u) =
      e ∙ rw (row-of outputs u next to n ends free, row-of outputs u next to n ends faulty, given.free_rows.at u h, given.faulty_rows.at u h) in
      let before : later ≡ nout c t f (suc u) = rw (← n) done.here in
      let all : later + added ≡ nout c t f u = omega (arith, nout-step c t f u (rw (← given.all) h)) in
      record {
        here = all;
        at = λ v p q. by-eq v u
            (λ e. rw e (get_or-set_same table u (later + added) 0 room ∙ all))
            (λ e. get_or-set_other table u v (later + added) 0 e ∙ done.at v (omega arith) q);
      }

-- ---- Nout never grows from a unit to the next
pub nout-later : (c t : List ℕ) (f : Fault) (u k : ℕ) → u + k < L c t → nout c t f u ≡ 0 → nout c t f (u + k) ≡ 0
nout-later c t f u zero h e = let same : u + 0 ≡ u = omega arith in rw same e
nout-later c t f u (suc k) h e =
    let more : u + suc k ≡ suc (u + k) = omega arith in
    let before : nout c t f (u + k) ≡ 0 = nout-later c t f u k (omega arith) e in
    rw more (omega (arith, nout-step c t f (u + k) (omega arith)))
