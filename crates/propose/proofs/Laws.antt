-- Sizes, no records, and a fault that stage 1 decides.
use mathlib.Core.Path.{◌≡◌, refl, sym}
use mathlib.Core.List.{List, []}
use mathlib.Core.Option.{Option, none, some, or_else}
use Prim.Native.Nat.{ℕ, ◌+◌, ◌*◌, ◌≤◌}
use native.Mathlib.Omega.{arith}
use native.Mathlib.Nat.{mul-le-mul_left, mul_assoc}
use Rattle.lists.proofs.Field.{overwritten-none}
use Rattle.model.specs.Inputs.{F, O, L, Fault}
use Rattle.model.specs.Refusals.{work_bytes}
use Rattle.model.specs.Grade.{Verdict, stage1, before_stage5}
use Rattle.model.specs.Choose.{plan_bytes, chosen}
use Rattle.model.proofs.Choose.{chosen-decided}
use Rattle.pick.specs.Pick.{Records}

-- number 13 asks for room enough for an entry a pair
pub table-size : (c t : List ℕ) (work : ℕ) → work_bytes c t ≤ work → 4 * (L c t * F c) ≤ work
unfolding work_bytes
table-size c t work h =
    let four : L c t * (F c * 4) ≤ L c t * (4 * O c + 16 * F c + 8) = mul-le-mul_left (L c t) (omega arith) in
    omega (arith, mul_assoc (L c t) (F c) 4)

-- no records
pub records-none : (pairs : List (ℕ × ℕ)) (area : List ℕ) → pairs ≡ [] → Records pairs area area 0
unfolding plan_bytes
records-none pairs area e = record { count = rw e; area = rw e (sym (overwritten-none area)) }

-- the same pairs by another name
pub records_as : {pairs pairs' : List (ℕ × ℕ)} {old new : List ℕ} {r : ℕ} → pairs' ≡ pairs → Records pairs old new r → Records pairs' old new r
records_as e records = rw e records

-- ---- a fault that stage 1 decides
pub chosen-first : (c t : List ℕ) (f : Fault) (k : ℕ) → (stage1 c t f ≡ none → ⊥) → chosen c t f k ≡ []
chosen-first c t f k met = decided (stage1 c t f) refl
  where
    decided : (o : Option Verdict) → stage1 c t f ≡ o → chosen c t f k ≡ []
    decided none e = absurd (met e)
    decided (some v) e = chosen-decided c t f k v (unfold before_stage5 or_else in rw e)
