-- The extras of a pair: their lengths, at unit 0, and as a trial's lanes show them.
use mathlib.Core.Path.{◌≡◌, refl, sym, ap, ◌∙◌}
use mathlib.Core.Bool.{true, false}
use mathlib.Core.List.{List, [], ◌∷◌}
use Prim.Native.Nat.{ℕ, zero, suc, ◌+◌, ◌*◌, ◌-◌, ◌/◌, ◌%◌, ◌<◌, ◌≤◌}
use native.Mathlib.Omega.{arith}
use lib.ListN.{length, set, take, drop, replicate, length-set, length-replicate}
use Rattle.lists.specs.Field.{row_of, Rows}
use Rattle.lists.proofs.Field.{part-taken}
use Rattle.lists.proofs.Tests.{by-test, cond_cases}
use Rattle.model.specs.Inputs.{N, F, O, L, Fault}
use Rattle.model.specs.Values.{X}
use Rattle.model.specs.Simulation.{next_state, plain_state, free_outputs}
use Rattle.model.specs.Implication.{nothing, where_x, implied_at, marked, extra}
use Rattle.model.proofs.Runs.{length-next_state}
use Rattle.model.proofs.ThreeValued.{next_state-three}
use Rattle.lanes.specs.Lane.{bit, Lane}
use Rattle.rows.proofs.Laws.{length-where_x}
use Rattle.unit.specs.Unit.{Stuck}
use Rattle.trial.specs.Trial.{Tried}
use Rattle.trial.proofs.Laws.{length-implied, state-size, extra-shown, implied-three}
use Rattle.take.specs.Take.{with_row, with_pair, LaneExtra}

set-unknown : (n i : ℕ) → set (replicate n X) i X ≡ replicate n X
set-unknown zero i = refl
set-unknown (suc n) zero = refl
set-unknown (suc n) (suc i) = ap (◌∷◌ X) (set-unknown n i)

-- a row of X
pub unknown-row : (c : List ℕ) (size : ℕ) → size ≡ F c → set (replicate size X) 0 2 ≡ nothing c
unfolding nothing
unknown-row c size e = rw e (set-unknown (F c) 0)

pub extra-first : (c t : List ℕ) (f : Fault) (i α : ℕ) → set (replicate (F c) X) i α ≡ extra c t f 0 i α
unfolding extra nothing
extra-first c t f i α = refl

module _ (c t : List ℕ) (f : Fault) where
  pub length-extra : (u i α : ℕ) → length (extra c t f u i α) ≡ F c
  unfolding extra nothing
  length-extra zero i α = length-set (replicate (F c) X) i α ∙ length-replicate (F c) X
  length-extra (suc u) i α = cond_cases (λ (row : List ℕ). length row ≡ F c) (marked c t f (suc u) i α) (replicate (F c) X) _
      (λ _. length-replicate (F c) X)
      (λ _.
      let long : length (plain_state c t f (suc u)) ≡ F c = state-size c t f (suc u) _ refl in
      length-where_x (plain_state c t f (suc u)) (next_state c f (implied_at c t f u i α)) (long ∙ sym (length-next_state c f _)) ∙ long)

  extra-marked : (u i α : ℕ) → 0 < u → marked c t f u i α ≡ true → extra c t f u i α ≡ nothing c
  unfolding extra
  extra-marked zero i α h e = absurd (let z : ⊥ = omega arith in z)
  extra-marked (suc u) i α h e = rw e

-- the part of the table of states that code lends for row u
pub plain-part : (size u : ℕ) (states st : List ℕ) → size * u + size ≤ length states
    → where_x (take size (take (size * u + size - size * u) (drop (size * u) states))) st ≡ where_x (row_of size states u) st
plain-part size u states st fits = ap (λ x. where_x x st) (sym (part-taken states size u u refl fits))

-- the extras of unit 0
pub first_made : (c t : List ℕ) (f : Fault) (size u i m : ℕ) (extras extras' : List ℕ) → size ≡ F c → u ≡ 0
    → extras' ≡ with_pair size m (set (replicate size X) i 0) (set (replicate size X) i 1) extras → extras' ≡ with_pair (F c) m (extra c t f u i 0) (extra c t f u i 1) extras
first_made c t f size u i m extras extras' es eu e = e ∙ rw (es, eu, extra-first c t f i 0, extra-first c t f i 1)

-- ---- the extras of a pair (u, i) that two lanes try
module _ (c t : List ℕ) (f : Fault) (states : List ℕ) (u i marks : ℕ) (after : List ℕ) (binary : f.value < 2) (late : 0 < u) (early : u < L c t)
    (plain : Rows (F c) (L c t) states (λ u. plain_state c t f u)) where
  -- what a lane that tries α says
  pub record Says (lane α : ℕ) : Type 0 where
    pub mark : bit lane marks ≡ marked c t f u i α
    pub shown : marked c t f u i α ≡ false → Lane lane after (next_state c f (implied_at c t f (u - 1) i α))

  -- the row that a lane's extra was written to
  lane_row : (lane α size r : ℕ) (extras extras' : List ℕ) → Says lane α → size ≡ F c → LaneExtra size states u after marks lane r extras extras' → extras' ≡ with_row (F c) r (extra c t f u i α) extras
  lane_row lane α size r extras extras' says es made = by-test (bit lane marks)
      (λ e. made.marked e c es ∙ rw (es, extra-marked c t f u i α late (sym says.mark ∙ e)))
      (λ e.
      let off : marked c t f u i α ≡ false = sym says.mark ∙ e in
      made.shown e (next_state c f (implied_at c t f (u - 1) i α)) (says.shown off) (length-next_state c f _ ∙ sym es)
      (next_state-three c f binary _ (implied-three c t f u i α late off)) ∙ rw (es, plain.at u early, extra-shown c t f u i α late off))

  pub lanes-made : (lane lane' size m : ℕ) (extras extras' extras'' : List ℕ) → Says lane 0 → Says lane' 1 → size ≡ F c → LaneExtra size states u after marks lane (2 * m) extras extras'
      → LaneExtra size states u after marks lane' (2 * m + 1) extras' extras'' → extras'' ≡ with_pair (F c) m (extra c t f u i 0) (extra c t f u i 1) extras
  unfolding with_pair
  lanes-made lane lane' size m extras extras' extras'' low high es made made' =
      lane_row lane' 1 size (2 * m + 1) extras' extras'' high es made'
      ∙ ap (λ x. with_row (F c) (2 * m + 1) (extra c t f u i 1) x) (lane_row lane 0 size (2 * m) extras extras' low es made)

-- ---- a trial of one pair
module _ (c t : List ℕ) (f : Fault) (free states hits masks : List ℕ) (u i marks : ℕ) (words after : List ℕ) (binary : f.value < 2) (late : 0 < u) (early : u < L c t)
    (stuck : (lane : ℕ) → lane < 64 → Stuck lane hits masks f)
    (plain : Rows (F c) (L c t) states (λ u. plain_state c t f u)) (frees : Rows (O c) (L c t) free (λ u. free_outputs c t u)) (tried : Tried c t free states (record { unit = u - 1; bit = i } ∷ []) hits masks marks words)
    (shown : (lane : ℕ) (f : Fault) (vs : List ℕ) → Stuck lane hits masks f → Lane lane words vs → length vs ≡ N c → Lane lane after (next_state c f vs)) where
  said : (α : ℕ) → α < 2 → (bit α marks ≡ marked c t f u i α) × (marked c t f u i α ≡ false → Lane α words (implied_at c t f (u - 1) i α))
  said α few =
      let half : α / 2 ≡ 0 = omega arith in
      let rest : α % 2 ≡ α = omega arith in
      let unit : suc (u - 1) ≡ u = omega arith in
      rw (half, rest, unit) at (tried.lane f stuck plain.at frees.at α (omega arith) (omega arith))

  says : (α : ℕ) → α < 2 → Says c t f states u i marks after binary late early plain α α
  says α few = record { mark = (said α few).0; shown = λ off. shown α f _ (stuck α (omega arith)) ((said α few).1 off) (length-implied c t f _ _ _) }

  pub pair_made : (size m : ℕ) (extras extras' extras'' : List ℕ) → size ≡ F c → LaneExtra size states u after marks 0 (2 * m) extras extras' → LaneExtra size states u after marks 1 (2 * m + 1) extras' extras''
      → extras'' ≡ with_pair (F c) m (extra c t f u i 0) (extra c t f u i 1) extras
  pair_made size m extras extras' extras'' es low high = lanes-made c t f states u i marks after binary late early plain 0 1 size m extras extras' extras'' (says 0 (omega arith)) (says 1 (omega arith)) es low high
