-- One pair of the plan more, once its extras are made: passed over where they touch something, else taken.
use mathlib.Core.Path.{◌≡◌, refl, sym, ◌∙◌}
use mathlib.Core.Bool.{Bool, true, false, ◌||◌}
use mathlib.Core.List.{List}
use Prim.Native.Nat.{ℕ, ◌+◌, ◌*◌, ◌<◌, ◌≤◌}
use lib.ListN.{length, set}
use Rattle.model.specs.Inputs.{F, L, Fault}
use Rattle.model.specs.Implication.{extra}
use Rattle.model.specs.Sequences.{touches, take_next}
use Rattle.sequences.specs.Ends.{Taken}
use Rattle.take.specs.Take.{Prepared, may_take, with_pair, PairMade, Touched}
use Rattle.take.proofs.Tests.{next-passed, next_touched, next-taken}
use Rattle.take.proofs.Taken.{taken_as, taken-kept, taken_more, low-row, high-row}

module _ (c t : List ℕ) (f : Fault) (free states list hits masks : List ℕ) (left u i k m size : ℕ) (pairs : List (ℕ × ℕ)) (times extras : List ℕ)
    (ready : Prepared c t free states list hits masks left f) (room : L c t * F c ≤ length list) (old : Taken c t f pairs m times extras) where
  pub step-passed : may_take m k u (L c t) i (F c) left list ≡ false → Taken c t f (take_next c t f k pairs (u, i)) m times extras
  step-passed e = taken_as c t f pairs _ m times extras (next-passed c t f list left ready.rows ready.above room pairs k m u i old.count e) old

  module _ (extras' : List ℕ) (r : Bool) (fits : F c * (2 * m + 1) + F c ≤ length extras) (es : size ≡ F c) (early : u < L c t) (made : PairMade c t free states hits masks u i m extras extras')
      (touched : Touched size list u times m extras' r) where
    rows : extras' ≡ with_pair (F c) m (extra c t f u i 0) (extra c t f u i 1) extras
    rows = made.rows f ready.stuck ready.plain ready.frees

    kept : Taken c t f pairs m times extras'
    kept = taken-kept c t f pairs m times extras old u i extras' rows fits

    said : r ≡ (touches c t f pairs u (extra c t f u i 0) || touches c t f pairs u (extra c t f u i 1))
    said = touched.is c t f pairs (extra c t f u i 0) (extra c t f u i 1) es kept (rw es (ready.rows.at u early)) (rw es (low-row c t f pairs m times extras old u i extras' rows fits))
        (rw es (high-row c t f pairs m times extras old u i extras' rows fits))

    pub step_touched : r ≡ true → Taken c t f (take_next c t f k pairs (u, i)) m times extras'
    step_touched e = taken_as c t f pairs _ m times extras' (next_touched c t f list left ready.rows ready.above room pairs k m u i old.count (sym said ∙ e)) kept

    pub step-taken : may_take m k u (L c t) i (F c) left list ≡ true → r ≡ false → m < length times → Taken c t f (take_next c t f k pairs (u, i)) (m + 1) (set times m u) extras'
    step-taken h e long = taken_as c t f _ _ (m + 1) (set times m u) extras' (next-taken c t f list left ready.rows ready.above room pairs k m u i old.count h (sym said ∙ e))
        (taken_more c t f pairs m times extras old u i extras' rows fits (set times m u) refl long)
