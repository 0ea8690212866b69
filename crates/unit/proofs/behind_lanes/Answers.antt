use mathlib.Core.Path.{◌≡◌, refl, sym, ◌∙◌}
use Prim.Native.Nat.{◌<◌}
use native.Mathlib.Omega.{arith}
use Rattle.lists.specs.Scan.{count_below}
use Rattle.model.specs.Inputs.{is_input, is_flip_flop, I, F}
use Rattle.lanes.proofs.Laws.{lane-read}
use Rattle.unit.proofs.Laws.{behind_input, behind-state, behind-gate, input_place, state-place}
use Rattle.unit.proofs.behind_lanes.Goals.{After-from, After-from-in-1}
use Rattle.unit.proofs.behind_lanes.Goals as goal

input-at : (c : After-from) → (c.from.result ≡ count_below (λ m. is_input c.args.c.now m) c.args.n) × (c.from.result < I c.args.c.now)
input-at c = let pre = c.requires in input_place _ _ pre.3 _ _ pre.1 c.from.ensures (sym pre.2 ∙ c.in-0.is)

bit_at : (c : After-from-in-1) → (c.from-in-1.result ≡ count_below (λ m. is_flip_flop c.args.c.now m) c.args.n) × (c.from-in-1.result < F c.args.c.now)
bit_at c = let pre = c.requires in state-place _ _ pre.3 _ _ pre.1 c.from-in-1.ensures (sym pre.2 ∙ c.in-1.is)

pub read-requires : goal.read-requires
read-requires c = omega (arith, (input-at c).1, c.requires.7)

pub read-requires-in-1 : goal.read-requires-in-1
read-requires-in-1 c = omega (arith, (bit_at c).1, c.requires.8)

pub returns-in-0 : goal.returns-in-0
returns-in-0 c = λ t f ins st vs s li ei ls es h eh.
    let pre = c.requires in
    behind_input t _ _ _ f ins st vs _ _ (sym pre.2 ∙ c.in-0.is) (input-at (goal.at.returns-in-0 c).After-from).0 (lane-read t _ ins _ _ _ c.read.ensures refl li (omega (arith, ei, (input-at (goal.at.returns-in-0 c).After-from).1)))

pub returns-in-1 : goal.returns-in-1
returns-in-1 c = λ t f ins st vs s li ei ls es h eh.
    let pre = c.requires in
    behind-state t _ _ _ f ins st vs _ _ (sym pre.2 ∙ c.in-1.is) (bit_at (goal.at.returns-in-1 c).After-from-in-1).0 (lane-read t _ st _ _ _ c.read-in-1.ensures refl ls (omega (arith, es, (bit_at (goal.at.returns-in-1 c).After-from-in-1).1)))

pub returns-in_default : goal.returns-in_default
returns-in_default c = λ t f ins st vs s li ei ls es h eh. behind-gate t _ _ _ f ins st vs _ _ c.requires.2 (omega arith) (c.gate_lanes.ensures t f vs s h (omega arith))
