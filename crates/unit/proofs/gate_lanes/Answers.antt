use mathlib.Core.Path.{◌≡◌}
use mathlib.Core.List.{[], ◌∷◌}
use Prim.Native.Nat.{ℕ, ◌<◌, ◌≤◌, ◌/◌}
use native.Mathlib.Omega.{arith}
use lib.ListN.{length}
use Rattle.model.specs.Inputs.{pin_count, pin_line}
use Rattle.model.specs.Values.{even_gate}
use Rattle.lanes.specs.Lane.{Shows}
use Rattle.lanes.proofs.Laws.{shows-single}
use Rattle.circuit.proofs.Laws.{is-gate, lower-pin}
use Rattle.unit.proofs.Laws.{pins_1, pins_2, pins_3, pins_4, shows-gate}
use Rattle.unit.proofs.gate_lanes.Goals.{After-pins_of-pins}
use Rattle.unit.proofs.gate_lanes.Goals as goal

-- a gate has a pin
has-pin : (s : After-pins_of-pins) → 1 ≤ pin_count s.args.c.now s.args.n
has-pin s = s.requires.0.pinned _ s.requires.1 (is-gate _ _ _ s.requires.2 s.requires.3)

-- a pin that the gate has names a lower line
low : (s : After-pins_of-pins) (p : ℕ) → 1 ≤ p → p ≤ pin_count s.args.c.now s.args.n → pin_line s.args.c.now s.args.n p < s.args.n
low s p a b = lower-pin _ s.requires.0 _ p s.requires.1 (is-gate _ _ _ s.requires.2 s.requires.3) a b

kinds : (s : After-pins_of-pins) → (2 ≤ s.args.k) × (s.args.k ≤ 9)
kinds s = (s.requires.3, omega (arith, s.requires.0.kinds _ s.requires.1, s.requires.2))

-- the last pin alone
single : (s : After-pins_of-pins) (t z o v : ℕ) → Shows t z o v → Shows t z o (even_gate (s.args.k / 2) (v ∷ []))
single s t z o v h = shows-single t z o v h (s.args.k / 2) (omega (arith, (kinds s).0)) (omega (arith, (kinds s).1))

pub returns-then-pins-lt2 : goal.returns-then-pins-lt2
returns-then-pins-lt2 c = λ t f vs s l e.
    let one : pin_count c.args.c.now c.args.n ≡ 1 = omega (arith, has-pin (goal.at.returns-then-pins-lt2 c).After-pins_of-pins, c.if-pins-lt2.true, c.pins_of-pins.ensures.0) in
    let first = c.pin_lanes-first.ensures t f vs s l (omega (arith, e, low (goal.at.returns-then-pins-lt2 c).After-pins_of-pins 1 (omega arith) (omega arith))) in
    shows-gate t _ _ _ _ _ (pins_1 _ f vs _ one) (c.finish.ensures t _ (single (goal.at.returns-then-pins-lt2 c).After-pins_of-pins t _ _ _ first))

pub returns-then-pins-lt3 : goal.returns-then-pins-lt3
returns-then-pins-lt3 c = λ t f vs s l e.
    let two : pin_count c.args.c.now c.args.n ≡ 2 = omega (arith, c.if-pins-lt2.false, c.if-pins-lt3.true, c.pins_of-pins.ensures.0) in
    let below : (p : ℕ) → 1 ≤ p → p ≤ 2 → pin_line c.args.c.now c.args.n p < length vs = λ p a b. omega (arith, e, low (goal.at.returns-then-pins-lt3 c).After-pins_of-pins p a (omega arith)) in
    let seen1 = c.pin_lanes-first.ensures t f vs s l (below 1 (omega arith) (omega arith)) in
    let seen2 = c.pin_lanes-second.ensures t f vs s l (below 2 (omega arith) (omega arith)) in
    shows-gate t _ _ _ _ _ (pins_2 _ f vs _ two) (c.finish-then-pins-lt3.ensures t _ (c.combine.ensures t _ _ seen1 (single (goal.at.returns-then-pins-lt3 c).After-pins_of-pins t _ _ _ seen2)))

pub returns-then-pins-lt4 : goal.returns-then-pins-lt4
returns-then-pins-lt4 c = λ t f vs s l e.
    let three : pin_count c.args.c.now c.args.n ≡ 3 = omega (arith, c.if-pins-lt3.false, c.if-pins-lt4.true, c.pins_of-pins.ensures.0) in
    let below : (p : ℕ) → 1 ≤ p → p ≤ 3 → pin_line c.args.c.now c.args.n p < length vs = λ p a b. omega (arith, e, low (goal.at.returns-then-pins-lt4 c).After-pins_of-pins p a (omega arith)) in
    let seen1 = c.pin_lanes-first.ensures t f vs s l (below 1 (omega arith) (omega arith)) in
    let seen2 = c.pin_lanes-second.ensures t f vs s l (below 2 (omega arith) (omega arith)) in
    let seen3 = c.pin_lanes-third.ensures t f vs s l (below 3 (omega arith) (omega arith)) in
    shows-gate t _ _ _ _ _ (pins_3 _ f vs _ three)
    (c.finish-then-pins-lt4.ensures t _ (c.combine-then-pins-lt4-2.ensures t _ _ seen1 (c.combine-then-pins-lt4.ensures t _ _ seen2 (single (goal.at.returns-then-pins-lt4 c).After-pins_of-pins t _ _ _ seen3))))

pub returns : goal.returns
returns c = λ t f vs s l e.
    let four : pin_count c.args.c.now c.args.n ≡ 4 = omega (arith, c.if-pins-lt4.false, c.requires.0.few _ c.requires.1, c.pins_of-pins.ensures.0) in
    let below : (p : ℕ) → 1 ≤ p → p ≤ 4 → pin_line c.args.c.now c.args.n p < length vs = λ p a b. omega (arith, e, low (goal.at.returns c).After-pins_of-pins p a (omega arith)) in
    let seen1 = c.pin_lanes-first.ensures t f vs s l (below 1 (omega arith) (omega arith)) in
    let seen2 = c.pin_lanes-second.ensures t f vs s l (below 2 (omega arith) (omega arith)) in
    let seen3 = c.pin_lanes-third.ensures t f vs s l (below 3 (omega arith) (omega arith)) in
    let seen4 = c.pin_lanes-fourth.ensures t f vs s l (below 4 (omega arith) (omega arith)) in
    shows-gate t _ _ _ _ _ (pins_4 _ f vs _ four)
    (c.finish-2.ensures t _
    (c.combine-4.ensures t _ _ seen1 (c.combine-3.ensures t _ _ seen2 (c.combine-2.ensures t _ _ seen3 (single (goal.at.returns c).After-pins_of-pins t _ _ _ seen4)))))
