use mathlib.Core.Path.{◌≡◌, refl}
use mathlib.Core.Bool.{false, cond}
use mathlib.Core.List.{List}
use Prim.Native.Nat.{ℕ, ◌≤◌}
use native.Mathlib.Omega.{arith}
use native.Mathlib.Decide.{dec_le}
use lib.ListN.{length, get_or}
use Rattle.model.specs.Inputs.{N, pin_count, Fault}
use Rattle.model.specs.Values.{X, invert_if, inverts, has_conflict}
use Rattle.model.specs.Simulation.{is_stuck}
use Rattle.lanes.specs.Lane.{Holds, Follows}
use Rattle.lanes.proofs.Laws.{shows-x, lane-read}
use Rattle.circuit.proofs.Laws.{is-gate}
use Rattle.unit.specs.Unit.{StuckAt}
use Rattle.imply.specs.Steps.{PinsGiven, SteppedDown}
use Rattle.imply.proofs.Pins.{stuck-known, step_down}
use Rattle.imply.proofs.down_gate.Goals.{After-pins_of-pins, Start}
use Rattle.imply.proofs.down_gate.Goals as goal

-- a gate with one pin is a buffer or inverts
alone : (s : Start) → pin_count s.args.c.now s.args.n ≡ 1 → s.args.k ≤ 3
alone s one = elim (dec_le s.args.k 3) [
  | yes h ↦ h
  | no h ↦ absurd (let two = s.requires.circuit.double _ s.requires.line (omega (arith, s.requires.kind)) in let z : ⊥ = omega (arith, two, one) in z)
]

-- the line's value, X where it is stuck
value : (c : After-pins_of-pins) → let s = c.args in
    (t : ℕ) (f : Fault) (vs : List ℕ) → StuckAt t s.masks.now s.row f s.n → length vs ≡ N s.c.now → Follows t s.words.now vs
    → (a : ℕ) → (has_conflict vs ≡ false → cond (is_stuck f s.n 0) X (get_or vs s.n X) ≡ a) → has_conflict vs ≡ false → Holds t c.finish-v.result (invert_if (inverts s.k) a)
value c t f vs stuck long old a is e =
    let held = c.seen_at-stuck.ensures t f _ X stuck (shows-x t X (omega arith)) in
    let line = lane-read t _ vs _ _ _ c.read.ensures refl (old.holds e) (omega (arith, long, c.requires.line)) in
    rw (← (is e)) (c.finish-v.ensures t _ (rw (stuck-known f c.args.n 0 stuck.binary) at (c.unless.ensures t _ _ line held)))

-- whichever function gives the pins
arm : (c : After-pins_of-pins) (words' : List ℕ) → let s = c.args in
    PinsGiven s.c.now s.masks.now s.words.now words' s.n s.k s.row c.finish-v.result → SteppedDown s.c.now s.masks.now s.words.now words' s.n s.row
arm c words' given = record {
  lane = λ t f vs stuck long old.
      step_down t words' _ f vs _ (is-gate _ _ _ c.requires.kind c.requires.gate) (λ a few is. given.lane t f vs a stuck long few (value c t f vs stuck long old a is) old);
}

pub down_pins-requires-in-0-to-1 : goal.down_pins-requires-in-0-to-1
down_pins-requires-in-0-to-1 c =
    let some = c.requires.circuit.pinned _ c.requires.line (is-gate _ _ _ c.requires.kind c.requires.gate) in
    let one : pin_count c.args.c.now c.args.n ≡ 1 = omega (arith, c.pins_of-pins.ensures.0, some) in
    (c.requires, one, λ _. alone (goal.at.down_pins-requires-in-0-to-1 c).Start one)

pub returns-in-0-to-1 : goal.returns-in-0-to-1
returns-in-0-to-1 c = arm (goal.at.returns-in-0-to-1 c).After-pins_of-pins _ c.down_pins-in-0-to-1.ensures

pub returns-in-2 : goal.returns-in-2
returns-in-2 c = arm (goal.at.returns-in-2 c).After-pins_of-pins _ c.down_pins.ensures

pub returns-in-3 : goal.returns-in-3
returns-in-3 c = arm (goal.at.returns-in-3 c).After-pins_of-pins _ c.down_pins-in-3.ensures

pub returns-in_default : goal.returns-in_default
returns-in_default c = arm (goal.at.returns-in_default c).After-pins_of-pins _ c.down_pins-in_default.ensures
