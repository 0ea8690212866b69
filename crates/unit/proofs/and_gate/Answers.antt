use mathlib.Core.Path.{◌≡◌, refl}
use mathlib.Core.Bool.{Bool, true, false}
use mathlib.Core.List.{List}
use Prim.Native.Nat.{ℕ, ◌/◌, ◌≤◌}
use native.Mathlib.Omega.{arith}
use borrow.Author.Tests.{eq-eqb, ne_eqb}
use lib.ListN.{length}
use Rattle.model.specs.Inputs.{kind, pin_count, Fault}
use Rattle.model.specs.Values.{invert, and_pair, invert_if}
use Rattle.model.specs.Simulation.{is_stuck, pin_seen, pins_seen}
use Rattle.lanes.specs.Lane.{Holds, Lane}
use Rattle.circuit.specs.Table.{pin_read, is_or}
use Rattle.circuit.proofs.Laws.{is-gate}
use Rattle.unit.specs.Unit.{pin_tabled}
use Rattle.unit.proofs.Laws.{shows-gate}
use Rattle.unit.proofs.Plain.{shows-four, shows_low, invert-pins, shows-or-gate}
use Rattle.unit.proofs.and_gate.Goals.{After-and-2}
use Rattle.unit.proofs.and_gate.Goals as goal

-- of kinds 6 and 7 the pins are read inverted
is-no-or : (c : List ℕ) (n : ℕ) {k : ℕ} → k ≡ kind c n → k ≤ 5 → is_or c n ≡ false
unfolding is_or
is-no-or c n e h = ne_eqb (kind c n / 2) 3 (λ q. (let z : ⊥ = omega (arith, e, h, q) in z))

is-or : (c : List ℕ) (n : ℕ) {k : ℕ} → k ≡ kind c n → 6 ≤ k → k ≤ 7 → is_or c n ≡ true
unfolding is_or
is-or c n e h m = eq-eqb (kind c n / 2) 3 (omega (arith, e, h, m))

-- the ANDs of two pins each that are read, inverted for OR
pairs : (c : After-and-2) → (t : ℕ) (f : Fault) (vs : List ℕ) (turned : Bool) → is_or c.args.c.now c.args.n ≡ turned → ((pin : ℕ) → is_stuck f c.args.n pin ≡ false)
    → Lane t c.args.words.now vs → c.args.n ≤ length vs
    → let w : ℕ → ℕ = λ p. invert_if turned (pin_seen c.args.c.now f vs c.args.n (pin_read (pin_count c.args.c.now c.args.n) p)) in
    Holds t c.and.result (and_pair (w 1) (w 2)) × Holds t c.and-2.result (and_pair (w 3) (w 4))
unfolding pin_tabled
pairs c t f vs turned or free l e =
    rw (← or) (
      c.and.ensures t _ _ (c.free_pin-first.ensures t f vs free l e) (c.free_pin-second.ensures t f vs free l e),
      c.and-2.ensures t _ _ (c.free_pin-third.ensures t f vs free l e) (c.free_pin-fourth.ensures t f vs free l e),
    )

pub returns-in-0-to-5 : goal.returns-in-0-to-5
unfolding invert_if pins_seen
returns-in-0-to-5 c = λ t f vs free l e.
    let pre = c.requires in
    let some = pre.0.pinned _ pre.1 (is-gate _ _ _ pre.2 pre.3) in
    let few = pre.0.few _ pre.1 in
    let low : c.args.k ≤ 5 = omega arith in
    let two = pairs (goal.at.returns-in-0-to-5 c).After-and-2 t f vs false (is-no-or _ _ pre.2 low) free l e in
    shows-gate t _ _ _ _ _ refl
    (c.finish.ensures t _
    (shows_low t _ _ _ _ (pin_seen c.args.c.now f vs c.args.n) pre.3 low
    (λ k. omega (arith, some, pre.0.single _ pre.1 (omega (arith, pre.2, k))))
    (shows-four t _ _ (pin_seen c.args.c.now f vs c.args.n) _ some few (c.and-all.ensures t _ _ two.0 two.1))))

pub returns-in_default : goal.returns-in_default
unfolding invert_if pins_seen
returns-in_default c = λ t f vs free l e.
    let pre = c.requires in
    let some = pre.0.pinned _ pre.1 (is-gate _ _ _ pre.2 pre.3) in
    let few = pre.0.few _ pre.1 in
    let high : 6 ≤ c.args.k = omega arith in
    let two = pairs (goal.at.returns-in_default c).After-and-2 t f vs true (is-or _ _ pre.2 high pre.4) free l e in
    let pins = shows-four t _ _ (λ p. invert (pin_seen c.args.c.now f vs c.args.n p)) _ some few (c.and-all.ensures t _ _ two.0 two.1) in
    shows-gate t _ _ _ _ _ refl
    (shows-or-gate t _ _ _ _ high pre.4
    (c.finish-in_default.ensures t _ (rw (invert-pins (pin_seen c.args.c.now f vs c.args.n) 1 (pin_count c.args.c.now c.args.n)) at pins)))
