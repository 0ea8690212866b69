use mathlib.Core.Path.{◌≡◌, refl}
use mathlib.Core.Bool.{false}
use mathlib.Core.List.{List}
use Prim.Native.Nat.{ℕ, ◌/◌, ◌≤◌}
use native.Mathlib.Omega.{arith}
use borrow.Author.Tests.{ne_eqb}
use lib.ListN.{length}
use Rattle.model.specs.Inputs.{kind, pin_count, Fault}
use Rattle.model.specs.Values.{invert_if}
use Rattle.model.specs.Simulation.{is_stuck, pin_seen, pins_seen}
use Rattle.lanes.specs.declared.Lanes.{Lanes}
use Rattle.lanes.specs.Lane.{Holds, Lane}
use Rattle.circuit.specs.Table.{pin_read, is_or}
use Rattle.circuit.proofs.Laws.{is-gate}
use Rattle.unit.specs.Unit.{pin_tabled}
use Rattle.unit.proofs.Laws.{shows-gate}
use Rattle.unit.proofs.Parity.{xor_four, odd-pins, even_pins, shows_parity}
use Rattle.unit.proofs.xor_gate.Goals.{After-xor-all}
use Rattle.unit.proofs.xor_gate.Goals as goal

is-no-or : (c : After-xor-all) → is_or c.args.c.now c.args.n ≡ false
unfolding is_or
is-no-or c = ne_eqb (kind c.args.c.now c.args.n / 2) 3 (λ q. (let z : ⊥ = omega (arith, c.requires.2, c.requires.3, q) in z))

-- what a pin sees, and what it is read as
abbrev sees : (c : After-xor-all) → Fault → List ℕ → ℕ → ℕ
sees c f vs = pin_seen c.args.c.now f vs c.args.n

plain : (c : After-xor-all) (t : ℕ) (f : Fault) (vs : List ℕ) (x : Lanes) (p : ℕ) → Holds t x (pin_tabled c.args.c.now f vs c.args.n p)
    → Holds t x (sees c f vs (pin_read (pin_count c.args.c.now c.args.n) p))
unfolding pin_tabled invert_if
plain c t f vs x p h = rw (is-no-or c) at h

-- the XOR of the four pins that are read
all : (c : After-xor-all) → (t : ℕ) (f : Fault) (vs : List ℕ) → ((pin : ℕ) → is_stuck f c.args.n pin ≡ false) → Lane t c.args.words.now vs → c.args.n ≤ length vs
    → Holds t c.xor-all.result (xor_four (sees c f vs) (pin_count c.args.c.now c.args.n))
all c t f vs free l e =
    let pin = plain c t f vs in
    c.xor-all.ensures t _ _ (pin _ 1 (c.free_pin-first.ensures t f vs free l e))
    (c.xor-2.ensures t _ _ (pin _ 2 (c.free_pin-second.ensures t f vs free l e))
    (c.xor.ensures t _ _ (pin _ 3 (c.free_pin-third.ensures t f vs free l e)) (pin _ 4 (c.free_pin-fourth.ensures t f vs free l e))))

-- the kind is that of XOR or XNOR
parity : (s : After-xor-all) → s.args.k / 2 ≡ 4
parity s = omega (arith, s.requires.0.kinds _ s.requires.1, s.requires.2, s.requires.3)

pub returns-then-pins_of-eq1 : goal.returns-then-pins_of-eq1
unfolding pins_seen
returns-then-pins_of-eq1 c = λ t f vs free l e.
    let odd = odd-pins (sees (goal.at.returns-then-pins_of-eq1 c).After-xor-all f vs) _ (c.requires.0.few _ c.requires.1) (omega (arith, c.if-pins_of-eq1.true, c.pins_of.ensures.0)) in
    shows-gate t _ _ _ _ _ refl
    (c.finish.ensures t _
    (shows_parity t _ _ _ _ _ (parity (goal.at.returns-then-pins_of-eq1 c).After-xor-all) odd
    (c.xor-then-pins_of-eq1.ensures t _ _ (plain (goal.at.returns-then-pins_of-eq1 c).After-xor-all t f vs _ 1 (c.free_pin-first.ensures t f vs free l e)) (all (goal.at.returns-then-pins_of-eq1 c).After-xor-all t f vs free l e))))

pub returns : goal.returns
unfolding pins_seen
returns c = λ t f vs free l e.
    let even = even_pins (sees (goal.at.returns c).After-xor-all f vs) _ (c.requires.0.pinned _ c.requires.1 (is-gate _ _ _ c.requires.2 (omega (arith, c.requires.3)))) (c.requires.0.few _ c.requires.1) (λ q. (let z : ⊥ = omega (arith, c.if-pins_of-eq1.false, c.pins_of.ensures.0, q) in z)) in
    shows-gate t _ _ _ _ _ refl (c.finish-2.ensures t _ (shows_parity t _ _ _ _ _ (parity (goal.at.returns c).After-xor-all) even (all (goal.at.returns c).After-xor-all t f vs free l e)))
