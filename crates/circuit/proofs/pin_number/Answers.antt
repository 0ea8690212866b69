use mathlib.Core.Path.{◌≡◌, refl}
use Prim.Native.Nat.{ℕ, ◌<◌, ◌≤◌}
use mathlib.Core.List.{List}
use native.Mathlib.Omega.{arith}
use Rattle.model.specs.Inputs.{N, kind, pin_count, pin_line}
use Rattle.model.specs.Accepted.{ValidCircuit}
use Rattle.model.proofs.Implication.{gate-kind}
use Rattle.circuit.specs.Table.{pin_read, is_or, pin_number}
use Rattle.circuit.proofs.Laws.{from_bool-le, from_bool-cond, is-gate, pin-read-has, pin-read-lower}
use Rattle.circuit.proofs.pin_number.Goals.{After-pin_read-pin}
use Rattle.circuit.proofs.pin_number.Goals as goal

-- the pin that is read: one that the gate has, of a lower line
record ReadOf (c : List ℕ) (n q : ℕ) : Type 0 where
  few : 1 ≤ q
  most : q ≤ 4
  low : pin_line c n q < n

read_of : (c : List ℕ) (n p k count q : ℕ) → ValidCircuit c → n < N c → 1 ≤ p → k ≡ kind c n → 2 ≤ k → count ≡ pin_count c n → q ≡ pin_read count p → ReadOf c n q
read_of c n p k count q v h one e two counted r =
    let gate = is-gate _ _ _ e two in
    let has = pin-read-has (pin_count c n) p (v.pinned _ h gate) one in
    let low = pin-read-lower _ v _ p h gate one in
    rw (r, counted) record { few = has.0; most = omega (arith, has.1, v.few _ h); low = low }

-- the pin that was read
pin-read-of : (c : After-pin_read-pin) → ReadOf c.args.c.now c.args.n c.pin_read-pin.result
pin-read-of c =
    let pre = c.requires in
    read_of _ _ _ _ _ _ pre.0 pre.1 pre.2 (c.field-k.ensures.kind refl) (omega (arith, c.if-k-lt2.false)) c.pins_of.ensures.0 c.pin_read-pin.ensures

pub returns-then-k-lt2 : goal.returns-then-k-lt2
returns-then-k-lt2 c = λ g. absurd (let z : ⊥ = omega (arith, gate-kind _ _ g, c.field-k.ensures.kind refl) in z)

pub pin_of-requires : goal.pin_of-requires
pin_of-requires c = let r = pin-read-of c in let pre = c.requires in (omega (arith, pre.0.size, pre.1), r.few, r.most)

pub overflow_cast-result : goal.overflow_cast-result
overflow_cast-result c =
    let pre = c.requires in
    omega (arith, c.pin_of.ensures.0, c.from.ensures, from_bool-le, pre.0.lines, pre.1, (pin-read-of (goal.at.overflow_cast-result c).After-pin_read-pin).low)

pub returns : goal.returns
unfolding pin_number is_or
returns c = λ g. rw (c.pin_of.ensures.0, c.from.ensures, from_bool-cond _, c.pin_read-pin.ensures, c.pins_of.ensures.0, c.field-k.ensures.kind refl)
