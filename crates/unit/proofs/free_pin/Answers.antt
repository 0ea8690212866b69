use mathlib.Core.Path.{◌≡◌, ◌∙◌}
use mathlib.Core.Bool.{Bool, true, false, cond}
use Prim.Native.Nat.{ℕ, ◌+◌, ◌*◌, ◌/◌, ◌%◌, ◌<◌}
use native.Mathlib.Omega.{arith}
use lib.ListN.{get_or}
use Rattle.model.specs.Inputs.{pin_count, pin_line}
use Rattle.model.specs.Simulation.{seen, pin_seen}
use Rattle.lanes.proofs.Laws.{holds_as, lane-at, holds-turned}
use Rattle.circuit.specs.Table.{pin_read, is_or, pin_number}
use Rattle.circuit.proofs.Laws.{pin-read-lower}
use Rattle.unit.specs.Unit.{pin_tabled}
use Rattle.unit.proofs.free_pin.Goals.{After-from}
use Rattle.unit.proofs.free_pin.Goals as goal

-- the line that is read
abbrev line : After-from → ℕ
line c = pin_line c.args.c.now c.args.n (pin_read (pin_count c.args.c.now c.args.n) (c.args.i + 1))

lower : (c : After-from) → line c < c.args.n
lower c = pin-read-lower _ c.requires.0 _ (c.args.i + 1) c.requires.1 c.requires.2 (omega arith)

-- what stands in the table
numbered : (c : After-from) → get_or c.args.pins.now (4 * c.args.n + c.args.i) 0 ≡ 2 * line c + cond (is_or c.args.c.now c.args.n) 1 0
unfolding pin_number
numbered c =
    let row : (4 * c.args.n + c.args.i) / 4 ≡ c.args.n = omega (arith, c.requires.3) in
    let pin : (4 * c.args.n + c.args.i) % 4 ≡ c.args.i = omega (arith, c.requires.3) in
    rw (row, pin) at (c.requires.4.same (4 * c.args.n + c.args.i) (omega (arith, c.requires.1, c.requires.3)) (rw row c.requires.2))

half : (q n : ℕ) (turned : Bool) → q < n → (2 * q + cond turned 1 0) / 2 < n
half q n true l = omega arith
half q n false l = omega arith

pub read_turned-requires : goal.read_turned-requires
read_turned-requires c =
    let is = c.from.ensures ∙ numbered c in
    omega (arith, c.requires.5, rw (← is) at (half _ _ (is_or c.args.c.now c.args.n) (lower c)))

pub returns : goal.returns
unfolding pin_tabled pin_seen seen
returns c = λ t f vs free l e.
    let or = is_or c.args.c.now c.args.n in
    holds_as t c.read_turned.result _ _ (c.read_turned.ensures _ or (c.from.ensures ∙ numbered (goal.at.returns c).After-from))
    (holds-turned t _ _ or (rw (free (pin_read (pin_count c.args.c.now c.args.n) (c.args.i + 1))) (lane-at t _ vs _ l (omega (arith, e, lower (goal.at.returns c).After-from)))))
