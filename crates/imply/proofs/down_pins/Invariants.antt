-- First the pins below i have been read; then they have been given what the gate implies for them.
use mathlib.Core.Path.{◌≡◌}
use mathlib.Core.Bool.{false}
use mathlib.Core.List.{List}
use Prim.Native.Nat.{ℕ, ◌+◌, ◌<◌}
use lib.ListN.{length, get_or}
use Rattle.model.specs.Inputs.{N, pin_line, Fault}
use Rattle.model.specs.Values.{invert_if, inverts, has_conflict}
use Rattle.model.specs.Simulation.{pin_seen, pins_seen}
use Rattle.lanes.specs.Lane.{Holds, Lane, Follows, all_x}
use Rattle.unit.specs.Unit.{StuckAt}
use Rattle.imply.proofs.Gate.{Led, given}
use Rattle.imply.proofs.down_pins.Given as goal

abbrev pub invariant-loop-i : goal.invariant-loop-i
invariant-loop-i g l =
    (length l.sees ≡ g.row.P)
    × ((j : ℕ) → j < l.i → (t : ℕ) (f : Fault) (vs : List ℕ) → StuckAt t l.masks l.row f l.n → Lane t l.words vs → pin_line l.c l.n (j + 1) < length vs
    → Holds t (get_or l.sees j all_x) (pin_seen l.c f vs l.n (j + 1)))

abbrev pub invariant-loop-i-2 : goal.invariant-loop-i-2
invariant-loop-i-2 g l =
    (t : ℕ) (f : Fault) (vs : List ℕ) (a : ℕ) → StuckAt t l.masks l.row f l.n → length vs ≡ N l.c → a < 3 → (has_conflict vs ≡ false → Holds t l.v (invert_if (inverts l.k) a))
    → Follows t l.initial.words vs → Led t l.words vs (given l.c f l.n a (pins_seen l.c f vs l.n) l.i vs)
