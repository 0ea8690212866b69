-- The numbers of the places below e are those that the table is to have.
use mathlib.Core.Path.{◌≡◌}
use mathlib.Core.Bool.{true}
use Prim.Native.Nat.{ℕ, ◌+◌, ◌/◌, ◌%◌, ◌<◌}
use lib.ListN.{get_or}
use Rattle.model.specs.Inputs.{is_gate}
use Rattle.circuit.specs.Table.{pin_number}
use Rattle.circuit.proofs.list_pins.Given as goal

abbrev pub invariant-loop-e : goal.invariant-loop-e
invariant-loop-e l = (i : ℕ) → i < l.e → is_gate l.c (i / 4) ≡ true → get_or l.table i 0 ≡ pin_number l.c (i / 4) (i % 4 + 1)
