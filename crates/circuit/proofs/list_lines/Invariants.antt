-- The table begins with the lines below n that have 1 in the byte, and s counts them.
use mathlib.Core.Path.{◌≡◌}
use Prim.Native.Nat.{◌≤◌}
use Rattle.lists.specs.Scan.{count_below, select}
use Rattle.circuit.specs.Table.{Listed, byte_is_one}
use Rattle.circuit.proofs.list_lines.Given as goal

abbrev pub invariant-loop-n : goal.invariant-loop-n
invariant-loop-n l = record {
  few : l.s ≤ l.n;
  counted : l.s ≡ count_below (λ m. byte_is_one l.c l.byte m) l.n;
  listed : Listed (select (λ m. byte_is_one l.c l.byte m) l.n) l.table;
}
