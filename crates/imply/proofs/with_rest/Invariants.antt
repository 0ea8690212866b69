-- `all` is what the pins from j on but pin i give together with the rest.
use mathlib.Core.List.{List}
use Prim.Native.Nat.{ℕ, ◌-◌, ◌/◌, ◌<◌}
use lib.ListN.{get_or}
use Rattle.model.specs.Values.{X, even_gate}
use Rattle.lanes.specs.Lane.{Holds, all_x}
use Rattle.imply.specs.Implied.{picked}
use Rattle.imply.proofs.with_rest.Given as goal

abbrev pub invariant-loop-j : goal.invariant-loop-j
invariant-loop-j l =
    (t : ℕ) (vs tail : List ℕ) → ((j : ℕ) → j < l.n → Holds t (get_or l.sees j all_x) (get_or vs j X)) → Holds t l.fn.rest (even_gate (l.k / 2) tail)
    → Holds t l.all (even_gate (l.k / 2) (picked vs l.i (l.n - l.j) l.j tail))
