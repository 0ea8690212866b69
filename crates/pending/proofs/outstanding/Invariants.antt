-- The units from u on were compared, whose places are those from `to` on; `later` is Nout(u), and the table has Nout of each of them.
use mathlib.Core.Path.{◌≡◌}
use mathlib.Core.List.{List}
use Prim.Native.Nat.{ℕ, ◌+◌, ◌*◌, ◌≤◌}
use Rattle.model.specs.Inputs.{Fault}
use Rattle.pending.specs.Pending.{Responses}
use Rattle.pending.proofs.Laws.{From}
use Rattle.pending.proofs.outstanding.Given as goal

abbrev pub invariant-loop-u : goal.invariant-loop-u
invariant-loop-u l =
    (l.compared + l.to ≡ l.units * l.outputs) × (l.to ≡ l.outputs * l.u) × (l.later ≤ l.compared)
    × ((c t : List ℕ) (f : Fault) → Responses l.units l.outputs l.free l.faulty c t f → From l.units l.table l.u l.later c t f)
